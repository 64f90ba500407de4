-- THE THEOREMS of document 02, L2: `all_tracks` answers as single calls in turn, and leaves the room where it is refused. Assumes nothing.
use mathlib.Core.Path.{◌≡◌, refl, sym, ap, ◌∙◌}
use mathlib.Core.List.{List, [], ◌∷◌, ◌++◌, map}
use Prim.Native.Nat.{ℕ, zero, suc, ◌+◌, ◌*◌, ◌/◌, ◌≤◌, ◌<◌}
use native.Mathlib.Decide.{ℕ_discrete}
use native.Mathlib.Omega.{arith}
use lib.IntN.{ℤ, pos}
use lib.ListN.{length, take, drop, replicate}
use Rattle.whole.specs.Whole.{pos_part, ∣◌∣}
use Rattle.whole.specs.Refusals.{first_of}
use Rattle.whole.specs.declared.Number.{Number}
use Rattle.whole.proofs.Answers.{given_yes, given_no}
use Rattle.whole.proofs.Refusals.{first_is, first_one, first_then}
use Rattle.sections.specs.File.{refusal_of_rule, count_of_rule}
use Rattle.track.specs.Answer.{Outcome}
use Rattle.fringe.specs.declared.Tracks.{Tracks}
use Rattle.fringe.specs.PassTrack.{pass_number}
use Rattle.fringe.specs.AllTracks.{Turns, in_turn, all_number, AllOutcome, tracks, no_tracks_rule, all_outcome}
use Rattle.fringe.specs.OneByOne.{Asked, none, next, first_refusal, AsAsked}
use Rattle.fringe.specs.Promises.{AllTracksPromise}
use Rattle.fringe.specs.Sharing.{most_from_rule}
use Rattle.fringe.proofs.Sharing.{turn-number, half_enough}

-- ---- by its number

pub refused_all : (s : List ℕ) (room : List ℤ) (n : ℕ) → all_number s room ≡ n → (n ≡ 0 → ⊥) → all_outcome s room ≡ record { answer = no_tracks_rule n; room = room }
unfolding all_outcome
refused_all s room n e f = given_no (all_number s room) _ (λ m. record { answer = no_tracks_rule m; room = room }) (λ z. f (sym e ∙ z)) ∙ ap (λ (m : ℕ). record { answer = no_tracks_rule m; room = room }) e

pub answered_all : (s : List ℕ) (room : List ℤ) → all_number s room ≡ 0
    → let all = in_turn s (count_of_rule s 3) 0 room in all_outcome s room ≡ record { answer = tracks (count_of_rule s 3) all.counts; room = all.room }
unfolding all_outcome
answered_all s room e = given_yes (all_number s room) _ (λ m. record { answer = no_tracks_rule m; room = room }) e

-- the number of a file that is refused, and of one that is accepted
pub of_file : (s : List ℕ) (room : List ℤ) → (refusal_of_rule s ≡ 0 → ⊥) → all_number s room ≡ refusal_of_rule s
unfolding all_number
of_file s room f = first_is (refusal_of_rule s) ((in_turn s (count_of_rule s 3) 0 room).refusal ∷ []) f

pub of_passes_lem : (s : List ℕ) (room : List ℤ) → refusal_of_rule s ≡ 0 → all_number s room ≡ (in_turn s (count_of_rule s 3) 0 room).refusal
unfolding all_number
of_passes_lem s room h = rw h (first_one (in_turn s (count_of_rule s 3) 0 room).refusal)

-- ---- single calls in turn

-- an outcome, then what the others give
abbrev followed : Outcome → Turns → Turns
followed o others =
    record {
      refusal = first_of (∣ o.answer.refusal ∣ ∷ others.refusal ∷ []);
      counts = o.answer.value ∷ others.counts;
      room = take (4 * pos_part o.answer.value) o.room ++ others.room;
    }

asked-turns : (s : List ℕ) (m i : ℕ) (room : List ℤ) (rs : List Number) (last : List ℤ) → Asked s m i room rs last
    → in_turn s m i room ≡ record { refusal = first_refusal rs; counts = map (λ (r : Number). r.value) rs; room = last }
unfolding in_turn
asked-turns s zero i room [] last none = refl
asked-turns s zero i room (r ∷ rs) last x = elim x [ ]
asked-turns s (suc m) i room [] last x = elim x [ ]
asked-turns s (suc m) i room (r ∷ rs) last (next {after} {last = end} p q) =
    let k = 4 * pos_part r.value in
    ap (λ (o : Outcome). followed o (in_turn s m (suc i) (drop (4 * pos_part o.answer.value) o.room))) (sym p)
    ∙ ap (followed (record { answer = r; room = after })) (asked-turns s m (suc i) (drop k after) rs end q)
    ∙ ap (λ (n : ℕ). record { refusal = n; counts = r.value ∷ map (λ (x : Number). x.value) rs; room = take k after ++ end }) (first_then ∣ r.refusal ∣ (map (λ (x : Number). ∣ x.refusal ∣) rs))

-- THE THEOREM: all passes in one call are answered as pass by pass
pub as_asked : (s : List ℕ) (room : List ℤ) (rs : List Number) (last : List ℤ) (r : Tracks) (after : List ℤ) → refusal_of_rule s ≡ 0 → Asked s (count_of_rule s 3) 0 room rs last → AllTracksPromise s room r after → AsAsked s room rs last r after
as_asked s room rs last r after h a e = record {
  all_answered = λ z. both (e ∙ answered_all s room (number ∙ z) ∙ ap (λ (u : Turns). record { answer = tracks (count_of_rule s 3) u.counts; room = u.room }) t);
  one-refused = λ f. both (e ∙ refused_all s room (first_refusal rs) number f);
}
  where
    t : in_turn s (count_of_rule s 3) 0 room ≡ record { refusal = first_refusal rs; counts = map (λ (x : Number). x.value) rs; room = last }
    t = asked-turns s (count_of_rule s 3) 0 room rs last a

    number : all_number s room ≡ first_refusal rs
    number = of_passes_lem s room h ∙ ap (λ (u : Turns). u.refusal) t

    both : {q : Tracks} {zs : List ℤ} → ◌≡◌ {A = AllOutcome} (record { answer = r; room = after }) (record { answer = q; room = zs }) → (r ≡ q) × (after ≡ zs)
    both p = (ap (λ (o : AllOutcome). o.answer) p, ap (λ (o : AllOutcome). o.room) p)

-- ---- refused, and not refused

-- THE THEOREM: where it is refused the room is as it was, and every count is 0
pub refused_leaves : (s : List ℕ) (room : List ℤ) (r : Tracks) (after : List ℤ) → AllTracksPromise s room r after → (r.refusal ≡ pos 0 → ⊥) → (after ≡ room) × (r.counts ≡ replicate 64 (pos 0))
refused_leaves s room r after e f = by (ℕ_discrete (all_number s room) 0)
  where
    by : Dec (all_number s room ≡ 0) → (after ≡ room) × (r.counts ≡ replicate 64 (pos 0))
    by (yes z) = absurd (f (ap (λ (o : AllOutcome). o.answer.refusal) (e ∙ answered_all s room z)))
    by (no g) = let p = e ∙ refused_all s room (all_number s room) refl g in (ap (λ (o : AllOutcome). o.room) p, ap (λ (o : AllOutcome). o.answer.counts) p)

-- room for half the samples of every pass, rounded up, is enough: where no pass is refused by itself the call is not
pub ample_answered : (s : List ℕ) (room : List ℤ) (r : Tracks) (after : List ℤ) → refusal_of_rule s ≡ 0 → ((i : ℕ) → i < count_of_rule s 3 → pass_number s i ≡ 0) → most_from_rule s (count_of_rule s 3) 0 ≤ length room / 4 → AllTracksPromise s room r after → r.refusal ≡ pos 0
ample_answered s room r after h n l e =
    let k : 0 + count_of_rule s 3 ≤ count_of_rule s 3 = omega arith in
    let z = half_enough s h (count_of_rule s 3) 0 (length room / 4) k l (λ j p q. n j (omega (arith, q))) in
    ap (λ (o : AllOutcome). o.answer.refusal) (e ∙ answered_all s room (of_passes_lem s room h ∙ turn-number s h (count_of_rule s 3) 0 room k ∙ z))
