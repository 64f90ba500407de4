-- A pass of a file that is accepted: what its track call answers by the room, and how many segments it takes at most. Assumes nothing.
use mathlib.Core.Path.{◌≡◌, refl, sym, ap, ap₂, ◌∙◌}
use mathlib.Core.Bool.{Bool, true, false}
use mathlib.Core.List.{List, [], ◌∷◌}
use mathlib.Core.Logic.{⊎_elim}
use Prim.Native.Nat.{ℕ, ◌/◌, ◌≤◌, ◌<◌}
use native.Mathlib.Decide.{ℕ_discrete}
use native.Mathlib.Omega.{arith}
use borrow.Author.Tests.{le-leb, lt-leb}
use lib.Dec.{leb}
use lib.IntN.{ℤ, pos, nat_abs}
use lib.ListN.{length, get_or, take, replicate, length-replicate}
use Rattle.whole.specs.Whole.{pos_part, ∣◌∣}
use Rattle.whole.specs.Refusals.{unless, first_of}
use Rattle.whole.specs.Values.{first_values}
use Rattle.whole.specs.declared.Number.{Number}
use Rattle.whole.proofs.Answers.{given_yes, given_no, given-same, answer_yes}
use Rattle.whole.proofs.Each.{below_all}
use Rattle.whole.proofs.Refusals.{first_is}
use Rattle.whole.proofs.Values.{values_long, value_at}
use Rattle.fields.specs.declared.Pass.{Pass}
use Rattle.fields.specs.Ranges.{tolerance}
use Rattle.fields.specs.Records.{InPass}
use Rattle.fields.proofs.Inside.{holds_inside}
use Rattle.sections.specs.File.{refusal_of_rule, count_of_rule}
use Rattle.session.specs.Records.{pass_of_rule}
use Rattle.session.proofs.Laws.{pass_in}
use Rattle.delay.specs.Calls.{samples_of, all_covered_rule, sample_in, samples_number, samples_outcome, samples_room}
use Rattle.delay.specs.Keeping.{places_of, places_there, lacks_of, room_by_rule}
use Rattle.delay.proofs.Epochs.{samples-count}
use Rattle.delay.proofs.Numbers.{lacks_number, none_lacking}
use Rattle.delay.proofs.Theorems.{record_bounded}
use Rattle.fit.proofs.Tests.{lt_or}
use Rattle.track.specs.Segments.{Segment}
use Rattle.track.specs.Made.{track_of}
use Rattle.track.specs.Answer.{Outcome, in_range, outcome, refused, written}
use Rattle.track.proofs.Answers.{answer_0, answer_8, half_most}
use Rattle.fringe.specs.PassTrack.{pass_samples_rule, pass_number, pass_outcome}
use Rattle.fringe.specs.OfRecord.{samples_by, outcome_by, TrackBy}
use Rattle.fringe.specs.Promises.{PassTrackPromise}
use Rattle.fringe.specs.Sharing.{segments_in, most_of, taken_by_rule, taken_of}
use Rattle.fringe.proofs.Taken.{room_start}

-- the track of pass i
abbrev pub pass_track_lem : List ℕ → ℕ → List Segment
pass_track_lem s i = track_of (pass_samples_rule s i) (pos_part (pass_of_rule s i).tolerance)

pub size_pos : (n : ℕ) → ∣ pos n ∣ ≡ n
size_pos n = omega arith

-- ---- what its track call answers

-- where the file lacks nothing for a pass it is `track` that answers; else the pass is refused, and leaves the room
pub made : (s : List ℕ) (i : ℕ) (room : List ℤ) → pass_number s i ≡ 0 → pass_outcome s i room ≡ outcome (pass_samples_rule s i) (pass_of_rule s i).tolerance room
unfolding pass_outcome
made s i room e = given_yes (pass_number s i) _ (λ n. refused n room) e

pub lacking : (s : List ℕ) (i : ℕ) (room : List ℤ) → (pass_number s i ≡ 0 → ⊥) → pass_outcome s i room ≡ refused (pass_number s i) room
unfolding pass_outcome
lacking s i room f = given_no (pass_number s i) _ (λ n. refused n room) f

-- ---- the samples that it takes

-- where `samples` is answered, they are what it leaves at the start of its room, whatever room that is
pub held : (s : List ℕ) (i : ℕ) (place : List ℤ) → samples_number s i (length place) ≡ 0
    → take (nat_abs (samples_outcome s i (length place)).value) (samples_room s i place) ≡ samples_by s (pass_of_rule s i)
unfolding samples_outcome samples_room
held s i place e =
    let p = pass_of_rule s i in
    let n = samples_number s i (length place) in
    ap (λ (x : Number). take (nat_abs x.value) (room_by_rule s p place n)) (answer_yes n p.samples e) ∙ room_start s p place n e

pub samples_are : (s : List ℕ) (i : ℕ) → pass_number s i ≡ 0 → pass_samples_rule s i ≡ samples_by s (pass_of_rule s i)
unfolding pass_samples_rule
samples_are s i e =
    let place = replicate 4096 (pos 0) in
    let n : length place ≡ 4096 = length-replicate 4096 (pos 0) in
    ap (λ (m : ℕ). take (nat_abs (samples_outcome s i m).value) (samples_room s i place)) (sym n) ∙ held s i place (ap (samples_number s i) n ∙ e)

-- room for as many as the pass has is room for 4,096
pub lacks_same : (s : List ℕ) (p : Pass) (n : ℕ) → InPass p → samples_of p ≤ n → lacks_of s p n ≡ lacks_of s p 4096
lacks_same s p n q m =
    ap (λ (b : Bool). first_of (unless (places_there s (places_of s p)) 5 ∷ unless (all_covered_rule s p) 6 ∷ unless b 7 ∷ []))
    (le-leb (samples_of p) n m ∙ sym (le-leb (samples_of p) 4096 (samples-count p q).1))

-- those of a pass that lacks nothing are such as `track` takes
pub in_range_lem : (s : List ℕ) → refusal_of_rule s ≡ 0 → (p : Pass) → InPass p → (n : ℕ) → lacks_of s p n ≡ 0 → in_range (samples_by s p) p.tolerance ≡ true
unfolding in_range
in_range_lem s h p q n e =
    let k = samples_of p in
    let f = sample_in s p in
    let c = samples-count p q in
    let t = holds_inside tolerance p.tolerance q.tolerance in
    let g = none_lacking s p n e in
    let small : (j : ℕ) → j < k → leb ∣ get_or (first_values k f) j (pos 0) ∣ 130_000_000_000 ≡ true =
    λ j m. rw (value_at k j f m) (le-leb ∣ f j ∣ 130_000_000_000 (record_bounded s p j h g.0 g.1 m)) in
    rw (values_long k f, le-leb 1 k c.0, le-leb k 4096 c.1, t) (below_all k _ small)

-- room for 2,048 segments is always enough for it
pub lent : (s : List ℕ) → refusal_of_rule s ≡ 0 → (p : Pass) → InPass p → (room : List ℤ) → 2048 ≤ length room / 4 → lacks_of s p 4096 ≡ 0 → (outcome_by s p room).answer.value ≡ pos (length (track_of (samples_by s p) (pos_part p.tolerance)))
unfolding outcome_by
lent s h p q room m e =
    let t = in_range_lem s h p q 4096 e in
    let k : length (track_of (samples_by s p) (pos_part p.tolerance)) ≤ length room / 4 =
    omega (arith, m, half_most (samples_by s p) p.tolerance t, values_long (samples_of p) (sample_in s p), samples-count p q) in
    ap (λ (o : Outcome). o.answer.value) (given_yes (lacks_of s p 4096) _ (λ n. refused n room) e ∙ answer_0 (samples_by s p) p.tolerance room t k)

-- what it takes of the room, by its record and by its index
pub taken_same : (s : List ℕ) (i : ℕ) (b : Bool) → pass_number s i ≡ 0 → taken_of s (pass_of_rule s i) b ≡ taken_by_rule s i b
unfolding segments_in
taken_same s i true e = refl
taken_same s i false e = ap (λ (zs : List ℤ). length (track_of zs (pos_part (pass_of_rule s i).tolerance))) (sym (samples_are s i e))

-- ---- of a file that is accepted

module _ (s : List ℕ) (h : refusal_of_rule s ≡ 0) (i : ℕ) (l : i < count_of_rule s 3) where
  -- it is that of its record
  pub by_record : (room : List ℤ) → pass_outcome s i room ≡ outcome_by s (pass_of_rule s i) room
  unfolding pass_outcome outcome_by
  by_record room =
      given-same (pass_number s i) (lacks_of s (pass_of_rule s i) 4096) _ _ (λ n. refused n room) (lacks_number s i 4096 h l)
      (λ e. ap (λ (zs : List ℤ). outcome zs (pass_of_rule s i).tolerance room) (samples_are s i e))

  taken : pass_number s i ≡ 0 → in_range (pass_samples_rule s i) (pass_of_rule s i).tolerance ≡ true
  taken e = rw (samples_are s i e) (in_range_lem s h (pass_of_rule s i) (pass_in s h i l) 4096 (sym (lacks_number s i 4096 h l) ∙ e))

  module _ (e : pass_number s i ≡ 0) where
    -- half its samples, rounded up, are always enough
    pub segments-most : segments_in s i ≤ most_of (pass_of_rule s i)
    unfolding segments_in
    segments-most =
        let k = samples_of (pass_of_rule s i) in
        let n : length (pass_samples_rule s i) ≡ k = ap length (samples_are s i e) ∙ values_long k (sample_in s (pass_of_rule s i)) in
        omega (arith, half_most (pass_samples_rule s i) (pass_of_rule s i).tolerance (taken e), n)

    -- the track is written if it fits, and counted; else the pass is refused
    pub fits : (room : List ℤ) → segments_in s i ≤ length room / 4 → pass_outcome s i room ≡ written (pass_track_lem s i) room
    unfolding segments_in
    fits room k = made s i room e ∙ answer_0 (pass_samples_rule s i) (pass_of_rule s i).tolerance room (taken e) k

    pub count_is : (room : List ℤ) → segments_in s i ≤ length room / 4 → (pass_outcome s i room).answer.value ≡ pos (segments_in s i)
    unfolding segments_in
    count_is room k = ap (λ (o : Outcome). o.answer.value) (fits room k)

    too_long : (room : List ℤ) → length room / 4 < segments_in s i → pass_outcome s i room ≡ refused 8 room
    unfolding segments_in
    too_long room k = made s i room e ∙ answer_8 (pass_samples_rule s i) (pass_of_rule s i).tolerance room (taken e) k

  -- the number of the call
  pub number_is : (room : List ℤ) → (pass_outcome s i room).answer.refusal ≡ pos (first_of (pass_number s i ∷ unless (leb (segments_in s i) (length room / 4)) 8 ∷ []))
  number_is room = by (ℕ_discrete (pass_number s i) 0)
    where
      by : Dec (pass_number s i ≡ 0) → (pass_outcome s i room).answer.refusal ≡ pos (first_of (pass_number s i ∷ unless (leb (segments_in s i) (length room / 4)) 8 ∷ []))
      by (no f) = ap (λ (o : Outcome). o.answer.refusal) (lacking s i room f) ∙ ap pos (sym (first_is (pass_number s i) (unless (leb (segments_in s i) (length room / 4)) 8 ∷ []) f))
      by (yes e) =
          ⊎_elim
          (λ k. ap (λ (o : Outcome). o.answer.refusal) (too_long e room k) ∙ sym (rw (e, lt-leb (segments_in s i) (length room / 4) k) refl))
          (λ k. ap (λ (o : Outcome). o.answer.refusal) (fits e room k) ∙ sym (rw (e, le-leb (segments_in s i) (length room / 4) k) refl))
          (lt_or (length room / 4) (segments_in s i))

  -- room for 2,048 segments is always enough
  module _ (room : List ℤ) (m : 2048 ≤ length room / 4) where
    always : pass_number s i ≡ 0 → segments_in s i ≤ length room / 4
    always e = let c = samples-count (pass_of_rule s i) (pass_in s h i l) in omega (arith, segments-most e)

    pub lent-number : (pass_outcome s i room).answer.refusal ≡ pos (pass_number s i)
    lent-number = by (ℕ_discrete (pass_number s i) 0)
      where
        by : Dec (pass_number s i ≡ 0) → (pass_outcome s i room).answer.refusal ≡ pos (pass_number s i)
        by (no f) = ap (λ (o : Outcome). o.answer.refusal) (lacking s i room f)
        by (yes e) = ap (λ (o : Outcome). o.answer.refusal) (fits e room (always e)) ∙ ap pos (sym e)

    pub lent-count : pass_number s i ≡ 0 → (pass_outcome s i room).answer.value ≡ pos (segments_in s i)
    lent-count e = count_is e room (always e)

-- ---- a pass that was read

-- what its record gives is what pass i gives
pub by_index : (s t : List ℕ) (i : ℕ) (p : Pass) → t ≡ s → p ≡ pass_of_rule s i → refusal_of_rule s ≡ 0 → i < count_of_rule s 3 → (room after : List ℤ) (r : Number) → TrackBy t p room r after → PassTrackPromise s i room r after
by_index s t i p f e z l room after r k = k ∙ ap₂ (λ (s : List ℕ) (p : Pass). outcome_by s p room) f e ∙ sym (by_record s z i l room)
