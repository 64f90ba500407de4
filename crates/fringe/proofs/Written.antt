-- The tracks of the passes as they are written one behind the other, with what is left to write. Assumes nothing.
use mathlib.Core.Path.{◌≡◌, refl, sym, ap, ap₂, ◌∙◌}
use mathlib.Core.List.{List, [], ◌∷◌, ◌++◌, append_assoc, append-nil}
use Prim.Native.Nat.{ℕ, suc, ◌+◌, ◌*◌, ◌-◌, ◌/◌, ◌≤◌, ◌<◌}
use native.Mathlib.Numerals.{add-one}
use native.Mathlib.Omega.{arith}
use lib.IntN.{ℤ, pos}
use lib.ListN.{length, take, drop, set, replicate, length-drop, take-append-drop, drop_of_length-le}
use lib.Seq.{length-take-le, take_all, take-append-add, drop-append-add, take-suc-set, drop-set-lt, drop-drop}
use Rattle.whole.specs.Whole.{pos_part, ∣◌∣}
use Rattle.whole.proofs.Refusals.{first_zero}
use Rattle.sections.specs.File.{refusal_of_rule, count_of_rule}
use Rattle.track.specs.Answer.{Outcome}
use Rattle.fringe.specs.PassTrack.{pass_outcome}
use Rattle.fringe.specs.AllTracks.{Turns, in_turn}
use Rattle.fringe.specs.Sharing.{segments_in}
use Rattle.track.proofs.Runs.{less_none}
use Rattle.fringe.proofs.Passes.{count_is}
use Rattle.fringe.proofs.Sharing.{from_next, from_all, answered}

-- the tracks of the first i of n passes stand in the first `at` numbers of the room, their counts in the first i of the counts, which are 0 behind them; with
-- those of the other passes, which are given the rest of the room, they are the tracks of all
pub record WrittenTo (s : List ℕ) (n : ℕ) (start room counts : List ℤ) (at i : ℕ) : Type 0 where
  pub room_is : (in_turn s n 0 start).room ≡ take at room ++ (in_turn s (n - i) i (drop at room)).room
  pub counts_are : (in_turn s n 0 start).counts ≡ take i counts ++ (in_turn s (n - i) i (drop at room)).counts
  pub zeros : drop i counts ≡ replicate (64 - i) (pos 0)
  pub none-refused : (in_turn s (n - i) i (drop at room)).refusal ≡ 0

-- one pass more: it is answered, its segments go to the start of the rest of the room, and its count behind the others
module _ (s : List ℕ) (h : refusal_of_rule s ≡ 0) (n i : ℕ) (l : i < n) (c : n ≤ count_of_rule s 3) (start room counts : List ℤ) (at : ℕ) (w : WrittenTo s n start room counts at i) where
  abbrev others : ℕ
  others = n - (i + 1)

  abbrev outcome : Outcome
  outcome = pass_outcome s i (drop at room)

  abbrev used : ℕ
  used = 4 * pos_part outcome.answer.value

  abbrev behind : Turns
  behind = in_turn s others (suc i) (drop used outcome.room)

  refusals : (∣ outcome.answer.refusal ∣ ≡ 0) × (behind.refusal ≡ 0)
  unfolding in_turn
  refusals =
      let e = ap (λ (m : ℕ). (in_turn s m i (drop at room)).refusal) (sym (from_next n i l)) ∙ w.none-refused in
      let f = first_zero ∣ outcome.answer.refusal ∣ (behind.refusal ∷ []) e in
      (f.0, (first_zero behind.refusal [] f.1).0)

  pub count_here : outcome.answer.value ≡ pos (segments_in s i)
  count_here = let a = answered s h i (omega arith) (drop at room) refusals.0 in count_is s h i (omega arith) a.0 (drop at room) a.1

  pub fits_here : segments_in s i ≤ length (drop at room) / 4
  fits_here = (answered s h i (omega arith) (drop at room) refusals.0).1

  module _ (within : at ≤ length room) (after : List ℤ) (e : after ≡ take at room ++ outcome.room) where
    long : length (take at room) ≡ at
    long = length-take-le at room within

    front : take (at + used) after ≡ take at room ++ take used outcome.room
    front = ap (take (at + used)) e ∙ ap (λ (k : ℕ). take (k + used) (take at room ++ outcome.room)) (sym long) ∙ take-append-add (take at room) outcome.room used

    rest : drop (at + used) after ≡ drop used outcome.room
    rest = ap (drop (at + used)) e ∙ ap (λ (k : ℕ). drop (k + used) (take at room ++ outcome.room)) (sym long) ∙ drop-append-add (take at room) outcome.room used

    turns : in_turn s others (suc i) (drop (at + used) after) ≡ behind
    turns = ap (in_turn s others (suc i)) rest

    written_next : i < 64 → length counts ≡ 64 → WrittenTo s n start after (set counts i outcome.answer.value) (at + used) (suc i)
    unfolding in_turn
    written_next few full =
        let now = ap (λ (m : ℕ). in_turn s m i (drop at room)) (from_next n i l) in
        let m : n - suc i ≡ others = ap (λ (k : ℕ). n - k) (sym (add-one i)) in
        let v = outcome.answer.value in
        record {
          room_is =
              w.room_is
              ∙ ap (λ (t : Turns). take at room ++ t.room) now
              ∙ sym (append_assoc (take at room) (take used outcome.room) behind.room)
              ∙ ap₂ ◌++◌ (sym front) (ap (λ (t : Turns). t.room) (sym turns) ∙ ap (λ (k : ℕ). (in_turn s k (suc i) (drop (at + used) after)).room) (sym m));
          counts_are =
              w.counts_are
              ∙ ap (λ (t : Turns). take i counts ++ t.counts) now
              ∙ sym (append_assoc (take i counts) (v ∷ []) behind.counts)
              ∙ ap₂ ◌++◌ (sym (take-suc-set counts i v (omega (arith, few, full)))) (ap (λ (t : Turns). t.counts) (sym turns) ∙ ap (λ (k : ℕ). (in_turn s k (suc i) (drop (at + used) after)).counts) (sym m));
          zeros = drop-set-lt (suc i) counts i v (omega arith) ∙ ap (λ (k : ℕ). drop k counts) (sym (add-one i)) ∙ sym (drop-drop 1 i counts) ∙ ap (drop 1) w.zeros ∙ fewer i few;
          none-refused = ap (λ (k : ℕ). (in_turn s k (suc i) (drop (at + used) after)).refusal) m ∙ ap (λ (t : Turns). t.refusal) turns ∙ refusals.1;
        }
      where
        fewer : (k : ℕ) → k < 64 → drop 1 (replicate (64 - k) (pos 0)) ≡ replicate (64 - suc k) (pos 0)
        fewer k f = rw (from_next 64 k f, add-one k) refl

    -- as the code has it: its value v, k numbers written, j passes done
    pub written_more : (v : ℤ) (m k j : ℕ) → i < 64 → length counts ≡ 64 → v ≡ outcome.answer.value → m ≡ segments_in s i → k ≡ at + 4 * m → j ≡ i + 1 → WrittenTo s n start after (set counts i v) k j
    written_more v m k j few full p q e' f =
        let u : m ≡ pos_part outcome.answer.value = q ∙ sym (ap pos_part count_here) in
        rw (p, e', u, f, add-one i) (written_next few full)

-- ---- the rest of a room, lent and given back

pub rest_lent : (at : ℕ) (room : List ℤ) → take (length room - at) (drop at room) ≡ drop at room
rest_lent at room = take_all (length room - at) (drop at room) (omega (arith, length-drop at room))

pub rest_back : (at : ℕ) (room ys : List ℤ) → take at room ++ (ys ++ drop (length room - at) (drop at room)) ≡ take at room ++ ys
rest_back at room ys =
    ap (λ (zs : List ℤ). take at room ++ (ys ++ zs)) (drop_of_length-le (drop at room) {i = length room - at} (omega (arith, length-drop at room)))
    ∙ ap (λ (zs : List ℤ). take at room ++ zs) (append-nil ys)

-- ---- none is written yet, and all are

pub written_none : (s : List ℕ) (n : ℕ) (room : List ℤ) → (in_turn s n 0 room).refusal ≡ 0 → WrittenTo s n room room (replicate 64 (pos 0)) 0 0
written_none s n room e =
    let z = ap (λ (m : ℕ). in_turn s m 0 room) (sym (less_none n)) in
    record {
      room_is = ap (λ (t : Turns). t.room) z;
      counts_are = ap (λ (t : Turns). t.counts) z;
      zeros = refl;
      none-refused = ap (λ (t : Turns). t.refusal) (sym z) ∙ e;
    }

module _ (s : List ℕ) (n i : ℕ) (l : i ≡ n) (start room counts : List ℤ) (at : ℕ) (w : WrittenTo s n start room counts at i) where
  done : in_turn s (n - i) i (drop at room) ≡ record { refusal = 0; counts = []; room = drop at room }
  unfolding in_turn
  done = rw (from_all n i (omega arith)) refl

  pub all_room : room ≡ (in_turn s n 0 start).room
  all_room = sym (take-append-drop at room) ∙ ap (λ (t : Turns). take at room ++ t.room) (sym done) ∙ sym w.room_is

  pub all_counts : counts ≡ (in_turn s n 0 start).counts ++ replicate (64 - n) (pos 0)
  all_counts =
      sym (take-append-drop i counts)
      ∙ ap (λ (zs : List ℤ). take i counts ++ zs) w.zeros
      ∙ ap₂ ◌++◌ (sym (append-nil (take i counts)) ∙ ap (λ (t : Turns). take i counts ++ t.counts) (sym done) ∙ sym w.counts_are) (ap (λ (m : ℕ). replicate (64 - m) (pos 0)) l)
