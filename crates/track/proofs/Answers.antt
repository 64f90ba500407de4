-- What the call `track` answers in each case; that it is refused with 8 exactly if no track of the samples fits the room; that the promise allows one result.
use mathlib.Core.Path.{◌≡◌, refl, sym, ap, ◌∙◌}
use mathlib.Core.Bool.{Bool, true, false}
use mathlib.Core.List.{List, [], ◌∷◌}
use mathlib.Core.Logic.{◌↔◌, ⊎_elim}
use Prim.Native.Nat.{ℕ, ◌+◌, ◌*◌, ◌/◌, ◌≤◌, ◌<◌}
use native.Mathlib.Omega.{arith}
use borrow.Author.Tests.{lt-leb, le-leb}
use lib.Dec.{leb}
use lib.ListN.{length}
use lib.IntN.{ℤ, pos}
use Rattle.whole.specs.Whole.{pos_part}
use Rattle.whole.specs.declared.Number.{Number}
use Rattle.whole.specs.Answers.{given}
use Rattle.whole.specs.Refusals.{unless, first_of}
use Rattle.whole.proofs.Refusals.{end, test, in_order}
use Rattle.fit.proofs.Tests.{lt_or}
use Rattle.track.specs.Segments.{Segment, IsTrack}
use Rattle.track.specs.Made.{track_of}
use Rattle.track.specs.Answer.{in_range, Outcome, refused, written, track_number, outcome}
use Rattle.track.specs.Promises.{TrackPromise}
use Rattle.track.proofs.Ranged.{ranged}
use Rattle.track.proofs.Theorems.{track_of-track, track_of-fewest, track_of_half}

-- any two results that the promise allows are equal
pub one_result : (s : List ℤ) (t : ℤ) (room : List ℤ) (x y : Number) (after other : List ℤ) → TrackPromise s t room x after → TrackPromise s t room y other
    → (x ≡ y) × (after ≡ other)
one_result s t room x y after other p q = let e = p ∙ sym q in (ap (λ (o : Outcome). o.answer) e, ap (λ (o : Outcome). o.room) e)

-- a track has at most half as many segments as there are samples, rounded up
pub half_most : (s : List ℤ) (t : ℤ) → in_range s t ≡ true → 2 * length (track_of s (pos_part t)) ≤ length s + 1
half_most s t h = track_of_half s (pos_part t) (ranged s t h).small (ranged s t h).tol

module _ (s : List ℤ) (t : ℤ) (room : List ℤ) where
  -- the numbers stand in their order, so the lowest is the first
  number_is : track_number s t (length room) ≡ first_of (unless (in_range s t) 2 ∷ unless (leb (length (track_of s (pos_part t))) (length room / 4)) 8 ∷ [])
  unfolding track_number
  number_is = in_order (test 0 2 (in_range s t) (omega arith) (test 2 8 (leb (length (track_of s (pos_part t))) (length room / 4)) (omega arith) end))

  pub answer_2 : in_range s t ≡ false → outcome s t room ≡ refused 2 room
  unfolding given outcome
  answer_2 h = rw (number_is, h)

  module _ (h : in_range s t ≡ true) where
    pub answer_8 : length room / 4 < length (track_of s (pos_part t)) → outcome s t room ≡ refused 8 room
    unfolding given outcome
    answer_8 k = rw (number_is, h, lt-leb (length (track_of s (pos_part t))) (length room / 4) k)

    pub answer_0 : length (track_of s (pos_part t)) ≤ length room / 4 → outcome s t room ≡ written (track_of s (pos_part t)) room
    unfolding given outcome
    answer_0 k = rw (number_is, h, le-leb (length (track_of s (pos_part t))) (length room / 4) k)

    -- THE THEOREM of demand 3 on room: refused with 8 exactly if every track of the samples has more segments than the room has places
    pub eight_exactly : ((outcome s t room).answer.refusal ≡ pos 8) ↔ ((xs : List Segment) → IsTrack s (pos_part t) xs → length room / 4 < length xs)
    eight_exactly = (fore, back)
      where
        fore : (outcome s t room).answer.refusal ≡ pos 8 → (xs : List Segment) → IsTrack s (pos_part t) xs → length room / 4 < length xs
        fore e xs k = ⊎_elim (λ l. omega (arith, track_of-fewest s (pos_part t) (ranged s t h).small (ranged s t h).tol xs k))
            (λ l. absurd (let n : pos 0 ≡ pos 8 = sym (ap (λ (o : Outcome). o.answer.refusal) (answer_0 l)) ∙ e in let z : ◌≡◌ {A = ℕ} 0 8 = cc in omega arith))
            (lt_or (length room / 4) (length (track_of s (pos_part t))))

        back : ((xs : List Segment) → IsTrack s (pos_part t) xs → length room / 4 < length xs) → (outcome s t room).answer.refusal ≡ pos 8
        back k = ap (λ (o : Outcome). o.answer.refusal) (answer_8 (k (track_of s (pos_part t)) (track_of-track s (pos_part t) (ranged s t h).small (ranged s t h).tol)))

    -- room for 2,048 segments is always enough
    pub always_enough : 2048 ≤ length room / 4 → outcome s t room ≡ written (track_of s (pos_part t)) room
    always_enough k = answer_0 (omega (arith, half_most s t h, (ranged s t h).few))

  -- what holds of every refusal, and of the track where it fits the room, holds of the outcome
  pub each_way : (P : Outcome → Type 0) → ((n : ℕ) → P (refused n room)) → (length (track_of s (pos_part t)) ≤ length room / 4 → P (written (track_of s (pos_part t)) room)) → P (outcome s t room)
  each_way P refusal fits = go (in_range s t) refl
    where
      go : (b : Bool) → b ≡ in_range s t → P (outcome s t room)
      go false e = rw (answer_2 (sym e)) (refusal 2)
      go true e = ⊎_elim (λ l. rw (answer_8 (sym e) l) (refusal 8)) (λ l. rw (answer_0 (sym e) l) (fits l)) (lt_or (length room / 4) (length (track_of s (pos_part t))))
