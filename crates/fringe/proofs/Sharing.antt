-- The passes in turn: the number of the first that is refused, by the segments that are left, as the code comes to it. Assumes nothing.
use mathlib.Core.Path.{◌≡◌, refl, sym, ap, ap₂, ◌∙◌}
use mathlib.Core.Bool.{Bool, true, false}
use mathlib.Core.List.{List, [], ◌∷◌}
use Prim.Native.Nat.{ℕ, zero, suc, ◌+◌, ◌*◌, ◌-◌, ◌/◌, ◌≤◌, ◌<◌}
use native.Mathlib.Numerals.{add-one}
use native.Mathlib.Omega.{arith}
use borrow.Author.Tests.{le-leb, lt-leb, leb-true}
use lib.Dec.{leb}
use lib.IntN.{ℤ}
use lib.ListN.{length, drop, length-drop}
use lib.Seq.{drop_at}
use Rattle.whole.specs.Whole.{pos_part, ∣◌∣}
use Rattle.whole.specs.Refusals.{unless, first_of}
use Rattle.whole.proofs.Refusals.{first_zero, first_is, first_one, unless_zero}
use Rattle.sections.specs.File.{refusal_of_rule, count_of_rule}
use Rattle.sections.specs.Layouts.{places}
use Rattle.session.specs.Records.{pass_of_rule}
use Rattle.session.proofs.Fields.{place-most}
use Rattle.track.specs.Answer.{Outcome}
use Rattle.track.specs.Segments.{flat}
use Rattle.track.proofs.Runs.{flat-length}
use Rattle.fringe.specs.PassTrack.{pass_number, pass_outcome}
use Rattle.fringe.specs.AllTracks.{in_turn}
use Rattle.fringe.specs.Sharing.{segments_in, most_of, most_from_rule, taken_by_rule, number_from_rule}
use Rattle.fringe.proofs.Passes.{size_pos, pass_track_lem, segments-most, fits, number_is}

-- ---- numbers, the first of which applies

both_first : (a b r q : ℕ) → (a ≡ 0 → b ≡ 0 → r ≡ q) → first_of (first_of (a ∷ b ∷ []) ∷ r ∷ []) ≡ first_of (a ∷ b ∷ q ∷ [])
both_first zero zero zero q e = ap (λ (n : ℕ). first_of (n ∷ [])) (e refl refl)
both_first zero zero (suc r) q e = ap (λ (n : ℕ). first_of (n ∷ [])) (e refl refl)
both_first zero (suc b) r q e = refl
both_first (suc a) b r q e = refl

same-behind : (a b c r q : ℕ) → (a ≡ 0 → (b ≡ c) × (r ≡ q)) → first_of (a ∷ b ∷ r ∷ []) ≡ first_of (a ∷ c ∷ q ∷ [])
same-behind zero b c r q e = ap₂ (λ (x y : ℕ). first_of (x ∷ y ∷ [])) (e refl).0 (e refl).1
same-behind (suc a) b c r q e = refl

-- ---- of n passes those from pass i on

pub from_next : (n i : ℕ) → i < n → n - i ≡ suc (n - (i + 1))
from_next n i l = omega arith

pub from_all : (n i : ℕ) → n ≤ i → n - i ≡ 0
from_all n i l = omega arith

pub most-next : (s : List ℕ) (n i : ℕ) → i < n → most_from_rule s (n - i) i ≡ most_of (pass_of_rule s i) + most_from_rule s (n - (i + 1)) (i + 1)
unfolding most_from_rule
most-next s n i l = rw (from_next n i l, add-one i) refl

module _ (s : List ℕ) (h : refusal_of_rule s ≡ 0) where
  pub few_passes : count_of_rule s 3 ≤ 64
  unfolding places
  few_passes = place-most s h 3 (omega arith) 64 refl

  -- ---- what a pass that is answered leaves of its room

  module _ (i : ℕ) (l : i < count_of_rule s 3) (room : List ℤ) where
    -- it is answered
    pub answered : ∣ (pass_outcome s i room).answer.refusal ∣ ≡ 0 → (pass_number s i ≡ 0) × (segments_in s i ≤ length room / 4)
    answered e =
        let n = sym (size_pos _) ∙ sym (ap ∣◌∣ (number_is s h i l room)) ∙ e in
        let f = first_zero (pass_number s i) (unless (leb (segments_in s i) (length room / 4)) 8 ∷ []) n in
        (f.0, leb-true (segments_in s i) (length room / 4) (unless_zero _ 7 (first_zero _ [] f.1).0))

    module _ (e : pass_number s i ≡ 0) (k : segments_in s i ≤ length room / 4) where
      left_is : drop (4 * pos_part (pass_outcome s i room).answer.value) (pass_outcome s i room).room ≡ drop (4 * segments_in s i) room
      unfolding segments_in
      left_is = ap (λ (o : Outcome). drop (4 * pos_part o.answer.value) o.room) (fits s h i l e room k)
          ∙ drop_at (flat (pass_track_lem s i)) (drop (4 * length (pass_track_lem s i)) room) (4 * length (pass_track_lem s i)) (flat-length (pass_track_lem s i))

      left_long : length (drop (4 * pos_part (pass_outcome s i room).answer.value) (pass_outcome s i room).room) / 4 ≡ length room / 4 - segments_in s i
      left_long = omega (arith, ap length left_is, length-drop (4 * segments_in s i) room, k)

  -- ---- the number of the first that is refused

  pub turn-number : (m i : ℕ) (room : List ℤ) → i + m ≤ count_of_rule s 3 → (in_turn s m i room).refusal ≡ number_from_rule s m i (length room / 4)
  unfolding in_turn number_from_rule
  turn-number zero i room l = refl
  turn-number (suc m) i room l =
      let o = pass_outcome s i room in
      let left = length room / 4 in
      let behind = drop (4 * pos_part o.answer.value) o.room in
      let c : i < count_of_rule s 3 = omega arith in
      let n : ∣ o.answer.refusal ∣ ≡ first_of (pass_number s i ∷ unless (leb (segments_in s i) left) 8 ∷ []) = ap ∣◌∣ (number_is s h i c room) ∙ size_pos _ in
      let after : pass_number s i ≡ 0 → unless (leb (segments_in s i) left) 8 ≡ 0 → (in_turn s m (suc i) behind).refusal ≡ number_from_rule s m (suc i) (left - segments_in s i) =
      λ e f. turn-number m (suc i) behind (omega arith) ∙ ap (number_from_rule s m (suc i)) (left_long i c room e (leb-true _ _ (unless_zero _ 7 f))) in
      ap (λ (x : ℕ). first_of (x ∷ (in_turn s m (suc i) behind).refusal ∷ [])) n
      ∙ both_first (pass_number s i) (unless (leb (segments_in s i) left) 8) (in_turn s m (suc i) behind).refusal (number_from_rule s m (suc i) (left - segments_in s i)) after

  -- where the segments left are enough for all that may come, it does not matter how many they are
  ample_same : (m i a b : ℕ) → i + m ≤ count_of_rule s 3 → most_from_rule s m i ≤ a → most_from_rule s m i ≤ b → number_from_rule s m i a ≡ number_from_rule s m i b
  unfolding number_from_rule most_from_rule
  ample_same zero i a b l p q = refl
  ample_same (suc m) i a b l p q =
      same-behind (pass_number s i) _ _ _ _
      (λ e. let k = segments-most s h i (omega arith) e in (
        ap (λ (t : Bool). unless t 8) (le-leb (segments_in s i) a (omega arith) ∙ sym (le-leb (segments_in s i) b (omega arith))),
        ample_same m (suc i) (a - segments_in s i) (b - segments_in s i) (omega arith) (omega arith) (omega arith),
      ))

  -- room for half the samples of every pass, rounded up, is always enough
  pub half_enough : (m i left : ℕ) → i + m ≤ count_of_rule s 3 → most_from_rule s m i ≤ left → ((j : ℕ) → i ≤ j → j < i + m → pass_number s j ≡ 0) → number_from_rule s m i left ≡ 0
  unfolding number_from_rule most_from_rule
  half_enough zero i left l k e = refl
  half_enough (suc m) i left l k e =
      let n = e i (omega arith) (omega arith) in
      let f = segments-most s h i (omega arith) n in
      rw (n, le-leb (segments_in s i) left (omega arith)) (first_one _ ∙ half_enough m (suc i) (left - segments_in s i) (omega arith) (omega arith) (λ j p q. e j (omega arith) (omega arith)))

  -- ---- the same, pass by pass

  module _ (m i left : ℕ) (l : i + suc m ≤ count_of_rule s 3) where
    -- the file lacks something for pass i
    pub first_lacking_lem : (pass_number s i ≡ 0 → ⊥) → number_from_rule s (suc m) i left ≡ pass_number s i
    unfolding number_from_rule
    first_lacking_lem f = first_is (pass_number s i) (unless (leb (segments_in s i) left) 8 ∷ number_from_rule s m (suc i) (left - segments_in s i) ∷ []) f

    module _ (e : pass_number s i ≡ 0) where
      -- the segments left are too few for it
      pub first_eight : (b : Bool) → leb (most_from_rule s (suc m) i) left ≡ b → left < taken_by_rule s i b → number_from_rule s (suc m) i left ≡ 8
      unfolding number_from_rule most_from_rule
      first_eight true t k = absurd (omega (arith, leb-true (most_from_rule s (suc m) i) left t))
      first_eight false t k = rw (e, lt-leb (segments_in s i) left k) refl

      passed_on : segments_in s i ≤ left → number_from_rule s (suc m) i left ≡ number_from_rule s m (suc i) (left - segments_in s i)
      unfolding number_from_rule
      passed_on k = rw (e, le-leb (segments_in s i) left k) (first_one (number_from_rule s m (suc i) (left - segments_in s i)))

      -- they are enough, and the passes behind it decide
      pub first-behind : (b : Bool) → leb (most_from_rule s (suc m) i) left ≡ b → taken_by_rule s i b ≤ left → number_from_rule s (suc m) i left ≡ number_from_rule s m (suc i) (left - taken_by_rule s i b)
      unfolding most_from_rule
      first-behind true t k =
          let u = leb-true (most_from_rule s (suc m) i) left t in
          let v = segments-most s h i (omega arith) e in
          passed_on (omega arith) ∙ ample_same m (suc i) (left - segments_in s i) (left - most_of (pass_of_rule s i)) (omega arith) (omega arith) (omega arith)
      first-behind false t k = passed_on k
