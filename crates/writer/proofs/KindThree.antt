-- `write` with days of kind 3: its number, test by test. Assumes nothing.
use mathlib.Core.Path.{◌≡◌, refl, sym, ◌∙◌}
use Prim.Native.Nat.{ℕ, ◌*◌, ◌/◌, ◌≤◌}
use native.Mathlib.Omega.{arith}
use mathlib.Core.Bool.{true, false}
use mathlib.Core.List.{List, [], ◌∷◌}
use lib.ListN.{length}
use lib.IntN.{ℤ, pos}
use lib.Dec.{leb}
use borrow.Author.Tests.{eq-eqb, leb-true}
use Rattle.whole.specs.Each.{all_below}
use Rattle.whole.specs.Refusals.{unless, lower_of, lowest}
use Rattle.whole.proofs.Linear.{and_true, no_ft}
use Rattle.whole.proofs.Refusals.{unless_zero, lower_zero, lower_first}
use Rattle.sections.specs.Layouts.{places, layout_in_rule, stands_in}
use Rattle.sections.specs.File.{refusal_of_rule}
use Rattle.sections.proofs.Shapes.{today}
use Rattle.writer.specs.Writing.{kinds_with_rule, list_right_rule, lists_right_rule, unmarked, without_marks, file_with, write_refusal, write_number}
use Rattle.writer.proofs.Counts.{lists_right_lem}
use Rattle.writer.proofs.Made.{one_for_lists}
use Rattle.writer.proofs.WithoutMarks.{kept_long}

-- ---- lists with six numbers for a day, and the same with five

days-same : (r : List ℤ) → 6 * (length r / 6) ≡ length r → list_right_rule places 2 3 (length (without_marks r)) ≡ list_right_rule places 2 5 (length r)
unfolding list_right_rule layout_in_rule stands_in places
days-same r e =
    let n : 5 * (length r / 6) / 5 ≡ length r / 6 = omega arith in
    rw (kept_long r, n, eq-eqb (5 * (length r / 6)) _ refl, eq-eqb _ (length r) e)

module _ (p q r t : List ℤ) where
  pub lists_same : 6 * (length r / 6) ≡ length r → lists_right_rule places (kinds_with_rule 3) (p ∷ q ∷ without_marks r ∷ t ∷ []) ≡ lists_right_rule places (kinds_with_rule 5) (p ∷ q ∷ r ∷ t ∷ [])
  unfolding lists_right_rule all_below
  lists_same e = rw (days-same r e)

  module _ (s : lists_right_rule places (kinds_with_rule 5) (p ∷ q ∷ r ∷ t ∷ []) ≡ true) where
    pub days-whole : 6 * (length r / 6) ≡ length r
    unfolding layout_in_rule places
    days-whole = (lists_right_lem today (kinds_with_rule 5) (p ∷ q ∷ r ∷ t ∷ []) s 2 (omega arith)).exact

    pub days-most : length r / 6 ≤ 64
    unfolding layout_in_rule places
    days-most = leb-true _ _ (and_true (leb 2 (length r / 6)) _ (lists_right_lem today (kinds_with_rule 5) (p ∷ q ∷ r ∷ t ∷ []) s 2 (omega arith)).counted).1

    lists_three : lists_right_rule places (kinds_with_rule 3) (p ∷ q ∷ without_marks r ∷ t ∷ []) ≡ true
    lists_three = lists_same days-whole ∙ s

  -- ---- the number

  module _ (room : ℕ) where
    pub three_lists : lists_right_rule places (kinds_with_rule 5) (p ∷ q ∷ r ∷ t ∷ []) ≡ false → write_number (pos 3) p q r t room ≡ 1
    unfolding write_number
    three_lists h = rw h (lower_first 0 (lowest (unless (unmarked r) 2 ∷ refusal_of_rule (file_with (pos 3) p q r t) ∷ unless (leb (length (file_with (pos 3) p q r t)) room) 7 ∷ [])) (λ g. omega (arith, g)))

    module _ (s : lists_right_rule places (kinds_with_rule 5) (p ∷ q ∷ r ∷ t ∷ []) ≡ true) where
      -- a mark, and what `write_as` would say
      three_both : write_number (pos 3) p q r t room ≡ lower_of (unless (unmarked r) 2) (write_refusal places (kinds_with_rule 3) (p ∷ q ∷ without_marks r ∷ t ∷ []) room)
      unfolding write_number write_refusal file_with
      three_both = rw (s, lists_three s)

      pub three_marks : unmarked r ≡ false → write_number (pos 3) p q r t room ≡ 2
      three_marks u =
          let m = write_refusal places (kinds_with_rule 3) (p ∷ q ∷ without_marks r ∷ t ∷ []) room in
          let not-one : (m ≡ 1 → ⊥) = λ e. no_ft (sym (one_for_lists _ _ room e) ∙ lists_three s) in
          three_both ∙ rw u (lower_first 1 m (λ g. omega (arith, g, not-one)))

      pub three_file : unmarked r ≡ true → write_number (pos 3) p q r t room ≡ write_refusal places (kinds_with_rule 3) (p ∷ q ∷ without_marks r ∷ t ∷ []) room
      three_file u = three_both ∙ rw u

    pub three-accepted : write_number (pos 3) p q r t room ≡ 0 → (lists_right_rule places (kinds_with_rule 5) (p ∷ q ∷ r ∷ t ∷ []) ≡ true) × (unmarked r ≡ true)
    unfolding write_number
    three-accepted h =
        let a = lower_zero (unless (lists_right_rule places (kinds_with_rule 5) (p ∷ q ∷ r ∷ t ∷ [])) 1) _ h in
        let b = lower_zero (unless (unmarked r) 2) _ a.1 in
        (unless_zero _ 0 a.0, unless_zero _ 1 b.0)
