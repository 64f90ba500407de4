-- What `rows_from_days` answers, test by test. Assumes nothing.
use mathlib.Core.Path.{◌≡◌, refl, sym, ap, ◌∙◌}
use mathlib.Core.Bool.{Bool, true, false}
use mathlib.Core.List.{List, [], ◌∷◌}
use Prim.Native.Nat.{ℕ, ◌*◌, ◌≤◌, ◌<◌}
use native.Mathlib.Decide.{ℕ_discrete}
use native.Mathlib.Omega.{arith}
use borrow.Author.Tests.{le-leb, lt-leb, leb-true}
use lib.Dec.{leb}
use lib.ListN.{length}
use lib.IntN.{ℤ, pos, nat_abs}
use Rattle.whole.specs.Answers.{number, no_number_rule}
use Rattle.whole.specs.Refusals.{unless, first_of}
use Rattle.whole.proofs.Answers.{given_yes, given_no}
use Rattle.whole.proofs.Refusals.{end, test, in_order, first_zero, unless_zero}
use Rattle.text.specs.Bytes.{pasted}
use Rattle.bulletin.specs.Writing.{Written, written, records_in, list_right_rule, rows_text, rows_number, rows_outcome}

module _ (numbers : List ℤ) (room : List ℕ) where
  abbrev wide : Bool
  wide = leb (186 * records_in numbers) (length room)

  -- the lowest that applies is the first
  first : rows_number numbers (length room) ≡ first_of (unless (list_right_rule numbers) 2 ∷ unless wide 7 ∷ [])
  unfolding rows_number
  first = in_order (test 0 2 (list_right_rule numbers) (omega arith) (test 2 7 wide (omega arith) end))

  by_number : (n : ℕ) → (n ≡ 0 → ⊥) → rows_number numbers (length room) ≡ n → rows_outcome numbers room ≡ written (no_number_rule n) room
  unfolding rows_outcome
  by_number n f e =
      given_no (rows_number numbers (length room)) (written (number (pos (186 * records_in numbers))) (pasted room 0 (rows_text numbers))) (λ k. written (no_number_rule k) room) (λ z. f (omega (arith, z, e)))
      ∙ ap (λ (k : ℕ). written (no_number_rule k) room) e

  pub list_wrong : list_right_rule numbers ≡ false → rows_outcome numbers room ≡ written (no_number_rule 2) room
  list_wrong h = by_number 2 (λ z. omega arith) (first ∙ rw h refl)

  pub room-short : list_right_rule numbers ≡ true → length room < 186 * records_in numbers → rows_outcome numbers room ≡ written (no_number_rule 7) room
  room-short h l = by_number 7 (λ z. omega arith) (first ∙ rw (h, lt-leb (186 * records_in numbers) (length room) l) refl)

  pub rows_right : list_right_rule numbers ≡ true → 186 * records_in numbers ≤ length room
      → rows_outcome numbers room ≡ written (number (pos (186 * records_in numbers))) (pasted room 0 (rows_text numbers))
  unfolding rows_outcome
  rows_right h l =
      given_yes (rows_number numbers (length room)) (written (number (pos (186 * records_in numbers))) (pasted room 0 (rows_text numbers))) (λ k. written (no_number_rule k) room)
      (first ∙ rw (h, le-leb (186 * records_in numbers) (length room) l) refl)

  -- and back: where no refusal applies
  pub accepted : rows_number numbers (length room) ≡ 0 → (list_right_rule numbers ≡ true) × (186 * records_in numbers ≤ length room)
  accepted e =
      let f : first_of (unless (list_right_rule numbers) 2 ∷ unless wide 7 ∷ []) ≡ 0 = rw first at e in
      let g = first_zero (unless (list_right_rule numbers) 2) (unless wide 7 ∷ []) f in
      let k = first_zero (unless wide 7) [] g.1 in
      (unless_zero (list_right_rule numbers) 1 g.0, leb-true _ _ (unless_zero wide 6 k.0))

  pub not_refused : (rows_outcome numbers room).answer.refusal ≡ pos 0 → rows_number numbers (length room) ≡ 0
  not_refused e = by (ℕ_discrete (rows_number numbers (length room)) 0)
    where
      by : Dec (rows_number numbers (length room) ≡ 0) → rows_number numbers (length room) ≡ 0
      by (yes z) = z
      by (no f) = ap nat_abs (sym (ap (λ (w : Written). w.answer.refusal) (by_number (rows_number numbers (length room)) f refl)) ∙ e)
