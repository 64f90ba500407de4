-- The text of an answer, by its two cases; records are given for at most 64 days. Assumes nothing.
use mathlib.Core.Path.{◌≡◌, refl, sym, ap, ◌∙◌}
use mathlib.Core.Bool.{Bool, true, false, ◌&&◌}
use mathlib.Core.List.{List, [], ◌∷◌}
use Prim.Native.Nat.{ℕ, zero, suc, ◌≤◌, ◌<◌}
use native.Mathlib.Omega.{arith}
use borrow.Author.Tests.{le-leb, leb-true}
use lib.Dec.{leb, eqb-suc-zero}
use lib.IntN.{ℤ, pos, negsuc}
use lib.ListN.{length, take}
use lib.Seq.{length-take-le}
use lib.Signed.{le_z}
use Rattle.whole.specs.Whole.{pos_part, neg_part}
use Rattle.whole.specs.Answers.{given}
use Rattle.whole.specs.Refusals.{unless, first_of}
use Rattle.whole.specs.Ranges.{eq_z}
use Rattle.whole.proofs.Order.{eq_z_true}
use Rattle.whole.proofs.Linear.{and_true, no_ft, no_tf}
use Rattle.bulletin.specs.declared.Days.{Days}
use Rattle.bulletin.specs.Reading.{day_count, all_dated, taken_filled_rule, days_there_rule, days_number, values_right, days, no_days_rule, days_outcome}
use Rattle.fields.specs.Ranges.{inside, mjd}
use Rattle.text.specs.Table.{row_lines, refused_line}
use Rattle.days.specs.Text.{answer_text, days_text_rule}

-- the last condition holds where none fails
last_holds : (a b c : ℕ) (v : Bool) → first_of (a ∷ b ∷ c ∷ unless v 2 ∷ []) ≡ 0 → v ≡ true
last_holds zero zero zero true e = refl
last_holds zero zero zero false e = absurd (omega arith)
last_holds zero zero (suc c) v e = absurd (omega arith)
last_holds zero (suc b) c v e = absurd (omega arith)
last_holds (suc a) b c v e = absurd (omega arith)

-- a refusal below 1 is none
none : (n : ℕ) (r : Days) → r.refusal ≡ pos 0 → le_z (pos 1) (given n r no_days_rule).refusal ≡ false → n ≡ 0
unfolding given
none zero r h e = refl
none (suc n) r h e = no_tf (sym (le-leb 1 (suc n) (omega arith)) ∙ (rw (eqb-suc-zero n) at e))

not_so : (b : Bool) → (b ≡ true → ⊥) → b ≡ false
not_so true f = absurd (f refl)
not_so false f = refl

few : (z : ℤ) → inside day_count z ≡ true → (pos_part z ≤ 64) × (neg_part z ≡ 0)
few (pos n) h = (leb-true n 64 (and_true (leb 2 n) (leb n 64) h).1, refl)
few (negsuc n) h = no_ft h

module _ (rows : List ℕ) (first count : ℤ) where
  module _ (tai : List ℤ) where
    count_few : values_right rows first count tai ≡ true → (pos_part count ≤ 64) × (neg_part count ≡ 0)
    unfolding values_right
    count_few v = few count (and_true (inside day_count count) _ (and_true (inside mjd first) _ v).1).0

    -- records are given for at most 64 days
    pub answered_few : le_z (pos 1) (days_outcome rows first count tai).refusal ≡ false → (pos_part count ≤ 64) × (neg_part count ≡ 0)
    unfolding days_outcome days_number
    answered_few e =
        count_few (last_holds (unless (leb (length rows) 65536) 1) (unless (all_dated rows && taken_filled_rule rows first count) 10) (unless (days_there_rule rows first count) 11) (values_right rows first count tai) (none (days_number rows first count tai) (days _) refl e))

    -- and for no more than 64 values of TAI-UTC
    too_many : 64 < length tai → values_right rows first count tai ≡ false
    unfolding values_right
    too_many h =
        not_so (values_right rows first count tai)
        (λ v.
        let c = and_true (inside day_count count) _ (and_true (inside mjd first) _ v).1 in
        let e = eq_z_true (pos (length tai)) count (and_true (eq_z (pos (length tai)) count) _ c.1).0 in
        omega (arith, h, (few count c.0).0, ap pos_part e))

  -- so the first 65 of more values have the same refusal
  pub first_65 : (tai : List ℤ) → 64 < length tai → days_number rows first count (take 65 tai) ≡ days_number rows first count tai
  unfolding days_number
  first_65 tai h =
      let l : length (take 65 tai) ≡ 65 = length-take-le 65 tai (omega arith) in
      rw (too_many tai h, too_many (take 65 tai) (omega arith))

-- ---- the text

module _ (rows : List ℕ) (first count : ℤ) (tai : List ℤ) where
  abbrev outcome : Days
  outcome = days_outcome rows first count tai

  pub refused_text : le_z (pos 1) outcome.refusal ≡ true → days_text_rule rows first count tai ≡ refused_line outcome.refusal
  unfolding days_text_rule answer_text
  refused_text e = rw e

  pub answered_text : le_z (pos 1) outcome.refusal ≡ false → days_text_rule rows first count tai ≡ row_lines 6 outcome.days (pos_part count)
  unfolding days_text_rule answer_text
  answered_text e = rw e
