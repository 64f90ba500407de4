-- What is proved of the rows of a text, and of the day of a row. Assumes nothing.
use mathlib.Core.Path.{◌≡◌, refl, sym, ap, ◌∙◌}
use mathlib.Core.Bool.{Bool, true, false}
use mathlib.Core.List.{List, [], ◌∷◌, ◌++◌, append_assoc, append-nil}
use Prim.Native.Nat.{ℕ, suc, ◌+◌, ◌-◌, ◌%◌, ◌≤◌, ◌<◌}
use native.Mathlib.Omega.{arith}
use borrow.Author.Tests.{eq-eqb, eqb-true}
use lib.Dec.{eqb}
use lib.ListN.{length, drop, length-drop}
use lib.IntN.{ℤ, pos, negsuc}
use Rattle.whole.specs.Whole.{∣◌∣, mod_z}
use Rattle.whole.proofs.Linear.{and_true}
use Rattle.whole.proofs.Tests.{same_test}
use Rattle.whole.proofs.Rounding.{floor_abs}
use Rattle.text.specs.Lines.{first_line, past_line}
use Rattle.text.proofs.LineFeeds.{next_is}
use Rattle.bulletin.specs.Columns.{mjd_columns, holds_decimal_rule, value_in_rule}
use Rattle.bulletin.specs.Rows.{rows_from, rows_of, has_day_rule, day_in_rule}
use Rattle.bulletin.proofs.ColumnLaws.{mjd_apt, reaches, value-small}

-- ---- the rows of a text are its first line, where a line feed ends that, and those of the rest

rows-line_by : (row : List ℕ) (b : ℕ) (s : List ℕ) → ((r : List ℕ) → length (first_line s) < length s → rows_from r s ≡ (r ++ first_line s) ∷ rows_from [] (past_line s))
    → (t : Bool) → eqb b 10 ≡ t → length (first_line (b ∷ s)) < suc (length s) → rows_from row (b ∷ s) ≡ (row ++ first_line (b ∷ s)) ∷ rows_from [] (past_line (b ∷ s))
unfolding rows_from first_line past_line
rows-line_by row b s f true e h = rw e (ap (λ (r : List ℕ). r ∷ rows_from [] s) (sym (append-nil row)))
rows-line_by row b s f false e h =
    let k : length (first_line s) < length s = omega (arith, rw e at h) in
    rw e (f (row ++ (b ∷ [])) k ∙ ap (λ (r : List ℕ). r ∷ rows_from [] (past_line s)) (append_assoc row (b ∷ []) (first_line s)))

rows-line : (s row : List ℕ) → length (first_line s) < length s → rows_from row s ≡ (row ++ first_line s) ∷ rows_from [] (past_line s)
unfolding first_line
rows-line [] row h = absurd (omega arith)
rows-line (b ∷ s) row h = rows-line_by row b s (rows-line s) (eqb b 10) refl h

rows_rest_by : (row : List ℕ) (b : ℕ) (s : List ℕ) → ((r : List ℕ) → length (first_line s) ≡ length s → rows_from r s ≡ [])
    → (t : Bool) → eqb b 10 ≡ t → length (first_line (b ∷ s)) ≡ suc (length s) → rows_from row (b ∷ s) ≡ []
unfolding rows_from first_line
rows_rest_by row b s f true e h = absurd (omega (arith, rw e at h))
rows_rest_by row b s f false e h = let k : length (first_line s) ≡ length s = omega (arith, rw e at h) in rw e (f (row ++ (b ∷ [])) k)

rows_rest : (s row : List ℕ) → length (first_line s) ≡ length s → rows_from row s ≡ []
unfolding rows_from
rows_rest [] row h = refl
rows_rest (b ∷ s) row h = rows_rest_by row b s (rows_rest s) (eqb b 10) refl h

-- by places: `at` is where a line starts, `end` where it ends
module _ (s : List ℕ) (at end : ℕ) (h : at ≤ length s) (e : end ≡ at + length (first_line (drop at s))) where
  pub row_here : end < length s → rows_of (drop at s) ≡ first_line (drop at s) ∷ rows_of (drop (end + 1) s)
  row_here l =
      rows-line (drop at s) [] (omega (arith, length-drop at s))
      ∙ ap (λ (r : List ℕ). first_line (drop at s) ∷ rows_from [] r) (sym (next_is s at end h e))

  pub no_row : end ≡ length s → rows_of (drop at s) ≡ []
  no_row l = rows_rest (drop at s) [] (omega (arith, length-drop at s))

-- ---- the day of a row

module _ (row : List ℕ) (h : has_day_rule row ≡ true) where
  pub day-decimal : holds_decimal_rule mjd_columns row ≡ true
  unfolding has_day_rule
  day-decimal = (and_true (holds_decimal_rule mjd_columns row) _ h).0

  pub day-whole : mod_z (value_in_rule mjd_columns row) 100 ≡ 0
  unfolding has_day_rule
  day-whole = eqb-true _ _ (and_true (holds_decimal_rule mjd_columns row) _ h).1

  -- a row with a day has 15 bytes or more
  pub row_long : 15 ≤ length row
  row_long = reaches mjd_apt row day-decimal

  -- and its day is far from the ends of 64 bits
  pub day-small : ∣ day_in_rule row ∣ ≤ 100_000
  unfolding day_in_rule
  day-small = floor_abs (value_in_rule mjd_columns row) 100 100_000 (omega arith) (omega (arith, value-small mjd_apt row day-decimal))

-- ---- whole hundreds, by the size

pub hundreds : (z : ℤ) → eqb (∣ z ∣ % 100) 0 ≡ eqb (mod_z z 100) 0
hundreds (pos n) = ap (λ (k : ℕ). eqb k 0) (let e : (n + 0) % 100 ≡ n % 100 = omega arith in e)
hundreds (negsuc n) =
    same_test (eqb ((0 + suc n) % 100) 0) (eqb (100 - suc (n % 100)) 0)
    (λ t. let k = eqb-true ((0 + suc n) % 100) 0 t in eq-eqb (100 - suc (n % 100)) 0 (omega (arith, k)))
    (λ t. let k = eqb-true (100 - suc (n % 100)) 0 t in eq-eqb ((0 + suc n) % 100) 0 (omega (arith, k)))
