-- Document 02, L3: the rows of a text, and the day of each.
use Rattle.std.specs.Prelude.{ℕ, suc, Bool, cond, ◌&&◌, List, [], ◌∷◌, ◌++◌, map, eqb, get_or, ℤ}
use Rattle.whole.specs.Whole.{floor_z, mod_z}
use Rattle.whole.specs.Ranges.{eq_z}
use Rattle.bulletin.specs.Columns.{mjd_columns, x_columns, y_columns, ut1_columns, holds_decimal_rule, value_in_rule}

-- the rows of a text, where `row` is what was met of the first: a line feed ends a row, and bytes behind the last line feed are none
unfoldable pub rows_from : List ℕ → List ℕ → List (List ℕ)
rows_from row [] = []
rows_from row (b ∷ bs) = cond (eqb b 10) (row ∷ rows_from [] bs) (rows_from (row ++ (b ∷ [])) bs)

abbrev pub rows_of : List ℕ → List (List ℕ)
rows_of text = rows_from [] text

abbrev pub row_at_rule : List ℕ → ℕ → List ℕ
row_at_rule text i = get_or (rows_of text) i []

-- the row's MJD is a decimal with the fraction.00, and the day is what stands before the point
unfoldable pub has_day_rule : List ℕ → Bool
has_day_rule row = holds_decimal_rule mjd_columns row && eqb (mod_z (value_in_rule mjd_columns row) 100) 0

unfoldable pub day_in_rule : List ℕ → ℤ
day_in_rule row = floor_z (value_in_rule mjd_columns row) 100

-- x, y and UT1-UTC are decimals
unfoldable pub is_filled_rule : List ℕ → Bool
is_filled_rule row = holds_decimal_rule x_columns row && (holds_decimal_rule y_columns row && holds_decimal_rule ut1_columns row)

-- ---- the first row with a day

abbrev pub days_of : List ℕ → List ℤ
days_of text = map day_in_rule (rows_of text)

-- the place of the first d in a list; its length where there is none
unfoldable pub first_in_rule : List ℤ → ℤ → ℕ
first_in_rule [] d = 0
first_in_rule (x ∷ xs) d = cond (eq_z x d) 0 (suc (first_in_rule xs d))
