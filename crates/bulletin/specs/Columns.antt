-- Document 02, L3: the columns of Bulletin A in a row of finals2000A that are read and written. Columns count from 1.
use Rattle.std.specs.Prelude.{ℕ, suc, ◌-◌, Bool, ◌&&◌, List, leb, length, take, drop, ℤ}
use Rattle.text.specs.Bytes.{pasted}
use Rattle.bulletin.specs.Decimals.{is_decimal_rule, units_of_rule, printed}

-- from the first column to the last, with so many decimals
pub record Place : Type 0 where
  pub first : ℕ
  pub last : ℕ
  pub decimals : ℕ

abbrev pub columns : ℕ → ℕ → ℕ → Place
columns a b p = record { first = a; last = b; decimals = p }

-- in days
abbrev pub mjd_columns : Place
mjd_columns = columns 8 15 2

-- in arcseconds, as y is
abbrev pub x_columns : Place
x_columns = columns 19 27 6

abbrev pub y_columns : Place
y_columns = columns 38 46 6

-- UT1-UTC, in seconds
abbrev pub ut1_columns : Place
ut1_columns = columns 59 68 7

module _ (c : Place) (row : List ℕ) where
  abbrev pub bytes_in : List ℕ
  bytes_in = take (suc c.last - c.first) (drop (c.first - 1) row)

  -- the row goes as far as the columns do, and they hold a decimal
  unfoldable pub holds_decimal_rule : Bool
  holds_decimal_rule = leb c.last (length row) && is_decimal_rule c.decimals bytes_in

  -- its value in units of the last decimal
  unfoldable pub value_in_rule : ℤ
  value_in_rule = units_of_rule c.decimals bytes_in

  -- the row with z units in these columns: the last decimal stands in the last column
  unfoldable pub with_decimal : ℤ → List ℕ
  with_decimal z = pasted row (c.last - length (printed c.decimals z)) (printed c.decimals z)
