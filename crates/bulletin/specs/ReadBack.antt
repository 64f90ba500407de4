-- Document 02, L3, as theorems: what columns hold exactly where they are read as a decimal, and that the rows that are written are read back.
use Rattle.std.specs.Prelude.{ℕ, ◌-◌, ◌+◌, ◌*◌, ◌^◌, ◌≤◌, ◌<◌, ◌≡◌, Bool, true, false, List, [], ◌∷◌, ◌++◌, length, take, replicate, ℤ, pos, nat_abs, ◌+ℤ◌, ◌*ℤ◌}
use Rattle.whole.specs.Whole.{sign_of}
use Rattle.whole.specs.Values.{first_values, joined}
use Rattle.whole.specs.declared.Number.{Number}
use Rattle.text.specs.Decimal.{all_digits_rule, read}
use Rattle.fields.specs.declared.Day.{Day}
use Rattle.bulletin.specs.declared.Days.{Days}
use Rattle.bulletin.specs.Columns.{x_columns, y_columns, ut1_columns, value_in_rule}
use Rattle.bulletin.specs.Decimals.{is_decimal_rule, units_of_rule, printed}
use Rattle.bulletin.specs.Rows.{rows_of, has_day_rule, day_in_rule, is_filled_rule}
use Rattle.bulletin.specs.Reading.{days, days_outcome}
use Rattle.bulletin.specs.Writing.{row_for_rule, can_stand_rule, records_in, record_at_rule, list_right_rule, rows_text}
use Rattle.bulletin.specs.Promises.{DaysPromise, RowsPromise}

-- ---- a decimal in its columns

abbrev pub blanks : ℕ → List ℕ
blanks k = replicate k 32

abbrev pub sign : Bool → List ℕ
sign true = 45 ∷ []
sign false = []

-- k blanks, `-` or nothing, a digit or more, a point, and p decimals
pub record Form (p : ℕ) (s : List ℕ) : Type 0 where
  pub k : ℕ
  pub negative : Bool
  pub digits : List ℕ
  pub decimals : List ℕ
  pub some : 1 ≤ length digits
  pub before : all_digits_rule digits ≡ true
  pub behind : all_digits_rule decimals ≡ true
  pub long : length decimals ≡ p
  pub made : blanks k ++ (sign negative ++ (digits ++ (46 ∷ decimals))) ≡ s

-- columns of this form are read as a decimal, whose value is that of its parts; and columns that are read as one have this form
abbrev pub FormIsRead : Type 0
FormIsRead = (p : ℕ) (s : List ℕ) (f : Form p s) → (is_decimal_rule p s ≡ true) × (units_of_rule p s ≡ sign_of f.negative (read f.digits * 10 ^ p + read f.decimals))

abbrev pub ReadIsForm : Type 0
ReadIsForm = (p : ℕ) (s : List ℕ) → is_decimal_rule p s ≡ true → Form p s

-- a number that is printed behind blanks is read back
abbrev pub PrintedIsRead : Type 0
PrintedIsRead = (p k : ℕ) (z : ℤ) → (is_decimal_rule p (blanks k ++ printed p z) ≡ true) × (units_of_rule p (blanks k ++ printed p z) ≡ z)

-- ---- the rows of records

-- a row is read as that of the record d
pub record Reads (row : List ℕ) (d : Day) : Type 0 where
  pub dated : has_day_rule row ≡ true
  pub day : day_in_rule row ≡ d.mjd
  pub filled : is_filled_rule row ≡ true
  pub x : value_in_rule x_columns row ≡ d.x
  pub y : value_in_rule y_columns row ≡ d.y
  pub ut1 : pos 100 *ℤ value_in_rule ut1_columns row ≡ d.ut1_utc

-- a record's row without its line feed
abbrev pub row_of : Day → List ℕ
row_of d = take 185 (row_for_rule d)

-- the row of a record that can stand in one is 185 columns and a line feed, and its columns are read as the record
abbrev pub RowIsRead : Type 0
RowIsRead = (d : Day) → can_stand_rule d ≡ true → (length (row_of d) ≡ 185) × (row_for_rule d ≡ row_of d ++ (10 ∷ [])) × Reads (row_of d) d

module _ (numbers : List ℤ) where
  -- the rows of a written text are those of the records, one after the other
  abbrev pub TextIsRead : Type 0
  TextIsRead = list_right_rule numbers ≡ true → rows_of (rows_text numbers) ≡ joined (records_in numbers) (λ (i : ℕ). row_of (record_at_rule numbers i) ∷ [])

  -- ---- the calls

  abbrev pub first_day : ℤ
  first_day = (record_at_rule numbers 0).mjd

  abbrev pub tai_of : List ℤ
  tai_of = first_values (records_in numbers) (λ (i : ℕ). (record_at_rule numbers i).tai_utc)

  -- each record is of the day behind the one before it
  abbrev pub Consecutive : Type 0
  Consecutive = (i : ℕ) → i < records_in numbers → (record_at_rule numbers i).mjd ≡ first_day +ℤ pos i

  -- the same numbers, and zeros behind
  abbrev pub same_days : Days
  same_days = days (numbers ++ replicate (384 - length numbers) (pos 0))

  -- the text of rows of consecutive days is read as these days
  abbrev pub TextBack : Type 0
  TextBack = list_right_rule numbers ≡ true → Consecutive → days_outcome (rows_text numbers) first_day (pos (records_in numbers)) tai_of ≡ same_days

  -- so is what `rows_from_days` wrote by its own answer r, where it refused nothing: whatever `days_from_rows` may answer is these days
  abbrev pub ReadBack : List ℕ → Type 0
  ReadBack room =
      (r : Number) (after : List ℕ) (back : Days) → RowsPromise numbers room r after → r.refusal ≡ pos 0 → Consecutive
      → DaysPromise (take (nat_abs r.value) after) first_day (pos (records_in numbers)) tai_of back → back ≡ same_days
