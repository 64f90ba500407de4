-- Document 02, L3: the rows that `rows_from_days` writes, of records that stand in a list one behind the other, six numbers each.
use Rattle.std.specs.Prelude.{ℕ, ◌*◌, ◌/◌, Bool, ◌&&◌, List, [], ◌∷◌, ◌++◌, eqb, leb, length, drop, replicate, ℤ, pos, ◌*ℤ◌}
use Rattle.whole.specs.Whole.{floor_z, mod_z}
use Rattle.whole.specs.Ranges.{eq_z}
use Rattle.whole.specs.Each.{all_below}
use Rattle.whole.specs.Values.{joined}
use Rattle.whole.specs.Refusals.{unless, lowest}
use Rattle.whole.specs.Answers.{given, number, no_number_rule}
use Rattle.whole.specs.declared.Number.{Number}
use Rattle.text.specs.Bytes.{pasted}
use Rattle.fields.specs.declared.Day.{Day}
use Rattle.fields.specs.Records.{day_from_rule}
use Rattle.fields.specs.Ranges.{inside}
use Rattle.bulletin.specs.Columns.{mjd_columns, x_columns, y_columns, ut1_columns, with_decimal}
use Rattle.bulletin.specs.Reading.{day_count, in_ranges_rule}

-- ---- the row of a record: 185 columns and a line feed, blank but for the four decimals, in the units that the columns have

abbrev pub blank_row : List ℕ
blank_row = replicate 185 32 ++ (10 ∷ [])

unfoldable pub row_for_rule : Day → List ℕ
row_for_rule d =
    with_decimal ut1_columns
    (with_decimal y_columns (with_decimal x_columns (with_decimal mjd_columns blank_row (pos 100 *ℤ d.mjd)) d.x) d.y)
    (floor_z d.ut1_utc 100)

-- a record can stand in a row: its fields are in their ranges, its UT1-UTC is whole hundreds of nanoseconds, and it is marked 1, for the columns
-- hold full UT1
unfoldable pub can_stand_rule : Day → Bool
can_stand_rule d = in_ranges_rule d && (eqb (mod_z d.ut1_utc 100) 0 && eq_z d.mark (pos 1))

-- an answer, with the room after the call
pub record Written : Type 0 where
  pub answer : Number
  pub room : List ℕ

abbrev pub written : Number → List ℕ → Written
written r after = record { answer = r; room = after }

module _ (numbers : List ℤ) where
  -- how many records there are, and record i
  abbrev pub records_in : ℕ
  records_in = length numbers / 6

  abbrev pub record_at_rule : ℕ → Day
  record_at_rule i = day_from_rule (drop (6 * i) numbers)

  -- a right number of whole records, each of which can stand in a row
  unfoldable pub list_right_rule : Bool
  list_right_rule = eqb (6 * records_in) (length numbers) && (inside day_count (pos records_in) && all_below records_in (λ (i : ℕ). can_stand_rule (record_at_rule i)))

  -- a row for each, one behind the other
  unfoldable pub rows_text : List ℕ
  rows_text = joined records_in (λ (i : ℕ). row_for_rule (record_at_rule i))

  -- the refusal, by the length of the room
  unfoldable pub rows_number : ℕ → ℕ
  rows_number room = lowest (unless list_right_rule 2 ∷ unless (leb (186 * records_in) room) 7 ∷ [])

  -- the rows stand at the start of the room
  unfoldable pub rows_outcome : List ℕ → Written
  rows_outcome room =
      given (rows_number (length room)) (written (number (pos (186 * records_in))) (pasted room 0 rows_text)) (λ n. written (no_number_rule n) room)
