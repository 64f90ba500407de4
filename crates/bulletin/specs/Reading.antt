-- Document 02, L3: what `days_from_rows` answers, for a text of rows, a first day, a count of days, and a TAI-UTC for each of them.
use Rattle.std.specs.Prelude.{ℕ, ◌-◌, ◌*◌, Bool, ◌&&◌, List, [], ◌∷◌, ◌++◌, eqb, leb, ltb, length, get_or, replicate, ℤ, pos, ◌+ℤ◌, ◌*ℤ◌}
use Rattle.std.specs.Int.Signed.{le_z, lt_z}
use Rattle.whole.specs.Whole.{pos_part}
use Rattle.whole.specs.Ranges.{eq_z}
use Rattle.whole.specs.Each.{all_below, implies}
use Rattle.whole.specs.Values.{joined}
use Rattle.whole.specs.Refusals.{unless, first_of}
use Rattle.whole.specs.Answers.{given}
use Rattle.fields.specs.declared.Day.{Day}
use Rattle.fields.specs.declared.ranges.Range.{Range}
use Rattle.fields.specs.Ranges.{range, inside, mjd, pole, ut1utc, taiutc}
use Rattle.bulletin.specs.declared.Days.{Days}
use Rattle.bulletin.specs.Columns.{x_columns, y_columns, ut1_columns, value_in_rule}
use Rattle.bulletin.specs.Rows.{rows_of, row_at_rule, has_day_rule, day_in_rule, is_filled_rule, days_of, first_in_rule}

-- how many days a list may have
abbrev pub day_count : Range
day_count = range 2 64

-- each field but the mark is in its range. A record that is read is marked 1, and one that is written must be (`canStand`).
unfoldable pub in_ranges_rule : Day → Bool
in_ranges_rule d = inside mjd d.mjd && (inside pole d.x && (inside pole d.y && (inside ut1utc d.ut1_utc && inside taiutc d.tai_utc)))

-- its numbers in the order of a session file
abbrev pub numbers_of_rule : Day → List ℤ
numbers_of_rule d = d.mjd ∷ d.x ∷ d.y ∷ d.ut1_utc ∷ d.tai_utc ∷ d.mark ∷ []

-- the days asked for: `count` of them from the first on
abbrev pub asked : ℤ → ℤ → ℤ → Bool
asked first count d = le_z first d && lt_z d (first +ℤ count)

-- the record of day d, by the first row with that day: x and y in microarcseconds, UT1-UTC in nanoseconds. Rows hold full UT1, which document 02, L4,
-- marks 1.
unfoldable pub record_for : List ℕ → ℤ → ℤ → Day
record_for text d tai =
    let row = row_at_rule text (first_in_rule (days_of text) d) in
    record { mjd = d; x = value_in_rule x_columns row; y = value_in_rule y_columns row; ut1_utc = pos 100 *ℤ value_in_rule ut1_columns row; tai_utc = tai; mark = pos 1 }

-- each row has a day
unfoldable pub all_dated : List ℕ → Bool
all_dated text = all_below (length (rows_of text)) (λ (i : ℕ). has_day_rule (row_at_rule text i))

module _ (text : List ℕ) (first count : ℤ) where
  -- row i is taken: its day is asked for, and it is the first row with that day
  unfoldable pub is_taken : ℕ → Bool
  is_taken i = asked first count (day_in_rule (row_at_rule text i)) && eqb (first_in_rule (days_of text) (day_in_rule (row_at_rule text i))) i

  -- each row that is taken is filled
  unfoldable pub taken_filled_rule : Bool
  taken_filled_rule = all_below (length (rows_of text)) (λ (i : ℕ). implies (is_taken i) (is_filled_rule (row_at_rule text i)))

  -- each day asked for is in a row
  unfoldable pub days_there_rule : Bool
  days_there_rule = all_below (pos_part count) (λ (k : ℕ). ltb (first_in_rule (days_of text) (first +ℤ pos k)) (length (rows_of text)))

  module _ (tai : List ℤ) where
    -- record k of the days asked for
    abbrev pub record_of_rule : ℕ → Day
    record_of_rule k = record_for text (first +ℤ pos k) (get_or tai k (pos 0))

    -- first day and count are in their ranges, there is a TAI-UTC for each day, and each field of a record is in its range
    unfoldable pub values_right : Bool
    values_right = inside mjd first && (inside day_count count && (eq_z (pos (length tai)) count && all_below (pos_part count) (λ (k : ℕ). in_ranges_rule (record_of_rule k))))

    -- the refusal: the first of these that applies
    unfoldable pub days_number : ℕ
    days_number = first_of (unless (leb (length text) 65_536) 1 ∷ unless (all_dated text && taken_filled_rule) 10 ∷ unless days_there_rule 11 ∷ unless values_right 2 ∷ [])

    -- the records, and zeros behind the last
    unfoldable pub records : List ℤ
    records = joined (pos_part count) (λ (k : ℕ). numbers_of_rule (record_of_rule k)) ++ replicate (384 - 6 * pos_part count) (pos 0)

abbrev pub days : List ℤ → Days
days zs = record { refusal = pos 0; days = zs }

abbrev pub no_days_rule : ℕ → Days
no_days_rule n = record { refusal = pos n; days = replicate 384 (pos 0) }

unfoldable pub days_outcome : List ℕ → ℤ → ℤ → List ℤ → Days
days_outcome text first count tai = given (days_number text first count tai) (days (records text first count tai)) no_days_rule
