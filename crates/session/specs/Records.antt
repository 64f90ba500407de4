-- The records of a session file and the answers of the calls that read it. Document 01, 'Session file' and 'Refusal numbers' 1 to 5.
use Rattle.std.specs.Prelude.{ℕ, not, cond, List, [], ◌∷◌, ℤ, pos, replicate, ltb, eqb, Result, Ok, Err}
use Rattle.whole.specs.Each.{first_not}
use Rattle.whole.specs.Refusals.{unless, lowest, number_of}
use Rattle.whole.specs.declared.refusal.Refusal.{Refusal}
use Rattle.fields.specs.declared.Station.{Station}
use Rattle.fields.specs.declared.Source.{Source}
use Rattle.fields.specs.declared.Day.{Day}
use Rattle.fields.specs.declared.Pass.{Pass}
use Rattle.fields.specs.Records.{station_from_rule, source_from_rule, day_from_rule, pass_from_rule}
use Rattle.sections.specs.Layouts.{places}
use Rattle.whole.specs.Ranges.{eq_z}
use Rattle.sections.specs.File.{refusal_of_rule, kind_of, count_of_rule, field_at_rule}
use Rattle.sections.specs.Rows.{row_of}
use Rattle.session.specs.declared.Counts.{Counts}
use Rattle.session.specs.declared.StationAnswer.{StationAnswer}
use Rattle.session.specs.declared.SourceAnswer.{SourceAnswer}
use Rattle.session.specs.declared.DayAnswer.{DayAnswer}
use Rattle.session.specs.declared.PassAnswer.{PassAnswer}

-- ---- check: the refusal and zeros, or 0, the four counts, and the kind of the orientation records, which document 02, L4, has two of

abbrev pub no_counts : ℕ → Counts
no_counts n = record { refusal = pos n; stations = pos 0; sources = pos 0; days = pos 0; passes = pos 0; day_kind = pos 0 }

abbrev pub counts_in : List ℕ → Counts
counts_in s = record { refusal = pos 0; stations = pos (count_of_rule s 0); sources = pos (count_of_rule s 1); days = pos (count_of_rule s 2); passes = pos (count_of_rule s 3); day_kind = pos (kind_of s 2) }

unfoldable pub check_of : List ℕ → Counts
check_of s = cond (eqb (refusal_of_rule s) 0) (counts_in s) (no_counts (refusal_of_rule s))

-- ---- the records of a file that is accepted, by their place in their section

unfoldable pub station_of_rule : List ℕ → ℕ → Station
station_of_rule s i = station_from_rule (row_of places s 0 i)

unfoldable pub source_of : List ℕ → ℕ → Source
source_of s i = source_from_rule (row_of places s 1 i)

unfoldable pub day_of_rule : List ℕ → ℕ → Day
day_of_rule s i = day_from_rule (row_of places s 2 i)

unfoldable pub pass_of_rule : List ℕ → ℕ → Pass
pass_of_rule s i = pass_from_rule (row_of places s 3 i)

-- ---- looked for by their first field

-- the first record of place p that has this id, or this MJD; the number of records where none has
unfoldable pub place_by_rule : List ℕ → ℕ → ℤ → ℕ
place_by_rule s p z = first_not (count_of_rule s p) (λ (i : ℕ). not (eq_z (field_at_rule places s p i 0) z))

-- that record, said only where there is one
abbrev pub station_by : List ℕ → ℤ → Station
station_by s z = station_of_rule s (place_by_rule s 0 z)

abbrev pub source_by : List ℕ → ℤ → Source
source_by s z = source_of s (place_by_rule s 1 z)

abbrev pub day_by : List ℕ → ℤ → Day
day_by s z = day_of_rule s (place_by_rule s 2 z)

-- ---- a record asked for by its place: the refusal and zeros, or 0 and the record's fields

-- the file's own number, and 5 beyond the last
unfoldable pub asked_of : List ℕ → ℕ → ℕ → ℕ
asked_of s p i = lowest (refusal_of_rule s ∷ unless (ltb i (count_of_rule s p)) 5 ∷ [])

-- what is asked for: the refusal and zeros, or 0 and the numbers of a record
pub record Asked : Type 0 where
  pub refusal : ℤ
  pub row : List ℤ

-- as the code has it
abbrev pub asked_in : Result (List ℤ) Refusal → Asked
asked_in (Ok row) = record { refusal = pos 0; row = row }
asked_in (Err r) = record { refusal = pos (number_of r); row = replicate 8 (pos 0) }

unfoldable pub asked_row : List ℕ → ℕ → ℕ → Asked
asked_row s p i = record { refusal = pos (asked_of s p i); row = cond (eqb (asked_of s p i) 0) (row_of places s p i) (replicate 8 (pos 0)) }

abbrev pub station_answer : ℤ → Station → StationAnswer
station_answer n r = record { refusal = n; id = r.id; x = r.x; y = r.y; z = r.z }

abbrev pub source_answer : ℤ → Source → SourceAnswer
source_answer n r = record { refusal = n; id = r.id; right_ascension = r.right_ascension; declination = r.declination }

abbrev pub day_answer : ℤ → Day → DayAnswer
day_answer n r = record { refusal = n; mjd = r.mjd; x = r.x; y = r.y; ut1_utc = r.ut1_utc; tai_utc = r.tai_utc; mark = r.mark }

abbrev pub pass_answer : ℤ → Pass → PassAnswer
pass_answer n r =
    record {
      refusal = n;
      station1 = r.station1;
      station2 = r.station2;
      source = r.source;
      mjd = r.mjd;
      ms = r.ms;
      step = r.step;
      samples = r.samples;
      tolerance = r.tolerance;
    }

-- what is asked for, as an answer has it
abbrev pub station_answer_in : Result Station Refusal → StationAnswer
station_answer_in (Ok r) = station_answer (pos 0) r
station_answer_in (Err n) = record { refusal = pos (number_of n); id = pos 0; x = pos 0; y = pos 0; z = pos 0 }

abbrev pub source_answer_in : Result Source Refusal → SourceAnswer
source_answer_in (Ok r) = source_answer (pos 0) r
source_answer_in (Err n) = record { refusal = pos (number_of n); id = pos 0; right_ascension = pos 0; declination = pos 0 }

abbrev pub day_answer_in : Result Day Refusal → DayAnswer
day_answer_in (Ok r) = day_answer (pos 0) r
day_answer_in (Err n) = record { refusal = pos (number_of n); mjd = pos 0; x = pos 0; y = pos 0; ut1_utc = pos 0; tai_utc = pos 0; mark = pos 0 }

abbrev pub pass_answer_in : Result Pass Refusal → PassAnswer
pass_answer_in (Ok r) = pass_answer (pos 0) r
pass_answer_in (Err n) = record { refusal = pos (number_of n); station1 = pos 0; station2 = pos 0; source = pos 0; mjd = pos 0; ms = pos 0; step = pos 0; samples = pos 0; tolerance = pos 0 }

unfoldable pub station_at_rule : List ℕ → ℕ → StationAnswer
station_at_rule s i = station_answer (asked_row s 0 i).refusal (station_from_rule (asked_row s 0 i).row)

unfoldable pub source_at_rule : List ℕ → ℕ → SourceAnswer
source_at_rule s i = source_answer (asked_row s 1 i).refusal (source_from_rule (asked_row s 1 i).row)

unfoldable pub day_at_rule : List ℕ → ℕ → DayAnswer
day_at_rule s i = day_answer (asked_row s 2 i).refusal (day_from_rule (asked_row s 2 i).row)

unfoldable pub pass_at_rule : List ℕ → ℕ → PassAnswer
pass_at_rule s i = pass_answer (asked_row s 3 i).refusal (pass_from_rule (asked_row s 3 i).row)
