-- The numbers of a file's records, record after record: those that stand in a place, and those that the calls station_at, source_at, day_at and pass_at hand out.
use Rattle.std.specs.Prelude.{ℕ, List, [], ◌∷◌, ℤ, nat_abs}
use Rattle.whole.specs.Values.{first_values}
use Rattle.sections.specs.Layouts.{Table}
use Rattle.sections.specs.File.{count_of_rule, size_of, field_at_rule}
use Rattle.session.specs.Records.{check_of, station_at_rule, source_at_rule, day_at_rule, pass_at_rule}
use Rattle.session.specs.declared.StationAnswer.{StationAnswer}
use Rattle.session.specs.declared.SourceAnswer.{SourceAnswer}
use Rattle.session.specs.declared.DayAnswer.{DayAnswer}
use Rattle.session.specs.declared.PassAnswer.{PassAnswer}
use Rattle.whole.specs.Values.{joined}

-- the records of place p, of any kind: as many numbers of each as its kind has
unfoldable pub rows_in : Table → List ℕ → ℕ → List ℤ
rows_in t s p = joined (count_of_rule s p) (λ (i : ℕ). first_values (size_of t s p) (field_at_rule t s p i))

-- ---- what the calls hand out

abbrev pub of_station : StationAnswer → List ℤ
of_station r = r.id ∷ r.x ∷ r.y ∷ r.z ∷ []

abbrev pub of_source : SourceAnswer → List ℤ
of_source r = r.id ∷ r.right_ascension ∷ r.declination ∷ []

abbrev pub of_day : DayAnswer → List ℤ
of_day r = r.mjd ∷ r.x ∷ r.y ∷ r.ut1_utc ∷ r.tai_utc ∷ r.mark ∷ []

abbrev pub of_pass_rule : PassAnswer → List ℤ
of_pass_rule r = r.station1 ∷ r.station2 ∷ r.source ∷ r.mjd ∷ r.ms ∷ r.step ∷ r.samples ∷ r.tolerance ∷ []

-- all records of a section, as many as `check` counts
unfoldable pub stations_in : List ℕ → List ℤ
stations_in s = joined (nat_abs (check_of s).stations) (λ (i : ℕ). of_station (station_at_rule s i))

unfoldable pub sources_in : List ℕ → List ℤ
sources_in s = joined (nat_abs (check_of s).sources) (λ (i : ℕ). of_source (source_at_rule s i))

unfoldable pub days_in : List ℕ → List ℤ
days_in s = joined (nat_abs (check_of s).days) (λ (i : ℕ). of_day (day_at_rule s i))

unfoldable pub passes_in : List ℕ → List ℤ
passes_in s = joined (nat_abs (check_of s).passes) (λ (i : ℕ). of_pass_rule (pass_at_rule s i))
