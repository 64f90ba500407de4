-- What each call promises of its answer, whatever bytes it is handed.
use Rattle.std.specs.Prelude.{◌≡◌, ℕ, List}
use Rattle.session.specs.declared.Counts.{Counts}
use Rattle.session.specs.declared.StationAnswer.{StationAnswer}
use Rattle.session.specs.declared.SourceAnswer.{SourceAnswer}
use Rattle.session.specs.declared.DayAnswer.{DayAnswer}
use Rattle.session.specs.declared.PassAnswer.{PassAnswer}
use Rattle.session.specs.declared.Place.{Place}
use Rattle.session.specs.Records.{check_of, station_at_rule, source_at_rule, day_at_rule, pass_at_rule}
use Rattle.session.specs.Fault.{fault_of_rule}

abbrev pub CheckPromise : List ℕ → Counts → Type 0
CheckPromise file r = r ≡ check_of file

abbrev pub FaultPromise : List ℕ → Place → Type 0
FaultPromise file r = r ≡ fault_of_rule file

abbrev pub StationPromise : List ℕ → ℕ → StationAnswer → Type 0
StationPromise file index r = r ≡ station_at_rule file index

abbrev pub SourcePromise : List ℕ → ℕ → SourceAnswer → Type 0
SourcePromise file index r = r ≡ source_at_rule file index

abbrev pub DayPromise : List ℕ → ℕ → DayAnswer → Type 0
DayPromise file index r = r ≡ day_at_rule file index

abbrev pub PassPromise : List ℕ → ℕ → PassAnswer → Type 0
PassPromise file index r = r ≡ pass_at_rule file index
