-- Each call's promise fixes one value: any two results that it allows are equal. Assumes nothing.
use mathlib.Core.Path.{◌≡◌}
use Prim.Native.Nat.{ℕ}
use mathlib.Core.List.{List}
use Rattle.session.specs.declared.Counts.{Counts}
use Rattle.session.specs.declared.StationAnswer.{StationAnswer}
use Rattle.session.specs.declared.SourceAnswer.{SourceAnswer}
use Rattle.session.specs.declared.DayAnswer.{DayAnswer}
use Rattle.session.specs.declared.PassAnswer.{PassAnswer}
use Rattle.session.specs.declared.Place.{Place}
use Rattle.session.specs.Promises.{CheckPromise, FaultPromise, StationPromise, SourcePromise, DayPromise, PassPromise}
use Rattle.session.proofs.Answers.{one_value}

module _ (file : List ℕ) where
  pub check_one : (r s : Counts) → CheckPromise file r → CheckPromise file s → r ≡ s
  check_one r s = one_value

  pub fault_one : (r s : Place) → FaultPromise file r → FaultPromise file s → r ≡ s
  fault_one r s = one_value

  module _ (index : ℕ) where
    pub station-one : (r s : StationAnswer) → StationPromise file index r → StationPromise file index s → r ≡ s
    station-one r s = one_value

    pub source_one : (r s : SourceAnswer) → SourcePromise file index r → SourcePromise file index s → r ≡ s
    source_one r s = one_value

    pub day-one : (r s : DayAnswer) → DayPromise file index r → DayPromise file index s → r ≡ s
    day-one r s = one_value

    pub pass-one : (r s : PassAnswer) → PassPromise file index r → PassPromise file index s → r ≡ s
    pass-one r s = one_value
