-- What the public calls of this crate promise: arguments as they stand on entry, then the result, then the lent room after the call.
use Rattle.std.specs.Prelude.{ℕ, ◌≡◌, List, ℤ}
use Rattle.whole.specs.declared.Number.{Number}
use Rattle.bulletin.specs.declared.Days.{Days}
use Rattle.bulletin.specs.Reading.{days_outcome}
use Rattle.bulletin.specs.Writing.{written, rows_outcome}

abbrev pub DaysPromise : List ℕ → ℤ → ℤ → List ℤ → Days → Type 0
DaysPromise text first count tai r = r ≡ days_outcome text first count tai

abbrev pub RowsPromise : List ℤ → List ℕ → Number → List ℕ → Type 0
RowsPromise days room r after = written r after ≡ rows_outcome days room
