-- The status with which a program ends: 0 where all was answered, 1 where something is refused, and 3 where something was lost. 2, for wrong use, is told
-- before anything is read.
use Rattle.std.specs.Prelude.{ℕ, Bool, cond}
use Rattle.console.specs.declared.ending.Ending.{Ending}
use Rattle.console.specs.declared.ending.Ending.TheVariants.{Answered, Refused, Misused, Lost}

-- what was lost goes before what was refused
abbrev pub status_by : Bool → Bool → ℕ
status_by lost answered = cond lost 3 (cond answered 0 1)

-- the status of each ending
abbrev pub status_in : Ending → ℕ
status_in Answered = 0
status_in Refused = 1
status_in Misused = 2
status_in Lost = 3
