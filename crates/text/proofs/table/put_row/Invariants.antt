use Rattle.std.proofs.Common.{◌+◌, ◌*◌, ◌≤◌, take}
use Rattle.text.specs.Put.{Put}
use Rattle.text.proofs.NumberRows.{spaced}
use Rattle.text.proofs.table.put_row.Given as goal

abbrev pub invariant-loop-z : goal.invariant-loop-z
invariant-loop-z l = Put l.initial.room l.at (spaced (take l.z-index l.before)) l.room l.end × (l.end ≤ l.at + 21 * l.z-index)
