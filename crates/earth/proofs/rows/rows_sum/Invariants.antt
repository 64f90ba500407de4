-- The invariant: the sum is that over the rows so far.
use Rattle.std.proofs.Common.{◌≡◌, take}
use Rattle.earth.specs.TideInUT1.{rows_sum}
use Rattle.earth.proofs.rows.rows_sum.Given as goal

abbrev pub invariant-loop-row : goal.invariant-loop-row
invariant-loop-row l = l.sum ≡ rows_sum (take l.row-index l.rows) l.a
