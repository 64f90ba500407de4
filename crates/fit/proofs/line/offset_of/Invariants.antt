use Rattle.std.proofs.Common.{◌≡◌, ◌*◌}
use Rattle.fit.specs.Rates.{scaled, tilt, off}
use Rattle.fit.proofs.line.offset_of.Given as goal

abbrev pub invariant-loop-j : goal.invariant-loop-j
invariant-loop-j l = l.a ≡ off (scaled l.samples.values.now) (65536 * l.samples.tolerance) tilt l.p l.first l.j
