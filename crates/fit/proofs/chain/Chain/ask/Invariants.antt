use Rattle.std.proofs.Common.{◌-◌, ◌≤◌}
use Rattle.fit.specs.Rates.{tilt}
use Rattle.fit.proofs.Walk.{Asking}
use Rattle.fit.proofs.chain.Chain.ask.Given as goal

abbrev pub invariant-loop-i : goal.invariant-loop-i
invariant-loop-i l = record {
  from : l.self.head ≤ l.i;
  most : l.i ≤ l.self.tail;
  asking : Asking tilt l.self.places l.self.values l.self.froms l.self.head l.self.tail l.next l.height l.slack l.least l.i l.p;
}

abbrev pub decreases-loop-i : goal.decreases-loop-i
decreases-loop-i l = l.self.tail - l.i
