use Rattle.std.proofs.Common.{◌-◌, ◌≤◌}
use Rattle.fit.specs.Rates.{tilt}
use Rattle.fit.specs.Chains.{Keeping}
use Rattle.fit.proofs.chain.Chain.keep.Given as goal

abbrev pub invariant-loop-i : goal.invariant-loop-i
invariant-loop-i l = record {
  from : l.self.head ≤ l.i;
  most : l.i ≤ l.self.tail;
  keeping : Keeping tilt l.self.places l.self.values l.self.froms l.self.head l.self.tail l.next l.height l.i l.p;
}

abbrev pub decreases-loop-i : goal.decreases-loop-i
decreases-loop-i l = l.i - l.self.head
