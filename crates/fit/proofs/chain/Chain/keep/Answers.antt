-- `Chain::keep` meets its contract.
use Rattle.std.proofs.Common.{◌-◌, ◌≤◌, arith}
use Rattle.fit.specs.Rates.{tilt}
use Rattle.fit.proofs.Walk.{keep_start, keep_step}
use Rattle.fit.proofs.chain.Chain.keep.Goals as goal

pub loop-i-init : goal.loop-i-init
loop-i-init c =
    let y = c.args in
    let a = y.self.now in
    record {
      from = c.requires.some;
      most = omega arith;
      keeping = keep_start tilt a.places a.values a.froms a.head a.tail y.next y.height c.left_at-p.result c.left_at-p.ensures;
    }

pub loop-i-preserved : goal.loop-i-preserved
loop-i-preserved c =
    let y = c.args in
    let a = y.self.now in
    let k = c.loop-i in
    let j : a.head ≤ k.i - 1 = omega arith in
    let r = c.left_at-p-in-loop-i in
    record {
      from = j;
      most = omega arith;
      keeping = keep_step tilt a.places a.values a.froms a.head a.tail y.next y.height k.i k.p (k.i - 1) r.result
          k.invariant.keeping (omega arith) j k.invariant.most c.if-p-self.true r.ensures;
    }
