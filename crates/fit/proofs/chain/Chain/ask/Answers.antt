-- `Chain::ask` meets its contract.
use Rattle.std.proofs.Common.{◌+◌, ◌<◌, get_or, refl, arith}
use Rattle.fit.specs.Rates.{tilt}
use Rattle.fit.proofs.Walk.{ask_start, ask_step, ask_end}
use Rattle.fit.proofs.chain.Chain.ask.Goals as goal
use Rattle.fit.proofs.chain.Chain.ask.Goals.{then-loop-i-test+else-self-i, else-loop-i-test}

pub loop-i-init : goal.loop-i-init
loop-i-init c =
    let y = c.args in
    let a = y.self.now in
    record {
      from = omega arith;
      most = c.requires.some;
      asking = ask_start tilt a.places a.values a.froms a.head a.tail y.next y.height y.slack y.least c.max-p.result (rw c.left_at.ensures at c.max-p.ensures);
    }

pub loop-i-preserved : goal.loop-i-preserved
loop-i-preserved c =
    let y = c.args in
    let a = y.self.now in
    let k = c.loop-i in
    record {
      from = omega arith;
      most = omega arith;
      asking = ask_step tilt a.places a.values a.froms a.head a.tail y.next y.height y.slack y.least k.i k.p k.invariant.asking (k.i + 1) c.max-p-in-loop-i.result
          refl c.loop-i-test.true c.if-self-i.true (rw c.left_at-in-loop-i.ensures at c.max-p-in-loop-i.ensures);
    }

pub returns : goal.returns
returns c =
    let y = c.args in
    let a = y.self.now in
    let k = c.loop-i in
    let stop : k.i < a.tail → k.p < get_or a.froms (k.i + 1) 0 =
    elim c.loop-i-test.branch [ then-loop-i-test+else-self-i w ↦ λ h. w.if-self-i.false | else-loop-i-test w ↦ λ h. absurd (omega arith) ] in
    ((refl, refl, refl), refl, k.invariant.from, ask_end tilt a.places a.values a.froms a.head a.tail y.next y.height y.slack y.least k.i k.p k.invariant.asking stop)
