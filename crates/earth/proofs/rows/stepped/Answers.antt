-- `earth::rows::stepped` meets its contract.
use Rattle.std.proofs.Common.{◌≡◌, sym, ap, ◌∙◌, arith}
use Rattle.earth.proofs.rows.stepped.Goals as goal

pub loop-init : goal.loop-init
loop-init g c = λ at z h. sym z

pub loop-preserved : goal.loop-preserved
loop-preserved g c = λ at z h. h c.loop.counter c.step-sum.result (rw (c.loop.invariant at z h) at c.step-sum.ensures)

pub returns : goal.returns
returns g c = λ at z h. let e : c.loop.counter ≡ c.args.times = omega (arith, c.loop-test.false, c.loop.auto.counter-end) in
    c.loop.invariant at z h ∙ ap at e
