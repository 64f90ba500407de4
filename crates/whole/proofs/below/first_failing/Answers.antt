use Rattle.std.proofs.Common.{◌≡◌, sym, ◌∙◌, arith}
use Rattle.whole.proofs.Each.{first_zero, first_next, first_hit}
use Rattle.whole.proofs.below.first_failing.Goals as goal

pub loop-i-init : goal.loop-i-init
loop-i-init g c = λ p h. first_zero p

pub loop-i-preserved : goal.loop-i-preserved
loop-i-preserved g c = λ p h. let b = h c.loop-i.i c.passes.result c.loop-i-test.true c.passes.ensures in
    first_next c.loop-i.i p (c.loop-i.invariant p h) (sym b ∙ c.if-not-passes.false)

pub returns-then-not-passes : goal.returns-then-not-passes
returns-then-not-passes g c = λ p h. let b = h c.loop-i.i c.passes.result c.loop-i-test.true c.passes.ensures in
    sym (first_hit c.args.n c.loop-i.i p c.loop-i-test.true (c.loop-i.invariant p h) (sym b ∙ c.if-not-passes.true))

pub returns : goal.returns
returns g c = λ p h. let e : c.loop-i.i ≡ c.args.n = omega (arith, c.loop-i-test.false, c.loop-i.auto.i-end) in
    sym (rw e at c.loop-i.invariant p h)
