use native.Mathlib.Omega.{arith}
use mathlib.Core.Path.{sym, ap, ap₂, ◌∙◌}
use mathlib.Core.Bool.{not}
use Prim.Native.Nat.{ℕ, ◌-◌}
use lib.Dec.{eqb}
use denote.Enum.Bare.{sameb}
use Rattle.whole.proofs.Each.{all_first}
use Rattle.sections.specs.contracts.layouts.Order.{the_type}
use Rattle.sections.specs.declared.layouts.Shape.{Shape}
use Rattle.sections.specs.File.{order_right_rule}
use Rattle.sections.proofs.Orders.{same_order, denied, affirmed}
use Rattle.sections.proofs.Shapes.{today}
use Rattle.sections.proofs.Sound.{counts-one}
use Rattle.sections.proofs.order.order_right.Goals as goal

pub returns-then-ne : goal.returns-then-ne
unfolding order_right_rule
returns-then-ne c =
    let e = ap (λ (l : Shape). not (sameb the_type l.order c.args.o)) c.layout.ensures ∙ ap not (same_order c.args.p _ c.args.o) in
    rw (denied _ (sym e ∙ sym c.ne.ensures ∙ c.if-ne.true)) c.if-ne.true

pub overflow_sub-result : goal.overflow_sub-result
overflow_sub-result c = omega (arith, c.count.ensures.0, counts-one today c.args.c.file.now c.args.c.right c.args.p c.requires)

pub returns-else-ne : goal.returns-else-ne
unfolding order_right_rule
returns-else-ne c =
    let e = ap (λ (l : Shape). not (sameb the_type l.order c.args.o)) c.layout.ensures ∙ ap not (same_order c.args.p _ c.args.o) in
    rw (affirmed _ (sym e ∙ sym c.ne.ensures ∙ c.if-ne.false)) (ap₂ (λ (x y : ℕ). eqb x (y - 1)) c.wrong_step.ensures c.count.ensures.0 ∙ sym (all_first _ _))
