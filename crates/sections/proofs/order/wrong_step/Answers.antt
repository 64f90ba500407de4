use native.Mathlib.Omega.{arith}
use mathlib.Core.Path.{◌≡◌, ap, ◌∙◌}
use Prim.Native.Nat.{◌-◌}
use Rattle.sections.specs.Code.{order_number, shape_of}
use Rattle.sections.specs.File.{count_of_rule, size_of}
use Rattle.sections.specs.Layouts.{places}
use Rattle.sections.specs.declared.layouts.Shape.{Shape}
use Rattle.sections.proofs.Shapes.{today}
use Rattle.sections.proofs.Sound.{counts-one, counts-most, size_most, steps-fit, steps-same}
use Rattle.sections.proofs.order.wrong_step.Goals as goal

pub overflow_sub-count : goal.overflow_sub-count
overflow_sub-count c = omega (arith, c.count.ensures.0, counts-one today c.args.c.file.now c.args.c.right c.args.p c.requires)

pub first_step-requires : goal.first_step-requires
unfolding shape_of
first_step-requires c =
    let s = c.args.c.file.now in
    let h = c.args.c.right in
    let p = c.args.p in
    let z : c.layout.result.size ≡ size_of places s p = ap (λ (l : Shape). l.size) c.layout.ensures in
    let a = counts-most today s h p c.requires in
    rw (z, c.first_byte.ensures, c.count.ensures.0) (steps-fit today s h p c.requires, omega (arith, a), size_most today s h p c.requires)

pub returns : goal.returns
unfolding shape_of
returns c =
    let s = c.args.c.file.now in
    let p = c.args.p in
    let z : c.layout.result.size ≡ size_of places s p = ap (λ (l : Shape). l.size) c.layout.ensures in
    c.first_step.ensures ∙ rw (z, c.first_byte.ensures, c.count.ensures.0) (steps-same today s p (order_number c.args.o) (count_of_rule s p - 1))
