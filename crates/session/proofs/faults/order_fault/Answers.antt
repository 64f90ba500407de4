use mathlib.Core.Path.{ap, ◌∙◌}
use native.Mathlib.Omega.{arith}
use Prim.Native.Nat.{ℕ, ◌+◌, ◌-◌}
use lib.IntN.{pos}
use Rattle.whole.proofs.Each.{first-most}
use Rattle.whole.proofs.Linear.{ret}
use Rattle.sections.specs.Code.{order_number}
use Rattle.sections.specs.File.{count_of_rule, step_right_rule}
use Rattle.sections.specs.Layouts.{places}
use Rattle.sections.proofs.Shapes.{today}
use Rattle.sections.proofs.Sound.{counts-most}
use Rattle.session.specs.Fault.{order_fault_rule}
use Rattle.session.proofs.Answers.{number_back}
use Rattle.session.proofs.faults.order_fault.Goals as goal

pub overflow_add-i : goal.overflow_add-i
overflow_add-i c =
    let s = c.args.c.file.now in
    omega (arith, c.wrong_step-i.ensures, first-most (count_of_rule s c.args.p - 1) (step_right_rule places s (order_number c.args.o) c.args.p), counts-most today s c.args.c.right c.args.p c.requires)

pub number-requires-3 : goal.number-requires-3
number-requires-3 c =
    let s = c.args.c.file.now in
    omega (arith, c.wrong_step-i.ensures, first-most (count_of_rule s c.args.p - 1) (step_right_rule places s (order_number c.args.o) c.args.p), counts-most today s c.args.c.right c.args.p c.requires)

pub returns : goal.returns
unfolding order_fault_rule
returns c =
    let n = ret c.number.result c.number.type_inv ∙ c.number.ensures in
    let a = number_back c.number-2.result _ _ c.number-2.type_inv c.number-2.ensures c.kind.ensures.0 in
    let d = number_back c.number-3.result _ _ c.number-3.type_inv c.number-3.ensures (ap (λ (i : ℕ). i + 1) c.wrong_step-i.ensures) in
    λ j. record { number = n j; section = a j; «record» = d j; field = pos 0 }
