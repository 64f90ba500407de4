use mathlib.Core.Path.{ap, ◌∙◌}
use native.Mathlib.Omega.{arith}
use Prim.Native.Nat.{ℕ}
use Rattle.whole.specs.Each.{first_not}
use Rattle.whole.proofs.Linear.{ret}
use Rattle.sections.specs.File.{size_of, field_right}
use Rattle.sections.specs.Layouts.{places}
use Rattle.sections.proofs.Shapes.{today}
use Rattle.sections.proofs.Sound.{counts-most}
use Rattle.session.specs.Fault.{range_fault_rule}
use Rattle.session.proofs.Answers.{number_back}
use Rattle.session.proofs.faults.range_fault.Goals as goal

pub number-requires-3 : goal.number-requires-3
number-requires-3 c = omega (arith, c.wrong_record-i.ensures, c.requires.1, counts-most today c.args.c.file.now c.args.c.right c.args.p c.requires.0)

pub returns : goal.returns
unfolding range_fault_rule
returns c =
    let s = c.args.c.file.now in
    let p = c.args.p in
    let i = c.wrong_record-i.ensures in
    let k = c.wrong_field-k.ensures.0 ∙ ap (λ (n : ℕ). first_not (size_of places s p) (field_right places s p n)) i in
    let n = ret c.number.result c.number.type_inv ∙ c.number.ensures in
    let a = number_back c.number-2.result _ _ c.number-2.type_inv c.number-2.ensures c.kind.ensures.0 in
    let b = number_back c.number-3.result _ _ c.number-3.type_inv c.number-3.ensures i in
    let d = number_back c.number-4.result _ _ c.number-4.type_inv c.number-4.ensures k in
    λ j. record { number = n j; section = a j; «record» = b j; field = d j }
