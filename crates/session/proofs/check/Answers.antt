use mathlib.Core.Path.{sym, ap, ◌∙◌}
use lib.IntN.{pos}
use mathlib.Core.List.{List}
use Prim.Native.Nat.{ℕ}
use Rattle.whole.proofs.Linear.{ret}
use Rattle.sections.specs.File.{kind_of, count_of_rule}
use Rattle.sections.proofs.Refused.{not_accepted}
use Rattle.session.proofs.Answers.{number_back, check_refused, check_accepted}
use Rattle.session.proofs.check.Goals as goal

pub returns-in-Ok : goal.returns-in-Ok
returns-in-Ok c =
    let s = c.args.file.now in
    let f = c.in-Ok.ensures.file in
    let n = λ (p : ℕ). ap (λ (t : List ℕ). count_of_rule t p) f in
    let f0 = number_back c.number.result _ (count_of_rule s 0) c.number.type_inv c.number.ensures (c.count.ensures.0 ∙ n 0) in
    let f1 = number_back c.number-in-Ok.result _ (count_of_rule s 1) c.number-in-Ok.type_inv c.number-in-Ok.ensures (c.count-in-Ok.ensures.0 ∙ n 1) in
    let f2 = number_back c.number-in-Ok-2.result _ (count_of_rule s 2) c.number-in-Ok-2.type_inv c.number-in-Ok-2.ensures (c.count-in-Ok-2.ensures.0 ∙ n 2) in
    let f3 = number_back c.number-in-Ok-3.result _ (count_of_rule s 3) c.number-in-Ok-3.type_inv c.number-in-Ok-3.ensures (c.count-in-Ok-3.ensures.0 ∙ n 3) in
    let k = number_back c.number-in-Ok-4.result _ (kind_of s 2) c.number-in-Ok-4.type_inv c.number-in-Ok-4.ensures (c.kind.ensures.0 ∙ ap (λ (t : List ℕ). kind_of t 2) (c.contents.ensures ∙ f)) in
    (λ j. record { refusal = pos 0; stations = f0 j; sources = f1 j; days = f2 j; passes = f3 j; day_kind = k j }) ∙ sym (check_accepted s (sym c.in-Ok.ensures.number))

pub returns-in-Err : goal.returns-in-Err
returns-in-Err c =
    let n = c.in-Err.ensures.number in
    let g = ret c.number-in-Err.result c.number-in-Err.type_inv ∙ c.number-in-Err.ensures ∙ ap pos n in
    (λ j. record { refusal = g j; stations = pos 0; sources = pos 0; days = pos 0; passes = pos 0; day_kind = pos 0 }) ∙ sym (check_refused _ (not_accepted _ _ n))
