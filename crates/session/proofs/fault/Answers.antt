use mathlib.Core.Path.{sym, ap, ◌∙◌}
use native.Mathlib.Omega.{arith}
use lib.IntN.{pos}
use Rattle.whole.proofs.Linear.{ret}
use Rattle.session.specs.Fault.{range_fault_rule}
use Rattle.sections.proofs.Accepted.{no_contents, is_one, is_two, is_three, is_four, is_none}
use Rattle.sections.proofs.Shapes.{today}
use Rattle.session.proofs.Answers.{number_back}
use Rattle.session.proofs.Blame.{fault_none, fault_word, fault_range, ids_named, days_named, section_wrong}
use Rattle.session.proofs.fault.Goals as goal

pub returns-in-Err : goal.returns-in-Err
returns-in-Err c =
    let s = c.args.file.now in
    let w = c.in-Err.ensures.word in
    let n = ret c.number.result c.number.type_inv ∙ c.number.ensures in
    let g = number_back c.number-in-Err.result _ _ c.number-in-Err.type_inv c.number-in-Err.ensures w in
    (λ j. record { number = n j; section = pos 0; «record» = pos 0; field = g j }) ∙ sym (fault_word s (is_one today s (no_contents today s (omega (arith, w, c.in-Err.ensures.most)))))

pub range_fault-requires : goal.range_fault-requires
range_fault-requires c =
    let e = c.wrong_section-p.ensures in
    (c.if-p-lt4.true, rw e (section_wrong _ (rw e at c.if-p-lt4.true)))

pub returns-then-p-lt4 : goal.returns-then-p-lt4
returns-then-p-lt4 c =
    let f = c.in-Ok.ensures.file in
    let e = c.wrong_section-p.ensures in
    rw f at (c.range_fault.ensures ∙ ap (range_fault_rule _) e ∙ sym (fault_range _ (is_two today _ c.in-Ok.c.right (rw e at c.if-p-lt4.true))))

pub returns-then-q-lt4 : goal.returns-then-q-lt4
returns-then-q-lt4 c =
    let f = c.in-Ok.ensures.file in
    let e = c.wrong_order-q.ensures in
    let h = is_three today _ c.in-Ok.c.right (rw c.wrong_section-p.ensures at c.if-p-lt4.false) (rw e at c.if-q-lt4.true) in
    rw f at (ids_named _ c.order_fault.ensures e h (omega (arith, h)))

pub returns-then-r-lt4 : goal.returns-then-r-lt4
returns-then-r-lt4 c =
    let f = c.in-Ok.ensures.file in
    let e = c.wrong_order-r.ensures in
    let h = is_four today _ c.in-Ok.c.right (rw c.wrong_section-p.ensures at c.if-p-lt4.false) (rw c.wrong_order-q.ensures at c.if-q-lt4.false) (rw e at c.if-r-lt4.true) in
    rw f at (days_named _ c.order_fault-then-r-lt4.ensures e h (omega (arith, h)))

pub returns : goal.returns
returns c =
    let f = c.in-Ok.ensures.file in
    rw f at (sym (fault_none _ (is_none today _ c.in-Ok.c.right (rw c.wrong_section-p.ensures at c.if-p-lt4.false) (rw c.wrong_order-q.ensures at c.if-q-lt4.false) (rw c.wrong_order-r.ensures at c.if-r-lt4.false))))
