-- `written` by its two ends: refused, and the file stored.
use Rattle.std.proofs.Common.{◌≡◌, sym, ap, ◌∙◌, length, pos, arith, zero-add}
use Rattle.std.proofs.lemmas.Result.{err_from_is_err_and}
use Rattle.whole.specs.Answers.{number, no_number_rule}
use Rattle.whole.proofs.Linear.{back}
use Rattle.sections.specs.Layouts.{places}
use Rattle.sections.proofs.Refused.{some_number}
use Rattle.sections.proofs.Shapes.{today}
use Rattle.writer.specs.Lists.{of_lists}
use Rattle.writer.specs.Writing.{write_refusal}
use Rattle.writer.proofs.Longest.{made-short}
use Rattle.writer.proofs.Outcomes.{accepted, answer-none, answer-long, room_stays, room-written}
use Rattle.writer.proofs.written.Goals as goal

pub returns-in_err-judged : goal.returns-in_err-judged
returns-in_err-judged c =
    let e = c.in_err-judged.ensures in
    let room = c.args.room.now in
    let h : (write_refusal places c.args.l.kinds (of_lists c.args.l) (length room) ≡ 0 → ⊥) = λ z. some_number _ (e ∙ z) in
    let r = err_from_is_err_and c.from_residual.result c.from_residual.ensures.1 in
    rw (r.1, r.2) (ap no_number_rule e ∙ sym (answer-none today _ _ room h), sym (room_stays today _ _ room h))

pub encode-requires : goal.encode-requires
encode-requires c =
    let w = accepted today _ _ _ (sym c.in_ok-judged.ensures) in
    (w.0, w.2)

pub number-requires : goal.number-requires
number-requires c =
    let w = accepted today _ _ _ (sym c.in_ok-judged.ensures) in
    omega (arith, c.encode.ensures.place, made-short _ _ w.0)

pub returns : goal.returns
returns c =
    let e = sym c.in_ok-judged.ensures in
    let p = c.encode.ensures in
    let room = c.args.room.now in
    let g = back {z = c.number.result} (record { sfits = omega arith }) ∙ c.number.ensures ∙ ap pos (p.place ∙ zero-add _) in
    (ap number g ∙ sym (answer-long today _ _ room e), p.bytes ∙ sym (room-written today _ _ room e))
