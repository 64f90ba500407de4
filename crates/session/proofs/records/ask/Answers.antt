use mathlib.Core.Path.{sym, ap, ◌∙◌}
use native.Mathlib.Omega.{arith}
use Prim.Native.Nat.{ℕ, ◌≤◌, ◌<◌}
use mathlib.Core.List.{List}
use lib.IntN.{pos}
use Rattle.std.proofs.lemmas.Result.{err_from_is_err_and}
use Rattle.sections.specs.File.{refusal_of_rule, count_of_rule}
use Rattle.sections.specs.Layouts.{places}
use Rattle.sections.specs.Rows.{row_of}
use Rattle.sections.proofs.Refused.{not_accepted}
use Rattle.session.proofs.Answers.{refused_row, asked-refused, asked-there, asked_beyond, row_no, row_yes}
use Rattle.session.proofs.records.ask.Goals as goal

pub returns-in_err-s : goal.returns-in_err-s
returns-in_err-s c =
    let p = err_from_is_err_and c.from_residual.result c.from_residual.ensures.1 in
    let n = c.in_err-s.ensures.number in
    let f = not_accepted _ _ n in
    rw (p.1, p.2) (ap refused_row n ∙ sym (row_no c.args.s.now c.args.p c.args.i (refusal_of_rule c.args.s.now) (asked-refused c.args.s.now c.args.p c.args.i f) f))

pub returns-then-count-i : goal.returns-then-count-i
returns-then-count-i c =
    let s = c.args.s.now in
    let f = ap (λ (t : List ℕ). count_of_rule t c.args.p) c.in_ok-s.ensures.file in
    let l : count_of_rule s c.args.p ≤ c.args.i = omega (arith, c.count.ensures.0, f) in
    sym (row_no s c.args.p c.args.i 5 (asked_beyond s c.args.p c.args.i (sym c.in_ok-s.ensures.number) l) (λ e. omega arith))

pub returns : goal.returns
returns c =
    let s = c.args.s.now in
    let f = ap (λ (t : List ℕ). count_of_rule t c.args.p) c.in_ok-s.ensures.file in
    let l : c.args.i < count_of_rule s c.args.p = omega (arith, c.count.ensures.0, f) in
    let r = c.«record».ensures ∙ ap (λ (t : List ℕ). row_of places t c.args.p c.args.i) c.in_ok-s.ensures.file in
    ap (λ (row : List _). record { refusal = pos 0; row = row }) r ∙ sym (row_yes s c.args.p c.args.i (asked-there s c.args.p c.args.i (sym c.in_ok-s.ensures.number) l))
