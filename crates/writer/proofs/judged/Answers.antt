-- `judged` by the ways in which it ends: wrong lists, a file that the reader refuses, a room too short, no refusal.
use Rattle.std.proofs.Common.{sym, ap, ◌∙◌, arith}
use Rattle.std.proofs.lemmas.Result.{err_from_is_err_and}
use lib.Seq.{length-take-le}
use Rattle.text.proofs.Puts.{put_inside, put_start}
use Rattle.sections.specs.File.{refusal_of_rule}
use Rattle.sections.proofs.Refused.{not_accepted}
use Rattle.sections.proofs.Shapes.{today}
use Rattle.writer.proofs.Longest.{made-short}
use Rattle.writer.proofs.Outcomes.{by_lists, by_reader, by_short, by_file}
use Rattle.writer.proofs.judged.Goals as goal

-- the lists are wrong: 1
pub returns-then-not-lists_right : goal.returns-then-not-lists_right
returns-then-not-lists_right c = sym (by_lists today _ _ _ (sym c.lists_right.ensures ∙ c.if-not-lists_right.true))

pub encode-n-requires : goal.encode-n-requires
encode-n-requires c =
    let s = sym c.lists_right.ensures ∙ c.if-not-lists_right.false in
    (s, made-short _ _ s)

pub slice_bounds-file-end : goal.slice_bounds-file-end
slice_bounds-file-end c = omega (arith, put_inside c.encode-n.ensures)

pub slice_bounds-read-end : goal.slice_bounds-read-end
slice_bounds-read-end c = sym (length-take-le _ _ (put_inside c.encode-n.ensures))

-- the reader refuses the file: its number
pub returns-in_err-read : goal.returns-in_err-read
returns-in_err-read c =
    let s = sym c.lists_right.ensures ∙ c.if-not-lists_right.false in
    let f = c.in_err-read.ensures.number ∙ ap refusal_of_rule (put_start c.encode-n.ensures) in
    let r = err_from_is_err_and c.from_residual.result c.from_residual.ensures.1 in
    rw (r.1, r.2) (f ∙ sym (by_reader today _ _ _ s (not_accepted _ _ f)))

-- the room is too short: 7
pub returns-then-room-n : goal.returns-then-room-n
returns-then-room-n c =
    let s = sym c.lists_right.ensures ∙ c.if-not-lists_right.false in
    let p = c.encode-n.ensures in
    let f = sym (ap refusal_of_rule (put_start p)) ∙ sym c.in_ok-read.ensures.number in
    sym (by_short today _ _ _ s f (omega (arith, p.place, c.if-room-n.true)))

-- the file is accepted and the room is long enough
pub returns : goal.returns
returns c =
    let s = sym c.lists_right.ensures ∙ c.if-not-lists_right.false in
    let p = c.encode-n.ensures in
    let f = sym (ap refusal_of_rule (put_start p)) ∙ sym c.in_ok-read.ensures.number in
    sym (by_file today _ _ _ s f (omega (arith, p.place, c.if-room-n.false)))
