-- `bulletin::write_rows` meets its contract. Assumes nothing.
use mathlib.Core.Path.{sym, ap, ap₂, ◌∙◌}
use Prim.Native.Nat.{◌*◌, ◌≤◌}
use native.Mathlib.Omega.{arith}
use lib.IntN.{pos}
use Rattle.whole.specs.Answers.{number}
use Rattle.whole.proofs.Linear.{ret}
use Rattle.bulletin.specs.Writing.{written, records_in}
use Rattle.bulletin.proofs.RowsAnswer.{list_wrong, room-short, rows_right}
use Rattle.bulletin.proofs.Standing.{right_count}
use Rattle.bulletin.proofs.write_rows.Goals as goal

pub returns-then-not-list_right : goal.returns-then-not-list_right
returns-then-not-list_right c = sym (list_wrong c.args.days.now c.args.room.now (sym c.list_right.ensures ∙ c.if-not-list_right.true))

-- a list that is right has at most 64 records
pub overflow_mul-bytes : goal.overflow_mul-bytes
overflow_mul-bytes c = omega (arith, (right_count c.args.days.now (sym c.list_right.ensures ∙ c.if-not-list_right.false)).p_hi)

pub returns-then-room-bytes : goal.returns-then-room-bytes
returns-then-room-bytes c = sym (room-short c.args.days.now c.args.room.now (sym c.list_right.ensures ∙ c.if-not-list_right.false) c.if-room-bytes.true)

pub returns : goal.returns
returns c =
    let days = c.args.days.now in
    let right = sym c.list_right.ensures ∙ c.if-not-list_right.false in
    let few : records_in days ≤ 64 = (right_count days right).p_hi in
    ap₂ written (ap number (ret (pos (186 * records_in days)) (omega (arith, few)))) c.put_rows.ensures
    ∙ sym (rows_right days c.args.room.now right c.if-room-bytes.false)
