-- `bulletin::layout::Columns::holds_decimal` meets its contract. Assumes nothing.
use Rattle.std.proofs.Common.{sym, ap, ◌∙◌, length}
use borrow.Author.Tests.{lt-leb}
use Rattle.bulletin.specs.Decimals.{is_decimal_rule}
use Rattle.bulletin.proofs.ColumnLaws.{apt, bytes_are, short_row, long_row}
use Rattle.bulletin.proofs.layout.Columns.holds_decimal.Goals as goal

pub returns-then-self-row : goal.returns-then-self-row
returns-then-self-row c =
    let k = c.args.self in
    let a = apt k.counted k.wide k.narrow in
    c.is_decimal.ensures ∙ ap (is_decimal_rule k.decimals) (bytes_are a c.args.row.now) ∙ sym (long_row a c.args.row.now c.if-self-row.true)

pub returns-else-self-row : goal.returns-else-self-row
returns-else-self-row c =
    let k = c.args.self in
    let a = apt k.counted k.wide k.narrow in
    lt-leb k.last (length c.args.row.now) c.if-self-row.false ∙ sym (short_row a c.args.row.now c.if-self-row.false)
