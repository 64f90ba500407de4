-- `bulletin::days_of_text` meets its contract. Assumes nothing.
use Rattle.std.proofs.Common.{sym, arith, ◌≤◌, length}
use borrow.Author.Tests.{lt-leb, le-leb}
use Rattle.bulletin.proofs.DaysLaws.{too_long, some_undated}
use Rattle.bulletin.proofs.days_of_text.Goals as goal

pub returns-then-text-gt65536 : goal.returns-then-text-gt65536
returns-then-text-gt65536 c =
    let a = c.args in
    sym (too_long a.text.now a.first a.count a.tai.now (lt-leb (length a.text.now) 65536 c.if-text-gt65536.true))

pub returns-in_default : goal.returns-in_default
returns-in_default c =
    let a = c.args in
    let h : length a.text.now ≤ 65536 = omega (arith, c.if-text-gt65536.false) in
    sym (some_undated a.text.now a.first a.count a.tai.now (le-leb (length a.text.now) 65536 h) c.in_default.ensures.1)
