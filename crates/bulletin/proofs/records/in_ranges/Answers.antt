-- `bulletin::records::in_ranges` meets its contract: a record whose UT1-UTC is out of its range is refused whatever stands before it. Assumes nothing.
use borrow.Author.Rules.{rules}
use mathlib.Core.Path.{sym, ◌∙◌}
use mir.Syntax.{w64}
use mir.Val.{SFits}
use Rattle.whole.proofs.Linear.{back}
use Rattle.bulletin.proofs.Standing.{ut1_out}
use Rattle.bulletin.proofs.records.in_ranges.Goals as goal

pub returns-then-not-inside-4 : goal.returns-then-not-inside-4
returns-then-not-inside-4 c =
    let f : SFits w64 c.args.d.ut1_utc = search rules in
    sym (ut1_out c.args.d (sym (simp (back f) at c.inside-4.ensures) ∙ c.if-not-inside-4.true))
