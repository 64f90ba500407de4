use mathlib.Core.Path.{◌≡◌}
use borrow.Author.Rules.{rules}
use Rattle.whole.specs.Each.{first_not}
use mir.Syntax.{w64}
use mir.Val.{to_z, of_z}
use mir.Facts.{to_z-of_z}
use Rattle.sections.specs.Code.{other_by}
use Rattle.session.proofs.records.first_with.Goals as goal

pub returns : goal.returns
returns c =
    let other = other_by c.args.s.now c.args.at c.args.size (to_z w64 (of_z w64 c.args.z)) in
    let r : c.first_failing.result ≡ first_not c.args.n other = c.first_failing.ensures other (λ i b l h. search rules) in
    rw (to_z-of_z c.ranges.z) at r
