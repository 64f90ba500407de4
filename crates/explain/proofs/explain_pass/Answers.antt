-- `explain::explain_pass` says of each number what it means: of a pass of an accepted file no number is left but 5 and 6.
use mathlib.Core.Path.{sym, ap, ◌∙◌}
use lib.IntN.{pos}
use lib.Signed.{le_z}
use mir.Syntax.{w64}
use mir.Val.{of_z}
use Rattle.whole.proofs.Linear.{no_ft}
use Rattle.lines.proofs.Passes.{neither_six}
use Rattle.explain.proofs.explain_pass.Goals as goal

pub explain_days-requires : goal.explain_days-requires
explain_days-requires c =
    let six =
    neither_six c.args.s.file.now c.args.s.accepted c.args.i c.requires.0
    (λ z. no_ft (ap (le_z (pos 1)) (sym (c.requires.1 ∙ z)) ∙ c.requires.2))
    (λ z. c.if-n-eq5.false (ap (of_z w64) (c.requires.1 ∙ z))) in
    (c.requires.0, six)
