-- `earth::arguments` meets its contract.
use Rattle.std.proofs.Common.{ap, ◌∙◌, arith}
use Rattle.whole.specs.Answers.{given}
use Rattle.whole.proofs.Linear.{abs_fits, back}
use Rattle.earth.specs.DelaunayArguments.{arguments_of}
use Rattle.earth.specs.Calls.{arguments_outcome}
use Rattle.earth.proofs.arguments.Goals as goal

pub returns-in-Ok : goal.returns-in-Ok
unfolding given arguments_outcome
returns-in-Ok c =
    let h = simp (back c.ranges.day, back c.ranges.ms, back c.ranges.tai) at c.in-Ok.ensures.ok in
    let n = back (abs_fits (omega (arith, h.1))) ∙ h.0 in
    simp (n, c.arguments_at-a.ensures ∙ ap arguments_of n, h.2)

pub returns-in-Err : goal.returns-in-Err
unfolding given arguments_outcome
returns-in-Err c =
    let h = simp (back c.ranges.day, back c.ranges.ms, back c.ranges.tai) at c.in-Err.ensures.err in
    simp (h.1, c.number.ensures, h.0)
