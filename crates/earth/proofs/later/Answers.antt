-- `earth::later` meets its contract.
use Rattle.std.proofs.Common.{rules, ◌≡◌, ap, ◌∙◌, w64, to_z, of_z}
use Rattle.whole.specs.Answers.{given}
use Rattle.whole.proofs.Linear.{back}
use Rattle.earth.specs.Instant.{Instant}
use Rattle.earth.specs.Epoch.{later_of}
use Rattle.earth.specs.Calls.{epoch_answer, later_outcome}
use Rattle.earth.proofs.later.Goals as goal

pub returns-in-Ok : goal.returns-in-Ok
unfolding given later_outcome
returns-in-Ok c =
    let h = simp (back c.ranges.day, back c.ranges.ms, back c.ranges.add) at c.in-Ok.ensures.ok in
    let e = c.e.view_is ∙ simp (back c.ranges.add) at c.later-e.ensures ∙ ap (λ (i : Instant). later_of i c.args.add) h.0 in
    let day : to_z w64 (of_z w64 c.e.inside.day) ≡ c.e.inside.day = search rules in
    let ms : to_z w64 (of_z w64 c.e.inside.ms) ≡ c.e.inside.ms = search rules in
    simp (day, ms, h.3) (ap epoch_answer e)

pub returns-in-Err : goal.returns-in-Err
unfolding given later_outcome
returns-in-Err c =
    let h = simp (back c.ranges.day, back c.ranges.ms, back c.ranges.add) at c.in-Err.ensures.err in
    simp (h.1, c.number.ensures, h.0)
