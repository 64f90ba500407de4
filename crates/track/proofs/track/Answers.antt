use Rattle.std.proofs.Common.{sym, ap, ◌∙◌}
use Rattle.whole.specs.declared.Number.{Number}
use Rattle.whole.proofs.Linear.{back}
use Rattle.track.specs.Answer.{in_range}
use Rattle.track.proofs.Answers.{answer_2}
use Rattle.track.proofs.track.Goals as goal

pub returns-then-not-call_in_range : goal.returns-then-not-call_in_range
returns-then-not-call_in_range c =
    ap (λ (n : Number). record { answer = n; room = c.args.room.now }) c.from.ensures
    ∙ sym (answer_2 c.args.samples.now c.args.tolerance c.args.room.now (
    sym (ap (in_range c.args.samples.now) (back c.ranges.tolerance)) ∙ sym c.call_in_range.ensures ∙ c.if-not-call_in_range.true
    ))
