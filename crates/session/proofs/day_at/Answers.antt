use mathlib.Core.Path.{ap, ◌∙◌}
use Rattle.fields.specs.Records.{day_from_rule}
use Rattle.session.specs.Records.{Asked, day_answer, day_at_rule}
use Rattle.session.proofs.Answers.{day_made}
use Rattle.session.proofs.day_at.Goals as goal

pub returns : goal.returns
unfolding day_at_rule
returns c =
    c.into.ensures ∙ day_made c.ask.result c.map.result c.map.ensures.cases ∙ ap (λ (a : Asked). day_answer a.refusal (day_from_rule a.row)) c.ask.ensures
