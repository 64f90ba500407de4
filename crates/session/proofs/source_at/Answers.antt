use mathlib.Core.Path.{ap, ◌∙◌}
use Rattle.fields.specs.Records.{source_from_rule}
use Rattle.session.specs.Records.{Asked, source_answer, source_at_rule}
use Rattle.session.proofs.Answers.{source_made}
use Rattle.session.proofs.source_at.Goals as goal

pub returns : goal.returns
unfolding source_at_rule
returns c =
    c.into.ensures ∙ source_made c.ask.result c.map.result c.map.ensures.cases ∙ ap (λ (a : Asked). source_answer a.refusal (source_from_rule a.row)) c.ask.ensures
