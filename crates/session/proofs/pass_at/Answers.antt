use mathlib.Core.Path.{ap, ◌∙◌}
use Rattle.fields.specs.Records.{pass_from_rule}
use Rattle.session.specs.Records.{Asked, pass_answer, pass_at_rule}
use Rattle.session.proofs.Answers.{pass_made}
use Rattle.session.proofs.pass_at.Goals as goal

pub returns : goal.returns
unfolding pass_at_rule
returns c =
    c.into.ensures ∙ pass_made c.ask.result c.map.result c.map.ensures.cases ∙ ap (λ (a : Asked). pass_answer a.refusal (pass_from_rule a.row)) c.ask.ensures
