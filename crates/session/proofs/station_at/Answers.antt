use mathlib.Core.Path.{ap, ◌∙◌}
use Rattle.fields.specs.Records.{station_from_rule}
use Rattle.session.specs.Records.{Asked, station_answer, station_at_rule}
use Rattle.session.proofs.Answers.{station_made}
use Rattle.session.proofs.station_at.Goals as goal

pub returns : goal.returns
unfolding station_at_rule
returns c =
    c.into.ensures ∙ station_made c.ask.result c.map.result c.map.ensures.cases ∙ ap (λ (a : Asked). station_answer a.refusal (station_from_rule a.row)) c.ask.ensures
