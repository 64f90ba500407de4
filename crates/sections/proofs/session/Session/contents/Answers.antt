use Rattle.sections.proofs.Accepted.{accepted_contents}
use Rattle.sections.proofs.Shapes.{today}
use Rattle.sections.proofs.session.Session.contents.Goals as goal

pub invariant_of-result : goal.invariant_of-result
invariant_of-result c = record { right = accepted_contents today _ c.args.self.accepted }
