-- `delay::pass::SessionPass::at` meets its contract.
use Rattle.session.proofs.Laws.{pass_in}
use Rattle.delay.proofs.pass.SessionPass.at.Goals as goal

-- as each pass of an accepted file, it has its fields in their ranges
pub invariant_of-result : goal.invariant_of-result
invariant_of-result c = record { in_ranges = rw c.pass_of.ensures (pass_in c.args.session.file.now c.args.session.accepted c.args.i c.requires) }
