-- `delay::records::Days::from` meets its contract.
use Rattle.std.proofs.Common.{ap, ◌∙◌}
use Rattle.whole.proofs.Linear.{back}
use Rattle.delay.specs.Sessions.{has_id}
use Rattle.delay.proofs.Covered.{both_there}
use Rattle.delay.proofs.records.Days.from.Goals as goal

pub day_in-requires : goal.day_in-requires
day_in-requires c =
    let s = c.args.session.file.now in
    ap (has_id s 2) (back c.ranges.day) ∙ (both_there s c.args.day c.args.session.accepted c.requires).0
