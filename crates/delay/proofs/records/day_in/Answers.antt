-- `delay::records::day_in` meets its contract.
use borrow.Author.Tests.{ltb-true}
use Rattle.whole.proofs.Linear.{back}
use Rattle.sections.specs.File.{count_of_rule}
use Rattle.session.specs.Records.{place_by_rule}
use Rattle.session.proofs.Laws.{day_in_lem}
use Rattle.delay.proofs.records.day_in.Goals as goal

pub reduced-requires : goal.reduced-requires
reduced-requires c =
    let s = c.args.s.file.now in
    rw (c.day_of.ensures, rw (back c.ranges.day) at c.day_place.ensures)
    (day_in_lem s c.args.s.accepted (place_by_rule s 2 c.args.day) (ltb-true (place_by_rule s 2 c.args.day) (count_of_rule s 2) c.requires))
