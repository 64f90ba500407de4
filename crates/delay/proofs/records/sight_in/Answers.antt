-- `delay::records::sight_in` meets its contract.
use Rattle.delay.proofs.Accepted.{names_in}
use Rattle.delay.proofs.records.sight_in.Goals as goal

pub sight_of-requires : goal.sight_of-requires
sight_of-requires c =
    let h = names_in c.args.s.file.now c.args.s.accepted c.args.n c.requires in
    (rw c.station_of-a.ensures h.0, rw c.station_of-b.ensures h.1, rw c.source_of-r.ensures h.2)
