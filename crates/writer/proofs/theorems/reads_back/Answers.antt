use Rattle.writer.proofs.Calls.{read_back}
use Rattle.writer.proofs.theorems.reads_back.Goals as goal

pub returns : goal.returns
returns c =
    let a = c.args in
    read_back a.stations.now a.sources.now a.days.now a.passes.now a.room.now a.day_kind
    c.each_fits.ensures c.each_fits-2.ensures c.each_fits-3.ensures c.each_fits-4.ensures
