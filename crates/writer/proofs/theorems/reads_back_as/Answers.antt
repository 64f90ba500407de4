use Rattle.std.proofs.Common.{[], ◌∷◌}
use Rattle.writer.proofs.RoundTrips.{each-place, read_back_as}
use Rattle.writer.proofs.theorems.reads_back_as.Goals as goal

pub returns : goal.returns
returns c =
    let a = c.args in
    read_back_as a.k (a.stations.now ∷ a.sources.now ∷ a.days.now ∷ a.passes.now ∷ []) a.room.now
    (each-place _ c.each_fits.ensures c.each_fits-2.ensures c.each_fits-3.ensures c.each_fits-4.ensures)
