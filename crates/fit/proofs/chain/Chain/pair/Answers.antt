-- `Chain::pair` meets its contract.
use Rattle.std.proofs.Common.{refl, arith}
use Rattle.fit.specs.Rates.{tilt}
use Rattle.fit.proofs.Walk.{pair_is}
use Rattle.fit.proofs.chain.Chain.pair.Goals as goal

pub returns : goal.returns
returns c =
    let y = c.args in
    let a = y.self.now in
    (pair_is tilt a.places a.values a.froms y.first y.second y.slack _ _ (omega arith) (omega arith) (omega arith) c.requires refl refl, refl, refl)
