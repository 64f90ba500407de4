-- `Chain::add` meets its contract.
use Rattle.std.proofs.Common.{List, ℕ, ap, ◌+◌, set, refl, arith}
use Rattle.fit.specs.Rates.{tilt}
use Rattle.fit.proofs.Walk.{keep_end}
use Rattle.fit.proofs.chain.Chain.add.Goals as goal

pub returns : goal.returns
returns c =
    let y = c.args in
    let a = y.self.now in
    let k = c.keep-from in
    let z = k.new.self.tail in
    let same = k.ensures.0 in (
      k.ensures.1,
      omega arith,
      keep_end tilt a.places a.values a.froms a.head a.tail y.next y.height z k.result (z + 1) _ _ _
          k.ensures.4 (omega arith) k.ensures.2 k.ensures.3 refl (omega arith) (omega arith) (omega arith)
          (ap (λ (l : List ℕ). set l (z + 1) y.next) same.0) (ap (λ (l : List ℕ). set l (z + 1) y.height) same.1) (ap (λ (l : List ℕ). set l (z + 1) k.result) same.2),
    )
