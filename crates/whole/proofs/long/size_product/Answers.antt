-- `whole::long::size_product` meets its contract.
use native.Mathlib.Omega.{arith}
use Rattle.whole.proofs.Products.{split_mul}
use Rattle.whole.proofs.long.size_product.Goals as goal

pub returns : goal.returns
returns c = omega (arith, split_mul 65536 c.args.rate c.args.n)
