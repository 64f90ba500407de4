-- `bulletin::taking::first_in` meets its contract. Assumes nothing.
use Rattle.std.proofs.Common.{rules}
use Rattle.bulletin.proofs.Finding.{other, first_found}
use Rattle.bulletin.proofs.taking.first_in.Goals as goal

pub returns : goal.returns
returns c =
    let xs = c.args.dates.now in
    first_found xs c.args.d c.first_failing.result (c.first_failing.ensures (other xs c.args.d) (λ i b l e. search rules))
