use Rattle.std.proofs.Common.{ℕ, arith}
use Rattle.writer.proofs.RoundTrips.{written_back_as}
use Rattle.writer.proofs.theorems.writes_back_as.Goals as goal

pub returns : goal.returns
returns c = written_back_as c.args.file.now (λ (k : ℕ). omega (arith, c.type_inv.file k))
