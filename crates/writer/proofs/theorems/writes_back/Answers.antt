use Rattle.std.proofs.Common.{ℕ, arith}
use Rattle.writer.proofs.Calls.{written_back}
use Rattle.writer.proofs.theorems.writes_back.Goals as goal

pub returns : goal.returns
returns c = written_back c.args.file.now (λ (k : ℕ). omega (arith, c.type_inv.file k))
