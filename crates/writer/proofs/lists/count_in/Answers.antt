use Rattle.std.proofs.Common.{ap, ℕ, ◌/◌}
use Rattle.writer.proofs.Counts.{size_held}
use Rattle.writer.proofs.lists.count_in.Goals as goal

pub nonzero_div-result : goal.nonzero_div-result
nonzero_div-result c = rw (size_held _ c.layout_in.ensures) c.requires

pub returns : goal.returns
returns c = ap (λ (m : ℕ). c.args.n / m) (size_held _ c.layout_in.ensures)
