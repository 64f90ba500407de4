use Rattle.std.proofs.Common.{ℕ, ◌<◌, get_or, pos, w64}
use mir.Val.{SFits}
use Rattle.writer.proofs.theorems.each_fits.Given as goal

abbrev pub invariant-loop-z : goal.invariant-loop-z
invariant-loop-z l = (j : ℕ) → j < l.z-index → SFits w64 (get_or l.zs j (pos 0))
