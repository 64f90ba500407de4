-- `fit::biased` meets its contract: the sum of the sample and the bias is not negative.
use Rattle.std.proofs.Common.{◌≡◌, ◌≤◌, ℤ, pos, ap, ◌∙◌, arith, of_z, to_z, to_z-of_z, ◌+ℤ◌}
use Rattle.std.specs.Int.{w64}
use lib.IntN.{nat_abs}
use mir.Val.{SFits}
use mir.ValLaws.{to_z_pos}
use Rattle.whole.specs.Whole.{∣◌∣}
use Rattle.fit.specs.Rates.{bias}
use Rattle.fit.proofs.Lines.{bias_sum, bias_high}
use Rattle.fit.proofs.samples.biased.Goals as goal

sum : (z : ℤ) → SFits w64 z → ∣ z ∣ ≤ 130_000_000_000 → to_z w64 (of_z w64 z) +ℤ pos 130_001_000_000 ≡ pos (bias z)
sum z f h = ap (λ (y : ℤ). y +ℤ pos 130_001_000_000) (to_z-of_z f) ∙ bias_sum z h

wide : (z : ℤ) → SFits w64 z → ∣ z ∣ ≤ 130_000_000_000 → to_z w64 (of_z w64 (to_z w64 (of_z w64 z) +ℤ pos 130_001_000_000)) ≡ pos (bias z)
wide z f h = ap (λ (y : ℤ). to_z w64 (of_z w64 y)) (sum z f h) ∙ to_z_pos w64 (bias z) (omega (arith, bias_high z h))

pub returns : goal.returns
returns c = ap nat_abs (wide c.args.z c.ranges.z c.requires)
