-- `Samples::scaled_at` meets its contract.
use Rattle.std.proofs.Common.{◌≡◌, ◌*◌, ◌≤◌, ℕ, ℤ, ap, ◌∙◌, arith, of_z, to_z}
use Rattle.std.specs.Int.{w64}
use Rattle.whole.specs.Whole.{∣◌∣}
use Rattle.fit.specs.Line.{sample}
use Rattle.fit.specs.Rates.{scaled, bias}
use Rattle.fit.proofs.Lines.{bias_high}
use Rattle.fit.proofs.Steps.{small_back}
use Rattle.fit.proofs.samples.Samples.scaled_at.Goals as goal

is : (z : ℤ) (b : ℕ) → ∣ z ∣ ≤ 130_000_000_000 → b ≡ bias (to_z w64 (of_z w64 z)) → b ≡ bias z
is z b h e = e ∙ ap bias (small_back z h)

pub overflow_mul-result : goal.overflow_mul-result
overflow_mul-result c =
    let h = c.args.self.small c.args.i in
    let z = sample c.args.self.values.now c.args.i in
    record { fits = omega (arith, is z c.biased.result h c.biased.ensures, bias_high z h) }

pub returns : goal.returns
unfolding scaled
returns c =
    ap (λ (z : ℕ). z * 65536) (is (sample c.args.self.values.now c.args.i) c.biased.result (c.args.self.small c.args.i) c.biased.ensures)
