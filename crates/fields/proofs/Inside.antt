-- A test of a range that passed, as a fact, and back. Assumes nothing.
use mathlib.Core.Path.{◌≡◌}
use mathlib.Core.Bool.{true}
use native.Mathlib.Omega.{arith}
use lib.IntN.{ℤ}
use lib.Signed.{le_z}
use Rattle.whole.proofs.Linear.{in_yes, ⇒le_z}
use Rattle.whole.proofs.Tests.{is_true, and_yes}
use Rattle.fields.specs.declared.ranges.Range.{Range}
use Rattle.fields.specs.Ranges.{inside, Holds}

pub inside_holds : (r : Range) (z : ℤ) → inside r z ≡ true → Holds r z
inside_holds r z e = in_yes r.low r.high z e

pub holds_inside : (r : Range) (z : ℤ) → Holds r z → inside r z ≡ true
holds_inside r z h =
    and_yes (is_true (le_z r.low z) (⇒le_z r.low z (omega (arith, h.n_lo, h.p_lo)))) (is_true (le_z z r.high) (⇒le_z z r.high (omega (arith, h.p_hi, h.n_hi))))
