-- A signed number shifted down is the floor of a division. Assumes nothing.
use mathlib.Core.Path.{◌≡◌, refl, ◌∙◌}
use Prim.Native.Nat.{ℕ}
use native.Mathlib.Nat.{lt_of_le_of_lt}
use lib.IntN.{ℤ, pos, negsuc}
use lib.Signed.{shr_z, mag_shr}
use mir.Syntax.{w64}
use mir.Val.{SFits, to_z, of_z}
use Rattle.whole.specs.Whole.{floor_z}
use Rattle.whole.proofs.Linear.{back}

floor_is : (z : ℤ) (m : ℕ) → shr_z z m ≡ floor_z z m
floor_is (pos n) m = refl
floor_is (negsuc n) m = refl

fits : (z : ℤ) (m : ℕ) → SFits w64 z → SFits w64 (shr_z z m)
fits z m f = record { sfits = lt_of_le_of_lt (mag_shr z m) f.sfits }

-- what the machine has
pub shift_is : (z : ℤ) (m : ℕ) → SFits w64 z → to_z w64 (of_z w64 (shr_z (to_z w64 (of_z w64 z)) m)) ≡ floor_z z m
shift_is z m f = rw (back f) (back (fits z m f) ∙ floor_is z m)
