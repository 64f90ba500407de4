-- How far a number is past a natural one that it is not below, as the code computes it. Assumes nothing.
use mathlib.Core.Path.{◌≡◌, ap, ap₂, ◌∙◌}
use Prim.Native.Nat.{ℕ, ◌-◌, ◌^◌, ◌<◌}
use native.Mathlib.Omega.{arith}
use mathlib.Core.Bool.{false}
use lib.IntN.{ℤ, pos, negsuc, nat_abs, ◌+ℤ◌, ◌-ℤ◌}
use lib.Signed.{lt_z, non_neg}
use lib.Dec.{T}
use mir.Syntax.{w64}
use mir.Val.{SFits, Fits, to_z, of_z}
use mir.Facts.{to_z-of_z}
use Rattle.whole.proofs.Linear.{lt_z_false, sub_lawℤ, add_law, ⇒eq, fits-pos_part}

-- z is `far` past a
pub record Past (z a : ℤ) : Type 0 where
  pub far : ℕ
  pub is : z -ℤ a ≡ pos far
  pub plus : z ≡ a +ℤ pos far
  pub small : far < 2 ^ 63

pub past : (z : ℤ) (m : ℕ) → SFits w64 z → lt_z z (pos m) ≡ false → Past z (pos m)
past (pos n) m f h =
    let l = lt_z_false (pos n) (pos m) h in
    record {
      far = n - m;
      is = ⇒eq (pos n -ℤ pos m) (pos (n - m)) (omega (arith, sub_lawℤ (pos n) (pos m)));
      plus = ⇒eq (pos n) (pos m +ℤ pos (n - m)) (omega (arith, add_law (pos m) (pos (n - m))));
      small = omega (arith, fits-pos_part (pos n) f);
    }
past (negsuc n) m f h = let l = lt_z_false (negsuc n) (pos m) h in absurd (omega arith)

-- the difference as the code has it, of numbers read back
module _ (z a z' a' : ℤ) (e : z' ≡ z) (f : a' ≡ a) (w : Past z a) where
  diff : z' -ℤ a' ≡ pos w.far
  diff = ap₂ (λ (x y : ℤ). x -ℤ y) e f ∙ w.is

  pub diff_fits : SFits w64 (z' -ℤ a')
  diff_fits = rw diff (record { sfits = w.small })

  back : to_z w64 (of_z w64 (z' -ℤ a')) ≡ pos w.far
  back = to_z-of_z diff_fits ∙ diff

  pub diff_cast : T (non_neg (to_z w64 (of_z w64 (z' -ℤ a')))) × Fits w64 (nat_abs (to_z w64 (of_z w64 (z' -ℤ a'))))
  diff_cast = rw back (tt, record { fits = omega (arith, w.small) })

  pub diff_is : nat_abs (to_z w64 (of_z w64 (z' -ℤ a'))) ≡ w.far
  diff_is = ap nat_abs back
