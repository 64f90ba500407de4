-- What is proved of the days asked for, as the code tests a day. Assumes nothing.
use mathlib.Core.Path.{◌≡◌, sym, ap, ◌∙◌}
use mathlib.Core.Bool.{Bool, true, false, ◌&&◌}
use Prim.Native.Nat.{◌≤◌}
use native.Mathlib.Omega.{arith}
use lib.IntN.{ℤ, pos, ◌+ℤ◌, ◌-ℤ◌}
use lib.Signed.{le_z, lt_z}
use mir.Syntax.{w64}
use mir.Val.{SFits}
use Rattle.whole.specs.Whole.{∣◌∣}
use Rattle.whole.proofs.Linear.{known, add_law, sub_lawℤ, le_z_true, le_z_false, lt_z_true, lt_z_false, fits! }
use Rattle.whole.proofs.Order.{not_so, le_yes, le_no, lt_yes}
use Rattle.whole.proofs.Tests.{no_and, and_no, same_test}
use Rattle.bulletin.specs.Reading.{asked}

module _ (first count d : ℤ) where
  -- a day before the first
  pub asked-before : lt_z d first ≡ true → asked first count d ≡ false
  asked-before h = no_and (le_z first d) (lt_z d (first +ℤ count)) (le_no first d (lt_z_true d first h))

  module _ (h : lt_z d first ≡ false) where
    -- no day is asked for
    pub asked-none : le_z count (pos 0) ≡ true → asked first count d ≡ false
    asked-none k =
        and_no (le_z first d) (lt_z d (first +ℤ count))
        (not_so (lt_z d (first +ℤ count)) (λ e. omega (arith, lt_z_true d (first +ℤ count) e, add_law first count, lt_z_false d first h, le_z_true count (pos 0) k)))

    pub asked_sum : asked first count d ≡ lt_z d (first +ℤ count)
    asked_sum = ap (λ (t : Bool). t && lt_z d (first +ℤ count)) (le_yes first d (lt_z_false d first h))

    pub asked_difference : lt_z (d -ℤ first) count ≡ asked first count d
    asked_difference =
        same_test (lt_z (d -ℤ first) count) (lt_z d (first +ℤ count))
        (λ e. lt_yes d (first +ℤ count) (omega (arith, lt_z_true (d -ℤ first) count e, add_law first count, sub_lawℤ d first)))
        (λ e. lt_yes (d -ℤ first) count (omega (arith, lt_z_true d (first +ℤ count) e, add_law first count, sub_lawℤ d first)))
        ∙ sym asked_sum

    -- the sum fits where the signs differ, the difference where both are small or of one sign
    pub sum_fits : SFits w64 first → SFits w64 count → le_z count (pos 0) ≡ false → lt_z first (pos 0) ≡ true → SFits w64 (first +ℤ count)
    sum_fits f n k l =
        fits! (first +ℤ count) (omega (arith, known f, known n, add_law first count, le_z_false count (pos 0) k, lt_z_true first (pos 0) l))

    pub difference_fits : ∣ d ∣ ≤ 100_000 → lt_z first (pos 0) ≡ false → SFits w64 (d -ℤ first)
    difference_fits s l =
        fits! (d -ℤ first) (omega (arith, s, sub_lawℤ d first, lt_z_false d first h, lt_z_false first (pos 0) l))
