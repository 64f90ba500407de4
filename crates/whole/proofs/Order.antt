-- Tests on whole numbers: which of two is the lower, and whether they are one. Assumes nothing.
use mathlib.Core.Path.{◌≡◌, refl}
use Prim.Native.Nat.{◌+◌, ◌≤◌, ◌<◌}
use native.Mathlib.Omega.{arith}
use mathlib.Core.Bool.{Bool, true, false}
use lib.IntN.{ℤ}
use lib.Signed.{le_z, lt_z}
use Rattle.whole.specs.Whole.{pos_part, neg_part}
use Rattle.whole.specs.Ranges.{eq_z}
use Rattle.whole.proofs.Linear.{le_z_true, ⇒le_z, ⇒lt_z, ⇒eq, and_true}
use Rattle.whole.proofs.Tests.{is_true, and_yes}

pub le_yes : (a b : ℤ) → pos_part a + neg_part b ≤ pos_part b + neg_part a → le_z a b ≡ true
le_yes a b h = is_true (le_z a b) (⇒le_z a b h)

pub not_so : (t : Bool) → (t ≡ true → ⊥) → t ≡ false
not_so true h = absurd (h refl)
not_so false h = refl

pub le_no : (a b : ℤ) → pos_part b + neg_part a < pos_part a + neg_part b → le_z a b ≡ false
le_no a b h = not_so (le_z a b) (λ e. let k = le_z_true a b e in omega arith)

pub lt_yes : (a b : ℤ) → pos_part a + neg_part b < pos_part b + neg_part a → lt_z a b ≡ true
lt_yes a b h = is_true (lt_z a b) (⇒lt_z a b h)

pub eq_z_true : (a b : ℤ) → eq_z a b ≡ true → a ≡ b
eq_z_true a b h =
    let w = and_true (le_z a b) (le_z b a) h in
    let x = le_z_true a b w.0 in
    let y = le_z_true b a w.1 in
    ⇒eq a b (omega arith)

pub eq_z_refl : (a b : ℤ) → a ≡ b → eq_z a b ≡ true
eq_z_refl a b e = rw e (and_yes (le_yes b b (omega arith)) (le_yes b b (omega arith)))
