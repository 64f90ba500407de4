-- Tests joined, an order moved from one side to the other, and a count with the place of its last sample.
use mathlib.Core.Path.{◌≡◌, refl, sym, ap, subst, ◌∙◌}
use mathlib.Core.Bool.{Bool, true, false, ◌&&◌}
use Prim.Native.Nat.{◌+◌, ◌≤◌}
use native.Mathlib.Omega.{arith}
use lib.Dec.{T}
use lib.IntN.{ℤ, pos, ◌-ℤ◌, +ℤ_idr}
use lib.Signed.{le_z, ◌≤ℤ◌}
use Rattle.whole.specs.Whole.{pos_part, neg_part, ∣◌∣}
use Rattle.whole.proofs.Linear.{le_z_true, le_z_false, le⇒, size_to}
use Rattle.fit.proofs.Diff.{≤ℤ-antisym}
use Rattle.whole.proofs.Quote.{⟨◌⟩, #, ◌⊝◌, bal}

pub yes_and : (a b : Bool) → a ≡ true → (a && b) ≡ b
yes_and a b h = cc

-- a number is at most another, and the other at most it, exactly if both are one
pub one_both : (a z : ℤ) → z ≡ a → (le_z a z && le_z z a) ≡ true
one_both a z h = sym (go (le_z z z) refl ∙ ap (λ (y : ℤ). le_z y z && le_z z y) h)
  where
    go : (x : Bool) → x ≡ le_z z z → true ≡ (le_z z z && le_z z z)
    go true e = rw (sym e)
    go false e = absurd (omega (arith, le_z_false z z (sym e)))

pub two_not : (a z : ℤ) → (z ≡ a → ⊥) → (le_z a z && le_z z a) ≡ false
two_not a z h = go (le_z a z) (le_z z a) refl refl
  where
    go : (x y : Bool) → x ≡ le_z a z → y ≡ le_z z a → (x && y) ≡ false
    go true true p q = absurd (h (≤ℤ-antisym z a (record { le = subst T q tt }) (record { le = subst T p tt })))
    go true false p q = refl
    go false y p q = refl

-- the same comparison, written otherwise
pub le_z_same : (a b c d : ℤ) → pos_part a + neg_part b + (pos_part d + neg_part c) ≡ pos_part b + neg_part a + (pos_part c + neg_part d) → le_z a b ≡ le_z c d
le_z_same a b c d e = go (le_z a b) (le_z c d) refl refl
  where
    go : (x y : Bool) → x ≡ le_z a b → y ≡ le_z c d → x ≡ y
    go true true p q = refl
    go true false p q = absurd (omega (arith, le_z_true a b (sym p), le_z_false c d (sym q)))
    go false true p q = absurd (omega (arith, le_z_false a b (sym p), le_z_true c d (sym q)))
    go false false p q = refl

-- a count from 1 to 1,024, and the place of its last sample
pub counted : (c : ℤ) → pos 1 ≤ℤ c → c ≤ℤ pos 1024 → (∣ c ∣ ≤ 1024) × (∣ c -ℤ pos 1 ∣ ≤ 1023)
counted c h k = (
  size_to c (pos_part c) (neg_part c) 1024 (omega arith) (omega (arith, le⇒ c (pos 1024) k)) (omega (arith, le⇒ (pos 1) c h)),
  size_to (c -ℤ pos 1) (pos_part c) (neg_part c + 1) 1023 (omega (arith, bal (⟨ c ⟩ ⊝ # 1))) (omega (arith, le⇒ c (pos 1024) k)) (omega (arith, le⇒ (pos 1) c h)),
)

pub less_none : (z : ℤ) → z -ℤ pos 0 ≡ z
less_none z = +ℤ_idr z
