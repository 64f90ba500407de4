-- A choice by a test, and the two ways in which numbers compare.
use mathlib.Core.Path.{◌≡◌, refl, subst}
use mathlib.Core.Bool.{Bool, true, false, not, cond}
use mathlib.Core.Logic.{◌⊎◌, inl, inr}
use Prim.Native.Nat.{ℕ, suc, ◌≤◌, ◌<◌}
use native.Mathlib.Omega.{arith}
use lib.Dec.{T, ltb, ltb→lt, nltb→le}

-- what holds at each outcome of a test holds of the choice
pub by_test {ℓ} : {A : Type ℓ} (b : Bool) (x y : A) (P : A → Type 0) → (T b → P x) → (T (not b) → P y) → P (cond b x y)
by_test true x y P f g = f tt
by_test false x y P f g = g tt

pub lt_or : (a b : ℕ) → (a < b) ⊎ (b ≤ a)
lt_or a b = go (ltb a b) refl
  where
    go : (t : Bool) → t ≡ ltb a b → (a < b) ⊎ (b ≤ a)
    go true e = inl (ltb→lt a b (subst T e tt))
    go false e = inr (nltb→le a b (subst (λ (b : Bool). T (not b)) e tt))

pub at_or : (s i : ℕ) → s ≤ i → (s < i) ⊎ (s ≡ i)
at_or s i h = go (ltb s i) refl
  where
    go : (b : Bool) → b ≡ ltb s i → (s < i) ⊎ (s ≡ i)
    go true e = inl (ltb→lt s i (subst T e tt))
    go false e = let l : i ≤ s = nltb→le s i (subst (λ (b : Bool). T (not b)) e tt) in inr (omega arith)

pub last_or : (i m : ℕ) → i < suc m → (i < m) ⊎ (i ≡ m)
last_or i m h = at_or i m (omega arith)
