-- A reflective solver for ℤ: an expression, its value, and its value as two naturals multiplied out, which `omega` compares monomial by monomial.
use mathlib.Core.Path.{◌≡◌, ap}
use Prim.Native.Nat.{ℕ, ◌+◌, ◌*◌, ◌≤◌, ◌<◌}
use native.Mathlib.Omega.{arith}
use lib.IntN.{ℤ, pos, neg_ℤ, ◌+ℤ◌, ◌-ℤ◌, ◌*ℤ◌}
use lib.Signed.{◌≤ℤ◌, ◌<ℤ◌}
use Prim.Native.Nat.{◌-◌, ◌^◌}
use mir.Syntax.{w64}
use mir.Val.{SFits}
use Rattle.whole.specs.Whole.{pos_part, neg_part}
use Rattle.whole.proofs.Linear.{least, fits!, add_law, pos_part-neg, neg_part-neg, mul_pos_part, mul_neg_part, eq⇒, ⇒eq, le⇒, ⇒le, lt⇒, ⇒lt}

infixl 6 ◌⊕◌ ◌⊝◌
infixl 7 ◌⊗◌
pub data E : Type 0 where
  ⟨◌⟩ : ℤ → E
  # : ℕ → E
  ◌⊕◌ ◌⊝◌ ◌⊗◌ : E → E → E
  ⊖ : E → E

abbrev pub ev : E → ℤ
ev ⟨ z ⟩ = z
ev (# n) = pos n
ev (a ⊕ b) = ev a +ℤ ev b
ev (a ⊝ b) = ev a -ℤ ev b
ev (a ⊗ b) = ev a *ℤ ev b
ev (⊖ a) = neg_ℤ (ev a)

abbrev mutual
  pub up : E → ℕ
  up ⟨ z ⟩ = pos_part z
  up (# n) = n
  up (a ⊕ b) = up a + up b
  up (a ⊝ b) = up a + dn b
  up (a ⊗ b) = up a * up b + dn a * dn b
  up (⊖ a) = dn a

  pub dn : E → ℕ
  dn ⟨ z ⟩ = neg_part z
  dn (# n) = 0
  dn (a ⊕ b) = dn a + dn b
  dn (a ⊝ b) = dn a + up b
  dn (a ⊗ b) = up a * dn b + dn a * up b
  dn (⊖ a) = up a

mul_bal : (p n u d q m v e : ℕ) → p + d ≡ n + u → q + e ≡ m + v → p * q + n * m + (u * e + d * v) ≡ p * m + n * q + (u * v + d * e)
mul_bal p n u d q m v e h k =
    omega (arith, ap (λ (x : ℕ). x * q) h, ap (λ (x : ℕ). x * m) h, ap (λ (x : ℕ). u * x) k, ap (λ (x : ℕ). d * x) k)

-- the value's two naturals balance the expression's
pub bal : (a : E) → pos_part (ev a) + dn a ≡ neg_part (ev a) + up a
bal ⟨ z ⟩ = omega arith
bal (# n) = omega arith
bal (a ⊕ b) = omega (arith, add_law (ev a) (ev b), bal a, bal b)
bal (a ⊝ b) = omega (arith, add_law (ev a) (neg_ℤ (ev b)), pos_part-neg (ev b), neg_part-neg (ev b), bal a, bal b)
bal (a ⊗ b) = omega (arith, mul_pos_part (ev a) (ev b), mul_neg_part (ev a) (ev b), mul_bal (pos_part (ev a)) (neg_part (ev a)) (up a) (dn a) (pos_part (ev b)) (neg_part (ev b)) (up b) (dn b) (bal a) (bal b))
bal (⊖ a) = omega (arith, pos_part-neg (ev a), neg_part-neg (ev a), bal a)

-- goals
pub by≡ : (a b : E) → up a + dn b ≡ up b + dn a → ev a ≡ ev b
by≡ a b h = ⇒eq (ev a) (ev b) (omega (arith, bal a, bal b))

pub by≤ : (a b : E) → up a + dn b ≤ up b + dn a → ev a ≤ℤ ev b
by≤ a b h = ⇒le (ev a) (ev b) (omega (arith, bal a, bal b))

pub by< : (a b : E) → up a + dn b < up b + dn a → ev a <ℤ ev b
by< a b h = ⇒lt (ev a) (ev b) (omega (arith, bal a, bal b))

-- hypotheses
pub of≡ : (a b : E) → ev a ≡ ev b → up a + dn b ≡ up b + dn a
of≡ a b h = omega (arith, bal a, bal b, eq⇒ (ev a) (ev b) h)

pub of≤ : (a b : E) → ev a ≤ℤ ev b → up a + dn b ≤ up b + dn a
of≤ a b h = omega (arith, bal a, bal b, le⇒ (ev a) (ev b) h)

pub of< : (a b : E) → ev a <ℤ ev b → up a + dn b < up b + dn a
of< a b h = omega (arith, bal a, bal b, lt⇒ (ev a) (ev b) h)

-- it fits an i64
pub fit : (a : E) → (up a - dn a) + (dn a - up a - 1) < 2 ^ 63 → SFits w64 (ev a)
fit a h = fits! (ev a) (omega (arith, bal a))

-- a value's parts are at most the expression's: a bound on each variable's parts gives one on the value
pub part : (a : E) → (pos_part (ev a) ≤ up a) × (neg_part (ev a) ≤ dn a)
part a = least (ev a) (up a) (dn a) (bal a)

-- ---- what IntN lacks
pub *ℤ-+ℤ : (a b c : ℤ) → a *ℤ (b +ℤ c) ≡ a *ℤ b +ℤ a *ℤ c
*ℤ-+ℤ a b c = by≡ (⟨ a ⟩ ⊗ (⟨ b ⟩ ⊕ ⟨ c ⟩)) (⟨ a ⟩ ⊗ ⟨ b ⟩ ⊕ ⟨ a ⟩ ⊗ ⟨ c ⟩) (omega arith)

pub +ℤ-*ℤ : (a b c : ℤ) → (a +ℤ b) *ℤ c ≡ a *ℤ c +ℤ b *ℤ c
+ℤ-*ℤ a b c = by≡ ((⟨ a ⟩ ⊕ ⟨ b ⟩) ⊗ ⟨ c ⟩) (⟨ a ⟩ ⊗ ⟨ c ⟩ ⊕ ⟨ b ⟩ ⊗ ⟨ c ⟩) (omega arith)

pub *ℤ-assoc : (a b c : ℤ) → (a *ℤ b) *ℤ c ≡ a *ℤ (b *ℤ c)
*ℤ-assoc a b c = by≡ (⟨ a ⟩ ⊗ ⟨ b ⟩ ⊗ ⟨ c ⟩) (⟨ a ⟩ ⊗ (⟨ b ⟩ ⊗ ⟨ c ⟩)) (omega arith)

pub neg_*ℤ : (a b : ℤ) → neg_ℤ a *ℤ b ≡ neg_ℤ (a *ℤ b)
neg_*ℤ a b = by≡ (⊖ ⟨ a ⟩ ⊗ ⟨ b ⟩) (⊖ (⟨ a ⟩ ⊗ ⟨ b ⟩)) (omega arith)
