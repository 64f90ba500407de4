-- The cap at 2^30 takes away no more than the distance leaves room for: the exact sum is at most a little over 1, since its square and that of the cosine's sum make 1 but for small
-- coefficients of high degree. Assumes nothing.
use Rattle.std.proofs.Common.{◌≡◌, ℕ, suc, ◌+◌, ◌*◌, ◌^◌, ◌<◌, ◌≤◌, min, Bool, true, false, leb, List, ◌∷◌, ℤ, pos, ◌+ℤ◌, ◌*ℤ◌, ◌≤ℤ◌, refl, ap, mul-le-mul_right, mul-le-mul, arith, leb-false, leb-true}
use native.Mathlib.Nat.{le_of_mul-le-mul_left}
use Rattle.whole.proofs.Linear.{zarith}
use Rattle.whole.proofs.Quote.{⟨◌⟩, #, ◌⊕◌, ◌⊗◌, of≤}
use Rattle.sine.proofs.Polynomial.{peval, padd, pscale, pmul, pup, eval_add, eval_scale, eval_mul, eval_up, sq_nonneg}

root_by : (x b : ℕ) (t : Bool) → leb x b ≡ t → x * x ≤ b * b → x ≤ b
root_by x b true e h = leb-true x b e
root_by x b false e h = let l : suc b ≤ x = leb-false x b e in absurd (omega (arith, mul-le-mul l l))

root : (x b : ℕ) → x * x ≤ b * b → x ≤ b
root x b h = root_by x b (leb x b) refl h

-- k w p^2 + c^2, of two polynomials p and c in w
abbrev pub squares : ℕ → List ℤ → List ℤ → List ℤ
squares k p c = padd (pscale (pos k) (pos 0 ∷ pmul p p)) (pmul c c)

pub squares_le : (k w m h : ℕ) (p c : List ℤ) → pos h ≡ peval p (pos w) → w ≤ m → k * (w * (h * h)) ≤ pup (squares k p c) m
squares_le k w m h p c e l =
    let x = pos w in
    let C = peval c x in
    let f : peval (squares k p c) x ≡ pos k *ℤ (pos 0 +ℤ x *ℤ (pos h *ℤ pos h)) +ℤ C *ℤ C =
    rw (eval_add (pscale (pos k) (pos 0 ∷ pmul p p)) (pmul c c) x, eval_scale (pos k) (pos 0 ∷ pmul p p) x, eval_mul p p x, eval_mul c c x, ← e) in
    let g : peval (squares k p c) x ≤ℤ pos (pup (squares k p c) m) = eval_up (squares k p c) w m l in
    let s : pos 0 ≤ℤ (C *ℤ C) = sq_nonneg C in
    let q = rw f at g in
    omega (zarith, of≤ (# k ⊗ (# 0 ⊕ # w ⊗ (# h ⊗ # h)) ⊕ ⟨ C *ℤ C ⟩) (# (pup (squares k p c) m)) q)

pub sum_most : (k u n b m : ℕ) → 0 < k → k * (u * u * (n * n)) ≤ m → 1000000 * m ≤ k * (b * b) → 1000 * (u * n) ≤ b
sum_most k u n b m z h l = root (1000 * (u * n)) b (le_of_mul-le-mul_left {k = k} (omega arith) z)

-- below the cap the floor m stands, and above it the sum x / g does not pass the cap by e, less κ / 1000 for one term more
pub capped : (m s g x a b e κ : ℕ) (t : Bool)
    → leb m (2 ^ 30) ≡ t
    → s ≡ min m (2 ^ 30)
    → 5000 * (m * g) ≤ 5000 * x + 8 * b * g
    → 5000 * x ≤ 5000 * ((m + 1) * g) + (8 * a + 5 * 1066) * g
    → 1000 * x + κ * g ≤ 1000 * ((2 ^ 30 + e) * g)
    → 8 * b + 5 * κ ≤ 5000 * e
    → 10330 + 8 * a + 5 * κ ≤ 5000 * e
    → (5000 * (s * g) + 5 * κ * g ≤ 5000 * x + 5000 * e * g) × (5000 * x + 5 * κ * g ≤ 5000 * (s * g) + 5000 * e * g)
capped m s g x a b e κ true q f hi lo c nb na =
    let r : s ≡ m = omega (arith, leb-true m (2 ^ 30) q) in
    omega (arith, ap (λ (t : ℕ). t * g) r, mul-le-mul_right g nb, mul-le-mul_right g na)
capped m s g x a b e κ false q f hi lo c nb na =
    let r : s ≡ 2 ^ 30 = omega (arith, leb-false m (2 ^ 30) q) in
    let l : s ≤ m = omega arith in
    omega (arith, ap (λ (t : ℕ). t * g) r, mul-le-mul_right g l, mul-le-mul_right g nb)
