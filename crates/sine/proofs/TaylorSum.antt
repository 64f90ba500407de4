-- The Taylor sum over its least common denominator, as a polynomial in u^2, and Horner's scheme as another: equal lists of coefficients. Assumes nothing.
use Rattle.std.proofs.Common.{◌≡◌, ℕ, zero, suc, ◌+◌, ◌-◌, ◌*◌, ◌^◌, ◌<◌, ◌≤◌, Bool, true, false, T, leb, List, [], ◌∷◌, ◌++◌, ℤ, pos, negsuc, ◌+ℤ◌, ◌-ℤ◌, ◌*ℤ◌, refl, ap, ◌∙◌, mul-le-mul_right, mul-le-mul_left, mul-pos, pow-suc, arith, leb→le}
use native.Mathlib.Nat.{pow-zero}
use Rattle.whole.specs.Whole.{∣◌∣, sign_of}
use Rattle.whole.proofs.Linear.{abs_mul}
use Rattle.whole.proofs.Quote.{⟨◌⟩, #, ◌⊕◌, ◌⊝◌, ◌⊗◌, ⊖, by≡, of≡}
use Rattle.sine.specs.Taylor.{factorial, odd?, term, taylor, Within}
use Rattle.sine.proofs.Polynomial.{peval, pscale, pneg, pow_of, eval_scale, eval_neg, eval_snoc}
use Rattle.sine.proofs.Horner.{den, num, three, and_T}

-- ---- the least common denominator, d^(2 n + 1) (2 n + 1)!, and the sum over it
abbrev pub grow : ℕ → ℕ → ℕ
grow d n = d * d * ((2 * n + 2) * (2 * n + 3))

abbrev pub over : ℕ → ℕ → ℕ
over d zero = d
over d (suc n) = over d n * grow d n

abbrev pub sum : ℕ → ℕ → ℕ → ℤ
sum d u zero = pos u
sum d u (suc n) = sum d u n *ℤ pos (grow d n) +ℤ sign_of (odd? (suc n)) (u ^ (2 * n + 3))

pow_one : (u : ℕ) → u ^ 1 ≡ u
pow_one u = pow-suc u 0 ∙ ap (λ (t : ℕ). t * u) (pow-zero u) ∙ omega arith

pow_two : (u n : ℕ) → u ^ suc (suc n) ≡ u ^ n * (u * u)
pow_two u n = pow-suc u (suc n) ∙ ap (λ (t : ℕ). t * u) (pow-suc u n) ∙ omega arith

over_term : (d n : ℕ) → d ^ (2 * n + 1) * factorial (2 * n + 1) ≡ over d n
over_term d zero = ap (λ (t : ℕ). t * 1) (pow_one d) ∙ omega arith
over_term d (suc n) =
    let e : 2 * suc n + 1 ≡ suc (suc (2 * n + 1)) = omega arith in
    let f = over_term d n in
    rw (e, pow_two d (2 * n + 1))
    (omega (arith, ap (λ (t : ℕ). t * grow d n) f))

-- the plain sum is the reduced one, top and bottom times one number
abbrev times : ℕ → ℕ → ℕ
times d zero = 1
times d (suc n) = over d n * times d n

top-step : (t s c : ℤ) (x y o m k : ℕ) → t ≡ s *ℤ pos m → x ≡ o * k → y ≡ o * m → t *ℤ pos x +ℤ c *ℤ pos y ≡ (s *ℤ pos k +ℤ c) *ℤ pos (o * m)
top-step t s c x y o m k e f g =
    rw (e, f, g)
    (by≡ (⟨ s ⟩ ⊗ # m ⊗ # (o * k) ⊕ ⟨ c ⟩ ⊗ # (o * m)) ((⟨ s ⟩ ⊗ # k ⊕ ⟨ c ⟩) ⊗ # (o * m)) (omega arith))

mutual
  same-under : (u d n : ℕ) → (taylor u d n).under ≡ over d n * times d n
  same-under u d zero = over_term d 0 ∙ omega arith
  same-under u d (suc n) = rw (same-under u d n, over_term d (suc n)) (omega arith)

  same-top : (u d n : ℕ) → (taylor u d n).top ≡ sum d u n *ℤ pos (times d n)
  same-top u d zero = by≡ (# (u ^ 1)) (# u ⊗ # 1) (omega (arith, pow_one u))
  same-top u d (suc n) =
      top-step (taylor u d n).top (sum d u n) (sign_of (odd? (suc n)) (u ^ (2 * suc n + 1))) (term u d (suc n)).under (taylor u d n).under (over d n) (times d n) (grow d n)
      (same-top u d n)
      (over_term d (suc n))
      (same-under u d n)
      ∙ (let e : 2 * suc n + 1 ≡ 2 * n + 3 = omega arith in rw e)

scaled : (e s o m : ℕ) (t : ℤ) → ∣ pos (s * o) -ℤ pos (2 ^ 30) *ℤ t ∣ ≤ e * o → ∣ pos (s * (o * m)) -ℤ pos (2 ^ 30) *ℤ (t *ℤ pos m) ∣ ≤ e * (o * m)
scaled e s o m t h =
    let x = pos (s * o) -ℤ pos (2 ^ 30) *ℤ t in
    let p : pos (s * (o * m)) -ℤ pos (2 ^ 30) *ℤ (t *ℤ pos m) ≡ x *ℤ pos m =
    by≡ (# (s * (o * m)) ⊝ # (2 ^ 30) ⊗ (⟨ t ⟩ ⊗ # m)) ((# (s * o) ⊝ # (2 ^ 30) ⊗ ⟨ t ⟩) ⊗ # m) (omega arith) in
    rw (p, abs_mul x (pos m))
    (omega (arith, mul-le-mul_right m h))

pub within : (e u d n s : ℕ) → ∣ pos (s * over d n) -ℤ pos (2 ^ 30) *ℤ sum d u n ∣ ≤ e * over d n → Within e (taylor u d n) s
unfolding Within
within e u d n s h = rw (same-top u d n, same-under u d n) (scaled e s (over d n) (times d n) (sum d u n) h)

-- no denominator is 0
over_positive : (d n : ℕ) → 0 < d → 0 < over d n
over_positive d zero h = h
over_positive d (suc n) h = mul-pos (over_positive d n h) (mul-pos (mul-pos h h) (mul-pos (omega arith) (omega arith)))

times_positive : (d n : ℕ) → 0 < d → 0 < times d n
times_positive d zero h = omega arith
times_positive d (suc n) h = mul-pos (over_positive d n h) (times_positive d n h)

pub under_positive : (u d n : ℕ) → 0 < d → 0 < (taylor u d n).under
under_positive u d n h = rw (same-under u d n) (mul-pos (over_positive d n h) (times_positive d n h))

-- ---- the sum is u times a polynomial in u^2
abbrev pub tpoly : ℕ → ℕ → List ℤ
tpoly d zero = pos 1 ∷ []
tpoly d (suc n) = pscale (pos (grow d n)) (tpoly d n) ++ (sign_of (odd? (suc n)) 1 ∷ [])

pow_scale : (k : ℤ) (p : List ℤ) (x : ℤ) → pow_of (pscale k p) x ≡ pow_of p x
pow_scale k [] x = refl
pow_scale k (a ∷ p) x = ap (λ (t : ℤ). x *ℤ t) (pow_scale k p x)

pow_snoc : (p : List ℤ) (c x : ℤ) → pow_of (p ++ (c ∷ [])) x ≡ x *ℤ pow_of p x
pow_snoc [] c x = refl
pow_snoc (a ∷ p) c x = ap (λ (t : ℤ). x *ℤ t) (pow_snoc p c x)

sign_mul : (b : Bool) (m : ℕ) → sign_of b m ≡ sign_of b 1 *ℤ pos m
sign_mul true m = by≡ (⊖ (# m)) (⟨ negsuc 0 ⟩ ⊗ # m) (omega arith)
sign_mul false m = by≡ (# m) (# 1 ⊗ # m) (omega arith)

pow_at : (d u n : ℕ) → pos u *ℤ pow_of (tpoly d n) (pos (u * u)) ≡ pos (u ^ (2 * n + 3))
pow_at d u zero = by≡ (# u ⊗ (# (u * u) ⊗ # 1)) (# (u ^ 3)) (omega (arith, pow_two u 1, ap (λ (t : ℕ). t * (u * u)) (pow_one u)))
pow_at d u (suc n) =
    let k = pos (grow d n) in
    let t = pow_of (tpoly d n) (pos (u * u)) in
    let e : 2 * suc n + 3 ≡ suc (suc (2 * n + 3)) = omega arith in
    rw (pow_snoc (pscale k (tpoly d n)) (sign_of (odd? (suc n)) 1) (pos (u * u)), pow_scale k (tpoly d n) (pos (u * u)), e, pow_two u (2 * n + 3))
    (by≡ (# u ⊗ (# (u * u) ⊗ ⟨ t ⟩)) (# (u ^ (2 * n + 3) * (u * u))) (omega (arith, ap (λ (x : ℕ). x * (u * u)) (of≡ (# u ⊗ ⟨ t ⟩) (# (u ^ (2 * n + 3))) (pow_at d u n)))))

pub sum_is : (d u n : ℕ) → sum d u n ≡ pos u *ℤ peval (tpoly d n) (pos (u * u))
sum_is d u zero = by≡ (# u) (# u ⊗ (# 1 ⊕ # (u * u) ⊗ # 0)) (omega arith)
sum_is d u (suc n) =
    let k = pos (grow d n) in
    let s = sign_of (odd? (suc n)) 1 in
    let p = pscale k (tpoly d n) in
    let x = pos (u * u) in
    rw (sum_is d u n, sign_mul (odd? (suc n)) (u ^ (2 * n + 3)), eval_snoc p s x, eval_scale k (tpoly d n) x, pow_scale k (tpoly d n) x, ← pow_at d u n)
    (by≡ (# u ⊗ ⟨ peval (tpoly d n) x ⟩ ⊗ ⟨ k ⟩ ⊕ ⟨ s ⟩ ⊗ (# u ⊗ ⟨ pow_of (tpoly d n) x ⟩)) (# u ⊗ (⟨ k ⟩ ⊗ ⟨ peval (tpoly d n) x ⟩ ⊕ ⟨ s ⟩ ⊗ ⟨ pow_of (tpoly d n) x ⟩)) (omega arith))

-- ---- Horner's numerator is a polynomial in w
abbrev pub hpoly : ℕ → List ℕ → List ℤ
hpoly v [] = pos 1 ∷ []
hpoly v (k ∷ ks) = pos (k * v * den v ks) ∷ pneg (hpoly v ks)

num_den : (v w : ℕ) (ks : List ℕ) → num v w ks ≤ den v ks
num_den v w [] = omega arith
num_den v w (k ∷ ks) = omega arith

pub num_is : (v w : ℕ) → 2 * w ≤ 5 * v → (ks : List ℕ) → T (three ks) → pos (num v w ks) ≡ peval (hpoly v ks) (pos w)
num_is v w h [] t = by≡ (# 1) (# 1 ⊕ # w ⊗ # 0) (omega arith)
num_is v w h (k ∷ ks) t =
    let u = and_T (leb 3 k) (three ks) t in
    let k3 = leb→le 3 k u.0 in
    let wn : w * num v w ks ≤ k * v * den v ks = omega (arith, mul-le-mul_left w (num_den v w ks), mul-le-mul_right (den v ks) h, mul-le-mul_right (v * den v ks) k3) in
    rw (eval_neg (hpoly v ks) (pos w), ← num_is v w h ks u.1)
    (by≡ (# (k * v * den v ks - w * num v w ks)) (# (k * v * den v ks) ⊕ # w ⊗ ⊖ (# (num v w ks))) (omega arith))
