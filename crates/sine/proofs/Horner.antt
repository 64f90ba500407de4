-- Horner's scheme in whole numbers: how far the h of a list of divisors lies from the exact fraction. Assumes nothing.
-- w = W / V is the exact square of the argument, Z = 2^30 w, and z ≤ Z ≤ z + e / 1000. With H = num / den exact, h lies in
-- [2^30 H - a / 1000, 2^30 H + b / 1000]; a step takes (a, b) to about (5 b / 2 k, 1000 + (e + 5 a / 2) / k).
use Rattle.std.proofs.Common.{◌≡◌, ℕ, ◌+◌, ◌-◌, ◌*◌, ◌/◌, ◌^◌, ◌<◌, ◌≤◌, Bool, true, false, ◌&&◌, T, leb, List, [], ◌∷◌, sym, refl, ap, ◌∙◌, mul-le-mul_right, mul-le-mul, mul-le-mul_left, div-mul-le_self, arith, leb→le}
use native.Mathlib.Nat.{le_of_mul-le-mul_left, lt-div-mul-add, mul-div-mul_right, div-le_of_le-mul}
use Rattle.sine.specs.Sine.{first_of, step_of, steps_of}

-- h is near 2^30 n / d
pub record Near (h a b n d : ℕ) : Type 0 where
  pub lo : 1000 * (2 ^ 30 * n) ≤ (1000 * h + a) * d
  pub hi : 1000 * (h * d) ≤ 1000 * (2 ^ 30 * n) + b * d
  pub nd : n ≤ d
  pub hq : h ≤ 2 ^ 30

-- the argument's square and z
pub record Arg (v w z e : ℕ) : Type 0 where
  pub vp : 0 < v
  pub z1 : z * v ≤ 2 ^ 30 * w
  pub z2 : 1000 * (2 ^ 30 * w) ≤ (1000 * z + e) * v
  pub wv : 2 * w ≤ 5 * v

-- from what is taken off to what is left
left_lo : (m x f h n a : ℕ) → h + f ≡ 2 ^ 30 → n + x ≡ m → 1000 * (f * m) ≤ 1000 * (2 ^ 30 * x) + a * m → 1000 * (2 ^ 30 * n) ≤ (1000 * h + a) * m
left_lo m x f h n a p q s = omega (arith, ap (λ (t : ℕ). t * m) p)

left_hi : (m x f h n b : ℕ) → h + f ≡ 2 ^ 30 → n + x ≡ m → 1000 * (2 ^ 30 * x) ≤ 1000 * (f * m) + b * m → 1000 * (h * m) ≤ 1000 * (2 ^ 30 * n) + b * m
left_hi m x f h n b p q s = omega (arith, ap (λ (t : ℕ). t * m) p)

module _ (v w z e : ℕ) (g : Arg v w z e) where
  zq : 2 * z ≤ 5 * 2 ^ 30
  zq = le_of_mul-le-mul_left {k = v} (omega (arith, g.z1, g.wv)) g.vp

  -- what a step floors away
  module _ (k h a b n d : ℕ) (k3 : 3 ≤ k) (i : Near h a b n d) where
    abbrev f : ℕ
    f = z * h / (k * 2 ^ 30)

    f_lo : f * (k * 2 ^ 30) ≤ z * h
    f_lo = div-mul-le_self (z * h) (k * 2 ^ 30)

    f_hi : z * h ≤ f * (k * 2 ^ 30) + k * 2 ^ 30
    f_hi = omega (arith, lt-div-mul-add {a = z * h} {b = k * 2 ^ 30} (omega arith))

    f_q : f ≤ 2 ^ 30
    f_q = div-le_of_le-mul (k * 2 ^ 30) (omega (arith, mul-le-mul zq i.hq))

    wn : w * n ≤ k * v * d
    wn = omega (arith, mul-le-mul_left w i.nd, mul-le-mul_right d g.wv, mul-le-mul_right (v * d) k3)

    -- f k v d ≤ 2^30 w n + b w d / 1000
    up : 1000 * (f * (k * v * d)) ≤ 1000 * (2 ^ 30 * (w * n)) + b * (w * d)
    up = le_of_mul-le-mul_left {k = 2 ^ 30} (omega (arith, mul-le-mul_right (1000 * (v * d)) f_lo, mul-le-mul g.z1 i.hi)) (omega arith)

    -- 2^30 w n ≤ (f + 1) k v d + (e + 5 a / 2) v d / 1000
    dn : 2000 * (2 ^ 30 * (w * n)) ≤ 2000 * (f * (k * v * d)) + 2000 * (k * v * d) + (5 * a + 2 * e) * (v * d)
    dn =
        le_of_mul-le-mul_left {k = 2 ^ 30 * 1000}
        (omega (arith, mul-le-mul_right (1000 * (2 ^ 30 * n)) g.z2, mul-le-mul_left (z * v) i.lo, mul-le-mul_right (v * d) f_hi, mul-le-mul_right (a * (v * d)) zq, mul-le-mul_left (e * v) i.nd))
        (omega arith)

    step : (a' b' : ℕ) → 5 * b ≤ a' * (2 * k) → 2000 * k + 5 * a + 2 * e ≤ b' * (2 * k) → Near (step_of z h k) a' b' (k * v * d - w * n) (k * v * d)
    step a' b' ha hb =
        let s1 = mul-le-mul g.wv ha in
        let s2 = mul-le-mul_right d s1 in
        let s3 = mul-le-mul_right (v * d) hb in
        let p : step_of z h k + f ≡ 2 ^ 30 = omega (arith, f_q) in
        let q : k * v * d - w * n + w * n ≡ k * v * d = omega (arith, wn) in
        record {
          lo = left_lo (k * v * d) (w * n) f (step_of z h k) (k * v * d - w * n) a' p q (omega (arith, up));
          hi = left_hi (k * v * d) (w * n) f (step_of z h k) (k * v * d - w * n) b' p q (omega (arith, dn));
          nd = omega arith;
          hq = omega arith;
        }

-- ---- the scheme of a list of divisors, the last of them first
abbrev pub hs : ℕ → List ℕ → ℕ
hs z [] = 2 ^ 30
hs z (k ∷ ks) = step_of z (hs z ks) k

abbrev pub den : ℕ → List ℕ → ℕ
den v [] = 1
den v (k ∷ ks) = k * v * den v ks

abbrev pub num : ℕ → ℕ → List ℕ → ℕ
num v w [] = 1
num v w (k ∷ ks) = k * v * den v ks - w * num v w ks

abbrev pub err : ℕ → List ℕ → ℕ × ℕ
err e [] = (0, 0)
err e (k ∷ ks) = (5 * (err e ks).1 / (2 * k) + 1, (2000 * k + 5 * (err e ks).0 + 2 * e) / (2 * k) + 1)

abbrev pub three : List ℕ → Bool
three [] = true
three (k ∷ ks) = leb 3 k && three ks

pub and_T : (s t : Bool) → T (s && t) → T s × T t
and_T true t p = (tt, p)
and_T false t p = absurd p

above : (x m : ℕ) → 0 < m → x ≤ (x / m + 1) * m
above x m h = omega (arith, lt-div-mul-add {a = x} {b = m} h)

pub near : (v w z e : ℕ) → Arg v w z e → (ks : List ℕ) → T (three ks) → Near (hs z ks) (err e ks).0 (err e ks).1 (num v w ks) (den v ks)
near v w z e g [] t = record { lo = omega arith; hi = omega arith; nd = omega arith; hq = omega arith }
near v w z e g (k ∷ ks) t =
    let u = and_T (leb 3 k) (three ks) t in
    let k3 = leb→le 3 k u.0 in
    step v w z e g k (hs z ks) (err e ks).0 (err e ks).1 (num v w ks) (den v ks) k3 (near v w z e g ks u.1)
    (5 * (err e ks).1 / (2 * k) + 1)
    ((2000 * k + 5 * (err e ks).0 + 2 * e) / (2 * k) + 1)
    (above (5 * (err e ks).1) (2 * k) (omega arith))
    (above (2000 * k + 5 * (err e ks).0 + 2 * e) (2 * k) (omega arith))

-- ---- the rules' scheme: its first step divides by k alone, and it takes the other divisors in turn
abbrev pub onto : List ℕ → List ℕ → List ℕ
onto [] ks = ks
onto (l ∷ ls) ks = onto ls (l ∷ ks)

steps_are : (z : ℕ) (ls ks : List ℕ) → steps_of z (hs z ks) ls ≡ hs z (onto ls ks)
unfolding steps_of
steps_are z [] ks = refl
steps_are z (l ∷ ls) ks = steps_are z ls (l ∷ ks)

pub scheme_is : (z k : ℕ) (ls : List ℕ) → steps_of z (first_of z k) ls ≡ hs z (onto ls (k ∷ []))
scheme_is z k ls = ap (λ (t : ℕ). steps_of z (2 ^ 30 - t) ls) (sym (mul-div-mul_right z k (omega arith))) ∙ steps_are z ls (k ∷ [])
