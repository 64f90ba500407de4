-- y and z beside the exact argument x = u / d, u = arg_top r, d = 2^30 E with E = 2·10^20: 2^30 x = u / E. Then the last floor of S. Assumes nothing.
use Rattle.std.proofs.Common.{ℕ, ◌+◌, ◌*◌, ◌/◌, ◌^◌, ◌≤◌, mul-le-mul_right, mul-le-mul, mul-le-mul_left, div-mul-le_self, arith, lit<, lit≤}
use native.Mathlib.Nat.{le_of_mul-le-mul_left, lt-div-mul-add}
use Rattle.sine.specs.Sine.{y_of_rule, z_of}
use Rattle.sine.specs.Taylor.{arg_top, arg_under}
use Rattle.sine.proofs.Horner.{Near, Arg}

abbrev pub E : ℕ
E = 2 * 10 ^ 20

pub y_lo : (r : ℕ) → y_of_rule r * E ≤ arg_top r
y_lo r = omega arith

pub y_hi : (r : ℕ) → r ≤ 2 ^ 30 → 1000 * arg_top r ≤ (1000 * y_of_rule r + 1066) * E
y_hi r h = omega arith

y_max : (r : ℕ) → r ≤ 2 ^ 30 → y_of_rule r ≤ 1686629713
y_max r h = omega arith

pub y_five : (r : ℕ) → r ≤ 2 ^ 30 → 5 * y_of_rule r ≤ 8 * 2 ^ 30
y_five r h = omega arith

pub u_five : (r : ℕ) → r ≤ 2 ^ 30 → 5 * arg_top r ≤ 8 * arg_under
u_five r h = omega arith

-- the largest argument, at r = 2^30
abbrev pub most : ℕ
most = 2 ^ 30 * 314159265358979323846

pub u_max : (r : ℕ) → r ≤ 2 ^ 30 → arg_top r ≤ most
u_max r h = omega arith

-- z d^2 ≤ 2^30 u^2, and the other way but for 4.350. E is a variable f here: `omega` reads no number of more than 38 digits
sq_lo : (f y z u : ℕ) → z * 2 ^ 30 ≤ y * y → y * f ≤ u → z * (2 ^ 30 * f * (2 ^ 30 * f)) ≤ 2 ^ 30 * (u * u)
sq_lo f y z u h k = omega (arith, mul-le-mul k k, mul-le-mul_right (f * f) h)

sq_hi : (f y z u : ℕ)
    → y * y ≤ z * 2 ^ 30 + 2 ^ 30
    → y ≤ 1686629713
    → 1000 * u ≤ (1000 * y + 1066) * f
    → 1000 * (2 ^ 30 * (u * u)) ≤ (1000 * z + 4350) * (2 ^ 30 * f * (2 ^ 30 * f))
sq_hi f y z u h m k = omega (arith, mul-le-mul k k, mul-le-mul_right (f * f) h, mul-le-mul_right (f * f) m)

sq_max : (a b u : ℕ) → u ≤ a → 2 * (a * a) ≤ 5 * (b * b) → 2 * (u * u) ≤ 5 * (b * b)
sq_max a b u h k = omega (arith, mul-le-mul h h)

pub arg : (r : ℕ) → r ≤ 2 ^ 30 → Arg (arg_under * arg_under) (arg_top r * arg_top r) (z_of (y_of_rule r)) 4350
arg r h =
    let y = y_of_rule r in
    record {
      vp = lit< tt;
      z1 = sq_lo E y (z_of y) (arg_top r) (omega arith) (y_lo r);
      z2 = sq_hi E y (z_of y) (arg_top r) (omega arith) (y_max r h) (y_hi r h);
      wv = sq_max most arg_under (arg_top r) (u_max r h) (lit≤ tt);
    }

-- ---- the last floor: G = floor(y h / 2^30), where h is near 2^30 n / d; 2^30 x n / d is u n / E d
module _ (y u h a b n d : ℕ) (i : Near h a b n d) where
  abbrev G : ℕ
  G = y * h / 2 ^ 30

  pub floor_hi : y * E ≤ u → 5 * u ≤ 8 * arg_under → 5000 * (G * (E * d)) ≤ 5000 * (u * n) + 8 * b * (E * d)
  floor_hi k m =
      le_of_mul-le-mul_left {k = 2 ^ 30}
      (omega (arith, mul-le-mul_right (5000 * (E * d)) (div-mul-le_self (y * h) (2 ^ 30)), mul-le-mul k i.hi, mul-le-mul_right (b * d) m))
      (omega arith)

  pub floor_lo : (η : ℕ)
      → 1000 * u ≤ (1000 * y + η) * E
      → 5 * y ≤ 8 * 2 ^ 30
      → 5000 * (u * n) ≤ 5000 * ((G + 1) * (E * d)) + (8 * a + 5 * η) * (E * d)
  floor_lo η k m =
      le_of_mul-le-mul_left {k = 2 ^ 30 * 1000}
      (omega (arith, mul-le-mul_right (1000 * (2 ^ 30 * n)) k, mul-le-mul_left (y * E) i.lo, mul-le-mul_right (1000 * (1000 * (E * d))) (lt-div-mul-add {a = y * h} {b = 2 ^ 30} (omega arith)), mul-le-mul_right (a * (E * d)) m, mul-le-mul_left (η * E) i.nd))
      (omega arith)
