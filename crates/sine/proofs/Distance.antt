-- S lies within 4 of the Taylor sum of degree 15. The law is over any list of divisors, and `Plan` is what is computed for one. Assumes nothing.
use Rattle.std.proofs.Common.{◌≡◌, ℕ, suc, ◌+◌, ◌-◌, ◌*◌, ◌/◌, ◌^◌, ◌<◌, ◌≤◌, min, Bool, true, false, T, leb, List, [], ◌∷◌, ℤ, pos, ◌+ℤ◌, ◌-ℤ◌, ◌*ℤ◌, neg_ℤ, sym, refl, ap, ◌∙◌, le_trans, mul-le-mul_right, mul-le-mul, mul-le-mul_left, arith, lit<, lit≤}
use native.Mathlib.Nat.{pow-le-pow_left}
use Rattle.whole.specs.Whole.{∣◌∣, sign_of}
use Rattle.whole.proofs.Linear.{size_to}
use Rattle.whole.proofs.Quote.{#, ◌⊕◌, ◌⊝◌, ◌⊗◌, ⊖, bal}
use Rattle.sine.specs.Sine.{y_of_rule, z_of, s_by, first_divisor, divisors, S}
use Rattle.sine.specs.Taylor.{arg_top, arg_under, odd?, taylor, Within, farthest, NearTaylor}
use Rattle.sine.proofs.Polynomial.{peval, pup}
use Rattle.sine.proofs.Horner.{hs, den, num, err, three, near, onto, scheme_is}
use Rattle.sine.proofs.Argument.{E, most, y_lo, y_hi, y_five, u_max, u_five, arg, floor_lo, floor_hi}
use Rattle.sine.proofs.TaylorSum.{over, grow, sum, within, tpoly, sum_is, hpoly, num_is}
use Rattle.sine.proofs.Cap.{squares, squares_le, sum_most, capped}

-- d^2
abbrev pub vv : ℕ
vv = arg_under * arg_under

-- 2^30 times the scheme's sum at u is u times the numerator, over this
abbrev pub scale : List ℕ → ℕ
scale ks = E * den vv ks

-- What is computed for a list of divisors, the last of them first: that the scheme is the sum of degree 2 n + 1, that the next term is at most κ / 1000,
-- and that the errors stay below e. `cs` is a list of the cosine's divisors, and `c` brings the sum over the cosine's denominator.
pub record Plan (ks : List ℕ) (n e κ : ℕ) : Type 0 where
  pub cs : List ℕ
  pub c : ℕ
  pub big : T (three ks)
  pub same : hpoly vv ks ≡ tpoly arg_under n
  pub ov : over arg_under n ≡ 2 ^ 30 * scale ks
  pub next : 1000 * most ^ (2 * n + 3) ≤ κ * (scale ks * grow arg_under n)
  pub up : 8 * (err 4350 ks).1 + 5 * κ ≤ 5000 * e
  pub down : 10330 + 8 * (err 4350 ks).0 + 5 * κ ≤ 5000 * e
  pub cpos : 0 < c
  pub room : κ ≤ 1000 * e
  pub one : 1000000 * pup (squares c (hpoly vv ks) (hpoly vv cs)) (most * most) ≤ c * ((1000 * (2 ^ 30 + e) - κ) * scale ks * ((1000 * (2 ^ 30 + e) - κ) * scale ks))

-- one term more, of either sign, in the sum than in the scheme
one_more : (t : Bool) (s g x k c e κ : ℕ)
    → 5000 * (s * g) + 5 * κ * g ≤ 5000 * x + 5000 * e * g
    → 5000 * x + 5 * κ * g ≤ 5000 * (s * g) + 5000 * e * g
    → 1000 * c ≤ κ * (g * k)
    → ∣ pos (s * (2 ^ 30 * g * k)) -ℤ pos (2 ^ 30) *ℤ (pos x *ℤ pos k +ℤ sign_of t c) ∣ ≤ e * (2 ^ 30 * g * k)
one_more true s g x k c e κ hi lo l =
    size_to (pos (s * (2 ^ 30 * g * k)) -ℤ pos (2 ^ 30) *ℤ (pos x *ℤ pos k +ℤ neg_ℤ (pos c)))
    (s * (2 ^ 30 * g * k) + 2 ^ 30 * c)
    (2 ^ 30 * (x * k))
    (e * (2 ^ 30 * g * k))
    (omega (arith, bal (# (s * (2 ^ 30 * g * k)) ⊝ # (2 ^ 30) ⊗ (# x ⊗ # k ⊕ ⊖ (# c)))))
    (omega (arith, mul-le-mul_right k hi))
    (omega (arith, mul-le-mul_right k lo))
one_more false s g x k c e κ hi lo l =
    size_to (pos (s * (2 ^ 30 * g * k)) -ℤ pos (2 ^ 30) *ℤ (pos x *ℤ pos k +ℤ pos c))
    (s * (2 ^ 30 * g * k))
    (2 ^ 30 * (x * k) + 2 ^ 30 * c)
    (e * (2 ^ 30 * g * k))
    (omega (arith, bal (# (s * (2 ^ 30 * g * k)) ⊝ # (2 ^ 30) ⊗ (# x ⊗ # k ⊕ # c))))
    (omega (arith, mul-le-mul_right k hi))
    (omega (arith, mul-le-mul_right k lo))

room_by : (e κ g x : ℕ) → κ ≤ 1000 * e → 1000 * x ≤ (1000 * (2 ^ 30 + e) - κ) * g → 1000 * x + κ * g ≤ 1000 * ((2 ^ 30 + e) * g)
room_by e κ g x h l =
    let q : 1000 * (2 ^ 30 + e) - κ + κ ≡ 1000 * (2 ^ 30 + e) = omega arith in
    omega (arith, ap (λ (t : ℕ). t * g) q)

module _ (first : ℕ) (others : List ℕ) (n e κ : ℕ) (plan : Plan (onto others (first ∷ [])) n e κ) (r : ℕ) (h : r ≤ 2 ^ 30) where
  abbrev ks : List ℕ
  ks = onto others (first ∷ [])

  abbrev u : ℕ
  u = arg_top r

  abbrev g : ℕ
  g = scale ks

  abbrev x : ℕ
  x = u * num vv (u * u) ks

  is_num : pos (num vv (u * u) ks) ≡ peval (hpoly vv ks) (pos (u * u))
  is_num = num_is vv (u * u) (arg r h).wv ks plan.big

  is_sum : sum arg_under u n ≡ pos x
  is_sum = sum_is arg_under u n ∙ ap (λ (t : ℤ). pos u *ℤ t) (ap (λ (p : List ℤ). peval p (pos (u * u))) (sym plan.same) ∙ sym is_num)

  cap : 1000 * x ≤ (1000 * (2 ^ 30 + e) - κ) * g
  cap =
      sum_most plan.c u (num vv (u * u) ks) ((1000 * (2 ^ 30 + e) - κ) * g) (pup (squares plan.c (hpoly vv ks) (hpoly vv plan.cs)) (most * most))
      plan.cpos
      (squares_le plan.c (u * u) (most * most) (num vv (u * u) ks) (hpoly vv ks) (hpoly vv plan.cs) is_num (mul-le-mul (u_max r h) (u_max r h)))
      plan.one

  both : (5000 * (s_by first others r * g) + 5 * κ * g ≤ 5000 * x + 5000 * e * g) × (5000 * x + 5 * κ * g ≤ 5000 * (s_by first others r * g) + 5000 * e * g)
  unfolding s_by
  both =
      let y = y_of_rule r in
      let z = z_of y in
      let i = near vv (u * u) z 4350 (arg r h) ks plan.big in
      let m = y * hs z ks / 2 ^ 30 in
      capped m (s_by first others r) g x (err 4350 ks).0 (err 4350 ks).1 e κ (leb m (2 ^ 30)) refl
      (ap (λ (t : ℕ). min (y * t / 2 ^ 30) (2 ^ 30)) (scheme_is z first others))
      (floor_hi y u (hs z ks) (err 4350 ks).0 (err 4350 ks).1 (num vv (u * u) ks) (den vv ks) i (y_lo r) (u_five r h))
      (floor_lo y u (hs z ks) (err 4350 ks).0 (err 4350 ks).1 (num vv (u * u) ks) (den vv ks) i 1066 (y_hi r h) (y_five r h))
      (room_by e κ g x plan.room cap)
      plan.up
      plan.down

  reduced : ∣ pos (s_by first others r * over arg_under (suc n)) -ℤ pos (2 ^ 30) *ℤ sum arg_under u (suc n) ∣ ≤ e * over arg_under (suc n)
  reduced =
      rw (is_sum, plan.ov)
      (one_more (odd? (suc n)) (s_by first others r) g x (grow arg_under n) (u ^ (2 * n + 3)) e κ both.0 both.1
      (le_trans (mul-le-mul_left 1000 (pow-le-pow_left (u_max r h) (2 * n + 3))) plan.next))

  pub distance : Within e (taylor u arg_under (suc n)) (s_by first others r)
  distance = within e u arg_under (suc n) (s_by first others r) reduced

-- ---- the six divisors of document 01
plan : Plan (onto divisors (first_divisor ∷ [])) 6 farthest 725
plan = record {
  cs = 2 ∷ 12 ∷ 30 ∷ 56 ∷ 90 ∷ 132 ∷ 182 ∷ [];
  c = 196 * vv;
  big = tt;
  same = refl;
  ov = refl;
  next = lit≤ tt;
  up = lit≤ tt;
  down = lit≤ tt;
  cpos = lit< tt;
  room = lit≤ tt;
  one = lit≤ tt;
}

pub S_near : (r : ℕ) → r ≤ 2 ^ 30 → NearTaylor r
unfolding S
S_near r h = distance first_divisor divisors 6 farthest 725 plan r h
