-- The rates and offsets of specs/Rates.antt are document 01's: a line fits a run exactly if the test says so, and the line that the code works out fits, with
-- the least rate, and the least offset for it.
use mathlib.Core.Path.{◌≡◌, refl, sym, ap, ap₂, subst, ◌∙◌}
use mathlib.Core.List.{List}
use Prim.Native.Nat.{ℕ, zero, suc, ◌+◌, ◌*◌, ◌-◌, ◌≤◌, ◌<◌}
use native.Mathlib.Nat.{mul-zero, mul-one}
use native.Mathlib.Omega.{arith}
use lib.Dec.{T, eqb, eqb→eq, leb→le}
use lib.IntN.{ℤ, pos, negsuc, sub_ℕ, ◌+ℤ◌, ◌-ℤ◌, ◌*ℤ◌, *ℤ_comm, +ℤ_assoc}
use lib.Signed.{◌≤ℤ◌}
use Rattle.whole.specs.Whole.{∣◌∣}
use Rattle.fit.specs.Line.{sample, Fits, Small}
use Rattle.fit.specs.Rates.{bias, scaled, tilt, lift, hi, fit, least, fit_of, tilted, lifted, rate_of_rule, offset_of}
use Rattle.fit.proofs.Tests.{by_test}
use Rattle.fit.proofs.Pairs.{FitsN, fit-one, fit_part, fit_complete, fit-two, least-rate, rate-fits, off-least, hi_top, lo_one, hi_one}
use Rattle.fit.proofs.Diff.{plus, minus, sub_of, sub_eq, sub_pos, sub_neg, sub_add, sub_sub, sub_mul, sub_abs, sub_le, mul_pos_add}

pub bias_is : (z : ℤ) → ∣ z ∣ ≤ 130_000_000_000 → z ≡ sub_ℕ (bias z) 130_001_000_000
unfolding bias
bias_is (pos n) h = sym (sub_pos (130_001_000_000 + n) 130_001_000_000 n (omega arith))
bias_is (negsuc n) h = sym (sub_neg (130_001_000_000 - suc n) 130_001_000_000 n (omega arith))

pub bias-low : (z : ℤ) → ∣ z ∣ ≤ 130_000_000_000 → 1_000_000 ≤ bias z
unfolding bias
bias-low (pos n) h = omega arith
bias-low (negsuc n) h = omega arith

pub bias_high : (z : ℤ) → ∣ z ∣ ≤ 130_000_000_000 → bias z ≤ 260_001_000_000
unfolding bias
bias_high (pos n) h = omega arith
bias_high (negsuc n) h = omega arith

pub bias_sum : (z : ℤ) → ∣ z ∣ ≤ 130_000_000_000 → z +ℤ pos 130_001_000_000 ≡ pos (bias z)
unfolding bias
bias_sum (pos n) h = ap pos (omega arith)
bias_sum (negsuc n) h = sub_pos 130_001_000_000 (suc n) (130_001_000_000 - suc n) (omega arith)

module _ (s : List ℤ) (t : ℕ) (small : Small s) (tol : t ≤ 1_000_000) where
  pub bound : (i : ℕ) → scaled s i + 2 * (65536 * t) ≤ tilt
  unfolding scaled
  bound i = omega (arith, bias_high (sample s i) (small i))

  pub floor : (i : ℕ) → 65536 * t ≤ scaled s i
  unfolding scaled
  floor i = omega (arith, bias-low (sample s i) (small i))

  -- the two ways to say that a line fits at one sample
  value : (b m q n i j : ℕ) → sub_ℕ b m +ℤ sub_ℕ q n *ℤ pos j -ℤ pos 65536 *ℤ sample s i ≡ sub_ℕ (b + q * j + lift) (m + n * j + scaled s i)
  unfolding scaled
  value b m q n i j =
      ap₂ (λ (x y : ℤ). x -ℤ y) (ap (λ (x : ℤ). sub_ℕ b m +ℤ x) (sub_mul q n j) ∙ sub_add b m (q * j) (n * j))
      (*ℤ_comm (pos 65536) (sample s i) ∙ ap (λ (x : ℤ). x *ℤ pos 65536) (bias_is (sample s i) (small i)) ∙ sub_mul (bias (sample s i)) 130_001_000_000 65536)
      ∙ sub_sub (b + q * j) (m + n * j) (bias (sample s i) * 65536) lift

  near : (b m q n f c : ℕ) → Fits s t (sub_ℕ b m) (sub_ℕ q n) f c → (j : ℕ) → j < c
      → (b + q * j + lift ≤ m + n * j + scaled s (f + j) + 65536 * t) × (m + n * j + scaled s (f + j) ≤ b + q * j + lift + 65536 * t)
  near b m q n f c h j l = (sub_abs (b + q * j + lift) (m + n * j + scaled s (f + j)) (65536 * t)).0
      (subst (λ (z : ℤ). ∣ z ∣ ≤ 65536 * t) (value b m q n (f + j) j) (h j l))

  pub to_Z : (a p f c : ℕ) → FitsN (scaled s) (65536 * t) tilt a p f c → Fits s t (sub_ℕ a lift) (sub_ℕ p tilt) f c
  to_Z a p f c h j l = subst (λ (z : ℤ). ∣ z ∣ ≤ 65536 * t) (sym (value a lift p tilt (f + j) j))
      ((sub_abs (a + p * j + lift) (lift + tilt * j + scaled s (f + j)) (65536 * t)).1 (omega (arith, (h j l).0), omega (arith, (h j l).1)))

  pub of_Z : (a p f c : ℕ) → Fits s t (sub_ℕ a lift) (sub_ℕ p tilt) f c → FitsN (scaled s) (65536 * t) tilt a p f c
  of_Z a p f c h j l = let k = near a lift p tilt f c h j l in (omega arith, omega arith)

  -- an offset that fits is at least -lift, and so is a rate at least -tilt where two samples bound it
  offset_is : (A r : ℤ) (f c : ℕ) → 1 ≤ c → Fits s t A r f c → A ≡ sub_ℕ (plus A + lift - minus A) lift
  offset_is A r f c h k = sub_of A ∙ sub_eq (plus A) (minus A) (plus A + lift - minus A) lift (omega (arith, e))
    where
      e : minus A ≤ plus A + lift
      e = let n = near (plus A) (minus A) (plus r) (minus r) f c (subst (λ (z : ℤ). Fits s t z (sub_ℕ (plus r) (minus r)) f c) (sub_of A) (subst (λ (z : ℤ). Fits s t A z f c) (sub_of r) k)) 0 h in
          omega (arith, mul-zero (plus r), mul-zero (minus r), floor (f + 0))

  rate_is : (A r : ℤ) (f c : ℕ) → 2 ≤ c → Fits s t A r f c → r ≡ sub_ℕ (plus r + tilt - minus r) tilt
  rate_is A r f c h k = sub_of r ∙ sub_eq (plus r) (minus r) (plus r + tilt - minus r) tilt (omega (arith, e))
    where
      k' : Fits s t (sub_ℕ (plus A) (minus A)) (sub_ℕ (plus r) (minus r)) f c
      k' = subst (λ (z : ℤ). Fits s t z (sub_ℕ (plus r) (minus r)) f c) (sub_of A) (subst (λ (z : ℤ). Fits s t A z f c) (sub_of r) k)

      e : minus r ≤ plus r + tilt
      e = let n = near (plus A) (minus A) (plus r) (minus r) f c k' 0 (omega arith) in
          let m = near (plus A) (minus A) (plus r) (minus r) f c k' 1 (omega arith) in
          omega (arith, mul-zero (plus r), mul-zero (minus r), mul-one (plus r), mul-one (minus r), bound (f + 0))

  fits-tilted : (A r : ℤ) (f c : ℕ) → 2 ≤ c → Fits s t A r f c → FitsN (scaled s) (65536 * t) tilt (plus A + lift - minus A) (plus r + tilt - minus r) f c
  fits-tilted A r f c h k = of_Z (plus A + lift - minus A) (plus r + tilt - minus r) f c
      (subst (λ (z : ℤ). Fits s t (sub_ℕ (plus A + lift - minus A) lift) z f c) (rate_is A r f c h k)
      (subst (λ (z : ℤ). Fits s t z r f c) (offset_is A r f c (omega arith) k) k))

  -- a part of a run that fits fits, at the rate r and the offset moved on by r a sample
  pub fits_part : (A r : ℤ) (f c k d : ℕ) → k + d ≤ c → Fits s t A r f c → Fits s t (A +ℤ r *ℤ pos k) r (f + k) d
  fits_part A r f c k d h g j l = subst (λ (z : ℤ). ∣ z ∣ ≤ 65536 * t) (sym whole) (rw (assoc f k j) at (g (k + j) (omega arith)))
    where
      assoc : (a b c : ℕ) → a + (b + c) ≡ a + b + c
      assoc a b c = omega arith

      whole : A +ℤ r *ℤ pos k +ℤ r *ℤ pos j -ℤ pos 65536 *ℤ sample s (f + k + j) ≡ A +ℤ r *ℤ pos (k + j) -ℤ pos 65536 *ℤ sample s (f + k + j)
      whole = ap (λ (z : ℤ). z -ℤ pos 65536 *ℤ sample s (f + k + j))
          (+ℤ_assoc A (r *ℤ pos k) (r *ℤ pos j) ∙ ap (λ (z : ℤ). A +ℤ z) (mul_pos_add r k j))

  -- the test is whether some line fits
  pub fit_of_complete : (A r : ℤ) (f c : ℕ) → 1 ≤ c → Fits s t A r f c → T (fit_of s t f c)
  unfolding fit_of
  fit_of_complete A r f zero h k = absurd (omega arith)
  fit_of_complete A r f (suc zero) h k = fit-one (scaled s) (65536 * t) tilt f
  fit_of_complete A r f (suc (suc c)) h k = fit_complete (scaled s) (65536 * t) tilt bound (plus A + lift - minus A) (plus r + tilt - minus r) f (suc (suc c)) (omega arith)
      (fits-tilted A r f (suc (suc c)) (omega arith) k)

  -- the test holds of one sample, of two, and of each part of a run of which it holds
  pub fits_one : (f : ℕ) → T (fit_of s t f 1)
  unfolding fit_of
  fits_one = fit-one (scaled s) (65536 * t) tilt

  pub fits-some : (f c k d : ℕ) → 1 ≤ d → k + d ≤ c → T (fit_of s t f c) → T (fit_of s t (f + k) d)
  unfolding fit_of
  fits-some = fit_part (scaled s) (65536 * t) tilt

  pub fits-two : (f : ℕ) → T (fit_of s t f 2)
  unfolding fit_of
  fits-two = fit-two (scaled s) (65536 * t) tilt bound

  pub tilted-low : (f c : ℕ) → least s t f c ≤ tilted s t f c
  unfolding tilted
  tilted-low f c = by_test (eqb c 1) tilt (least s t f c) (λ z. least s t f c ≤ z)
      (λ e. subst (λ (z : ℕ). least s t f z ≤ tilt) (sym (eqb→eq c 1 e)) (lo_one (scaled s) (65536 * t) tilt f)) (λ e. omega arith)

  pub tilted_high : (f c : ℕ) → T (fit_of s t f c) → tilted s t f c ≤ hi (scaled s) (65536 * t) tilt f c
  unfolding tilted fit_of fit
  tilted_high f c k = by_test (eqb c 1) tilt (least s t f c) (λ z. z ≤ hi (scaled s) (65536 * t) tilt f c)
      (λ e. subst (λ (z : ℕ). tilt ≤ hi (scaled s) (65536 * t) tilt f z) (sym (eqb→eq c 1 e)) (hi_one (scaled s) (65536 * t) tilt f))
      (λ e. leb→le (least s t f c) (hi (scaled s) (65536 * t) tilt f c) k)

  pub tilted-top : (f c : ℕ) → T (fit_of s t f c) → tilted s t f c ≤ 2 * tilt
  tilted-top f c k = omega (arith, tilted_high f c k, hi_top (scaled s) (65536 * t) tilt f c)

  -- the line of a run that fits, over ℕ
  tilted-fits : (f c : ℕ) → T (fit_of s t f c) → FitsN (scaled s) (65536 * t) tilt (lifted s t f c) (tilted s t f c) f c
  unfolding lifted
  tilted-fits f c k = rate-fits (scaled s) (65536 * t) tilt bound floor (tilted s t f c) f c (tilted-low f c) (tilted_high f c k)

  pub lifted-top : (f c : ℕ) → 1 ≤ c → T (fit_of s t f c) → lifted s t f c ≤ 2 * tilt
  lifted-top f c h k = omega (arith, bound (f + 0), (tilted-fits f c k 0 h).0)

  -- THE LAWS of the line that the code works out: it fits a run of which the test holds; its rate is the least, and 0 for a single sample; its offset is the
  -- least for that rate
  pub line-fits : (f c : ℕ) → T (fit_of s t f c) → Fits s t (offset_of s t f c) (rate_of_rule s t f c) f c
  unfolding offset_of rate_of_rule
  line-fits f c k = to_Z (lifted s t f c) (tilted s t f c) f c (tilted-fits f c k)

  pub rate-least : (A r : ℤ) (f c : ℕ) → 2 ≤ c → Fits s t A r f c → rate_of_rule s t f c ≤ℤ r
  unfolding rate_of_rule tilted
  rate-least A r f c h k = by_test (eqb c 1) tilt (least s t f c) (λ z. sub_ℕ z tilt ≤ℤ r)
      (λ e. let x : c ≡ 1 = eqb→eq c 1 e in absurd (omega arith))
      (λ e. subst (λ (z : ℤ). sub_ℕ (least s t f c) tilt ≤ℤ z) (sym (rate_is A r f c h k))
      (sub_le (least s t f c) tilt (plus r + tilt - minus r) tilt
      (omega (arith, least-rate (scaled s) (65536 * t) tilt bound (plus A + lift - minus A) (plus r + tilt - minus r) f c (fits-tilted A r f c h k)))))

  pub rate-alone : (f : ℕ) → rate_of_rule s t f 1 ≡ pos 0
  unfolding rate_of_rule tilted
  rate-alone f = refl

  pub offset-least : (A : ℤ) (f c : ℕ) → 1 ≤ c → Fits s t A (rate_of_rule s t f c) f c → offset_of s t f c ≤ℤ A
  unfolding offset_of rate_of_rule lifted
  offset-least A f c h k = subst (λ (z : ℤ). sub_ℕ (lifted s t f c) lift ≤ℤ z) (sym e)
      (sub_le (lifted s t f c) lift (plus A + lift - minus A) lift
      (omega (
        arith,
        off-least (scaled s) (65536 * t) tilt (plus A + lift - minus A) (tilted s t f c) f c
            (of_Z (plus A + lift - minus A) (tilted s t f c) f c (subst (λ (z : ℤ). Fits s t z (sub_ℕ (tilted s t f c) tilt) f c) e k)),
      )))
    where
      e : A ≡ sub_ℕ (plus A + lift - minus A) lift
      e = offset_is A (sub_ℕ (tilted s t f c) tilt) f c h k

  -- "A beyond ±9·10^15, r beyond ±2·10^16" never occurs
  pub rate_size : (f c : ℕ) → T (fit_of s t f c) → ∣ rate_of_rule s t f c ∣ ≤ 20_000_000_000_000_000
  unfolding rate_of_rule
  rate_size f c k = (sub_abs (tilted s t f c) tilt 20_000_000_000_000_000).1 (omega (arith, tilted-top f c k), omega arith)

  pub offset_size : (f c : ℕ) → 1 ≤ c → T (fit_of s t f c) → ∣ offset_of s t f c ∣ ≤ 9_000_000_000_000_000
  unfolding offset_of scaled
  offset_size f c h k = (sub_abs (lifted s t f c) lift 9_000_000_000_000_000).1 (
    omega (arith, (tilted-fits f c k 0 h).0, mul-zero (tilted s t f c), bias_high (sample s (f + 0)) (small (f + 0))),
    omega (arith, (tilted-fits f c k 0 h).1, mul-zero (tilted s t f c), bias-low (sample s (f + 0)) (small (f + 0))),
  )
