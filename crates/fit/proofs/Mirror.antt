-- The greatest rate is the least rate of the samples turned over.
use mathlib.Core.Path.{◌≡◌, sym, ap, ◌∙◌}
use Prim.Native.Nat.{ℕ, zero, suc, ◌+◌, ◌*◌, ◌-◌, ◌≤◌, ◌<◌}
use native.Mathlib.Nat.{add-mul, mul-one}
use mathlib.Core.Logic.{◌↔◌, ⊎_elim}
use native.Mathlib.Omega.{arith}
use Rattle.fit.specs.Rates.{low, upp, row_lo, row_hi, lo, hi, mirror}
use Rattle.fit.proofs.Pairs.{low_le, le_upp, lo_le, Above, Below}
use Rattle.fit.proofs.Tests.{lt_or}

module _ (g : ℕ → ℕ) (w N : ℕ) (bound : (i : ℕ) → g i + 2 * w ≤ N) where
  pub mirror_bound : (i : ℕ) → mirror g w N i + 2 * w ≤ N
  unfolding mirror
  mirror_bound i = omega (arith, bound i)

  upside : (p r k j : ℕ) → k < j → p + r ≡ 2 * N → Above (mirror g w N) w N r k j ↔ Below g w N p k j
  unfolding mirror
  upside p r k j h e = ((λ l. omega (arith, both, bound k, bound j)), (λ l. omega (arith, both, bound k, bound j)))
    where
      both : p * (j - k) + r * (j - k) ≡ 2 * (N * (j - k))
      both = sym (add-mul p r (j - k)) ∙ ap (λ (n : ℕ). n * (j - k)) e ∙ native.Mathlib.Nat.mul_assoc 2 N (j - k)

  one_le : (k j : ℕ) → k < j → N ≤ N * (j - k)
  one_le k j h = rw (mul-one N) at (native.Mathlib.Nat.mul-le-mul_left {m = 1} {n = j - k} N (omega arith))

  low-top : (k j : ℕ) → k < j → low (mirror g w N) w N k j ≤ 2 * N
  low-top k j h = (low_le (mirror g w N) w N (2 * N) k j h).1 ((upside 0 (2 * N) k j h (omega arith)).1 (omega (arith, native.Mathlib.Nat.zero-mul (j - k), one_le k j h, bound k)))

  upp-top : (k j : ℕ) → k < j → upp g w N k j ≤ 2 * N
  upp-top k j h = ⊎_elim
      (λ l. absurd (omega (
        arith,
        (le_upp g w N (2 * N + 1) k j h (omega (arith, bound k))).0 (omega arith),
        add-mul (2 * N) 1 (j - k),
        native.Mathlib.Nat.mul_assoc 2 N (j - k),
        native.Mathlib.Nat.one-mul (j - k),
        one_le k j h,
        bound j,
      )))
      (λ l. l) (lt_or (2 * N) (upp g w N k j))

  pub upp-mirror : (k j : ℕ) → k < j → upp g w N k j ≡ 2 * N - low (mirror g w N) w N k j
  upp-mirror k j h = omega (
    arith,
    low-top k j h,
    upp-top k j h,
    (le_upp g w N (2 * N - low (mirror g w N) w N k j) k j h (omega (arith, bound k))).1
        ((upside (2 * N - low (mirror g w N) w N k j) (low (mirror g w N) w N k j) k j h (omega (arith, low-top k j h))).0
        ((low_le (mirror g w N) w N (low (mirror g w N) w N k j) k j h).0 (omega arith))),
    (low_le (mirror g w N) w N (2 * N - upp g w N k j) k j h).1
        ((upside (upp g w N k j) (2 * N - upp g w N k j) k j h (omega (arith, upp-top k j h))).1
        ((le_upp g w N (upp g w N k j) k j h (omega (arith, bound k))).0 (omega arith))),
  )

  row_mirror : (f j m a b : ℕ) → f + m ≤ j → b ≡ 2 * N - a → row_hi g w N f j m b ≡ 2 * N - row_lo (mirror g w N) w N f j m a
  unfolding row_hi row_lo
  row_mirror f j zero a b h e = e
  row_mirror f j (suc m) a b h e = omega (arith, row_mirror f j m a b (omega arith) e, upp-mirror (f + m) j (omega arith))

  pub hi_mirror : (f c : ℕ) → hi g w N f c ≡ 2 * N - lo (mirror g w N) w N f c
  unfolding hi lo
  hi_mirror f zero = omega arith
  hi_mirror f (suc c) = row_mirror f (f + c) c (lo (mirror g w N) w N f c) (hi g w N f c) (omega arith) (hi_mirror f c)

-- no least rate is above twice the tilt
pub lo_top : (g : ℕ → ℕ) (w N : ℕ) → ((i : ℕ) → g i + 2 * w ≤ N) → (f c : ℕ) → lo g w N f c ≤ 2 * N
lo_top g w N bound f c = lo_le g w N f (2 * N) c (λ b i h k. (low_le g w N (2 * N) (f + i) (f + b) (omega arith)).1
    (omega (arith, bound (f + b), one_le g w N bound (f + i) (f + b) (omega arith), native.Mathlib.Nat.mul_assoc 2 N (f + b - (f + i)))))
