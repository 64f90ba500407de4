-- The rates that pairs of samples leave, over ℕ: some line fits a run exactly if the least rate of its pairs is no more than the greatest.
use mathlib.Core.Path.{◌≡◌, refl, sym, ap, subst, ◌∙◌}
use mathlib.Core.Bool.{Bool, true, false, not}
use Prim.Native.Nat.{ℕ, zero, suc, ◌+◌, ◌*◌, ◌/◌, ◌-◌, ◌≤◌, ◌<◌}
use native.Mathlib.Nat.{le-div_iff_mul-le, div-lt_iff_lt-mul, mul-add, mul-one, mul-zero}
use mathlib.Core.Logic.{◌↔◌, ⊎_elim}
use native.Mathlib.Omega.{arith}
use lib.Dec.{T, leb→le, le→leb, ltb, ltb→lt, nltb→le}
use Rattle.fit.specs.Rates.{low, upp, row_lo, row_hi, lo, hi, fit, off}
use Rattle.fit.proofs.Tests.{last_or}

-- the line of offset a and rate p is within w of each of the c samples from f
abbrev pub FitsN : (ℕ → ℕ) → ℕ → ℕ → ℕ → ℕ → ℕ → ℕ → Type 0
FitsN g w N a p f c = (j : ℕ) → j < c → (a + p * j ≤ N * j + g (f + j) + w) × (N * j + g (f + j) ≤ a + p * j + w)

-- the two bounds that two samples put on a rate
abbrev pub Above : (ℕ → ℕ) → ℕ → ℕ → ℕ → ℕ → ℕ → Type 0
Above g w N p k j = N * (j - k) + g j ≤ p * (j - k) + (g k + 2 * w)

abbrev pub Below : (ℕ → ℕ) → ℕ → ℕ → ℕ → ℕ → ℕ → Type 0
Below g w N p k j = p * (j - k) + g k ≤ N * (j - k) + g j + 2 * w

module _ (g : ℕ → ℕ) (w N : ℕ) where
  pub low_le : (p k j : ℕ) → k < j → (low g w N k j ≤ p) ↔ Above g w N p k j
  unfolding low
  low_le p k j h = (fore, back)
    where
      d : 0 < j - k
      d = omega arith

      fore : (N * (j - k) + g j - (g k + 2 * w) + (j - k) - 1) / (j - k) ≤ p → Above g w N p k j
      fore l = omega (arith, (div-lt_iff_lt-mul {k = j - k} {x = N * (j - k) + g j - (g k + 2 * w) + (j - k) - 1} {y = suc p} d).0 (omega arith), mul_s p (j - k))
        where
          mul_s : (p d : ℕ) → suc p * d ≡ p * d + d
          mul_s p d = native.Mathlib.Nat.suc-mul p d

      back : Above g w N p k j → (N * (j - k) + g j - (g k + 2 * w) + (j - k) - 1) / (j - k) ≤ p
      back l = omega (arith, (div-lt_iff_lt-mul {k = j - k} {x = N * (j - k) + g j - (g k + 2 * w) + (j - k) - 1} {y = suc p} d).1 (omega (arith, native.Mathlib.Nat.suc-mul p (j - k))))

  pub le_upp : (p k j : ℕ) → k < j → g k ≤ N → (p ≤ upp g w N k j) ↔ Below g w N p k j
  unfolding upp
  le_upp p k j h b = (fore, back)
    where
      d : 0 < j - k
      d = omega arith

      big : N ≤ N * (j - k)
      big = rw (mul-one N) at (native.Mathlib.Nat.mul-le-mul_left {m = 1} {n = j - k} N d)

      fore : p ≤ (N * (j - k) + g j + 2 * w - g k) / (j - k) → Below g w N p k j
      fore l = omega (arith, big, (le-div_iff_mul-le {k = j - k} {x = p} {y = N * (j - k) + g j + 2 * w - g k} d).0 l)

      back : Below g w N p k j → p ≤ (N * (j - k) + g j + 2 * w - g k) / (j - k)
      back l = (le-div_iff_mul-le {k = j - k} {x = p} {y = N * (j - k) + g j + 2 * w - g k} d).1 (omega (arith, big))

module _ (g : ℕ → ℕ) (w N f : ℕ) where
  pub row_lo_acc : (j m acc : ℕ) → acc ≤ row_lo g w N f j m acc
  unfolding row_lo
  row_lo_acc j zero acc = omega arith
  row_lo_acc j (suc m) acc = omega (arith, row_lo_acc j m acc)

  pub row_lo_at : (j m acc i : ℕ) → i < m → low g w N (f + i) j ≤ row_lo g w N f j m acc
  unfolding row_lo
  row_lo_at j zero acc i h = absurd (omega arith)
  row_lo_at j (suc m) acc i h = ⊎_elim (λ l. omega (arith, row_lo_at j m acc i l)) (λ e. omega (arith, ap (λ (z : ℕ). low g w N (f + z) j) e)) (last_or i m h)

  pub row_lo_le : (p j m acc : ℕ) → acc ≤ p → ((i : ℕ) → i < m → low g w N (f + i) j ≤ p) → row_lo g w N f j m acc ≤ p
  unfolding row_lo
  row_lo_le p j zero acc h k = h
  row_lo_le p j (suc m) acc h k = omega (arith, row_lo_le p j m acc h (λ i l. k i (omega arith)), k m (omega arith))

  row_hi_acc : (j m acc : ℕ) → row_hi g w N f j m acc ≤ acc
  unfolding row_hi
  row_hi_acc j zero acc = omega arith
  row_hi_acc j (suc m) acc = omega (arith, row_hi_acc j m acc)

  row_hi_at : (j m acc i : ℕ) → i < m → row_hi g w N f j m acc ≤ upp g w N (f + i) j
  unfolding row_hi
  row_hi_at j zero acc i h = absurd (omega arith)
  row_hi_at j (suc m) acc i h = ⊎_elim (λ l. omega (arith, row_hi_at j m acc i l)) (λ e. omega (arith, ap (λ (z : ℕ). upp g w N (f + z) j) e)) (last_or i m h)

  le_row_hi : (p j m acc : ℕ) → p ≤ acc → ((i : ℕ) → i < m → p ≤ upp g w N (f + i) j) → p ≤ row_hi g w N f j m acc
  unfolding row_hi
  le_row_hi p j zero acc h k = h
  le_row_hi p j (suc m) acc h k = omega (arith, le_row_hi p j m acc h (λ i l. k i (omega arith)), k m (omega arith))

  -- the bounds over the c samples from f
  lo_at : (c b i : ℕ) → b < c → i < b → low g w N (f + i) (f + b) ≤ lo g w N f c
  unfolding lo
  lo_at zero b i h k = absurd (omega arith)
  lo_at (suc c) b i h k = ⊎_elim
      (λ l. omega (arith, lo_at c b i l k, row_lo_acc (f + c) c (lo g w N f c)))
      (λ e. subst (λ (z : ℕ). low g w N (f + i) (f + z) ≤ row_lo g w N f (f + c) c (lo g w N f c)) (sym e) (row_lo_at (f + c) c (lo g w N f c) i (omega arith)))
      (last_or b c h)

  pub lo_le : (p c : ℕ) → ((b i : ℕ) → b < c → i < b → low g w N (f + i) (f + b) ≤ p) → lo g w N f c ≤ p
  unfolding lo
  lo_le p zero k = omega arith
  lo_le p (suc c) k = row_lo_le p (f + c) c (lo g w N f c) (lo_le p c (λ b i h l. k b i (omega arith) l)) (λ i h. k c i (omega arith) h)

  pub hi_top : (c : ℕ) → hi g w N f c ≤ 2 * N
  unfolding hi
  hi_top zero = omega arith
  hi_top (suc c) = omega (arith, hi_top c, row_hi_acc (f + c) c (hi g w N f c))

  hi_at : (c b i : ℕ) → b < c → i < b → hi g w N f c ≤ upp g w N (f + i) (f + b)
  unfolding hi
  hi_at zero b i h k = absurd (omega arith)
  hi_at (suc c) b i h k = ⊎_elim
      (λ l. omega (arith, hi_at c b i l k, row_hi_acc (f + c) c (hi g w N f c)))
      (λ e. subst (λ (z : ℕ). row_hi g w N f (f + c) c (hi g w N f c) ≤ upp g w N (f + i) (f + z)) (sym e) (row_hi_at (f + c) c (hi g w N f c) i (omega arith)))
      (last_or b c h)

  le_hi : (p c : ℕ) → p ≤ 2 * N → ((b i : ℕ) → b < c → i < b → p ≤ upp g w N (f + i) (f + b)) → p ≤ hi g w N f c
  unfolding hi
  le_hi p zero t k = t
  le_hi p (suc c) t k = le_row_hi p (f + c) c (hi g w N f c) (le_hi p c t (λ b i h l. k b i (omega arith) l)) (λ i h. k c i (omega arith) h)

module _ (g : ℕ → ℕ) (w N : ℕ) where
  -- one sample fits, and so does each part of a run that fits
  pub fit-one : (s : ℕ) → T (fit g w N s 1)
  unfolding fit lo hi row_lo row_hi
  fit-one s = le→leb 0 (2 * N) (omega arith)

  pub fit_part : (s c k d : ℕ) → 1 ≤ d → k + d ≤ c → T (fit g w N s c) → T (fit g w N (s + k) d)
  unfolding fit
  fit_part s c k d p h t = le→leb (lo g w N (s + k) d) (hi g w N (s + k) d) (omega (arith, less, more, leb→le (lo g w N s c) (hi g w N s c) t))
    where
      assoc : (a b c : ℕ) → a + (b + c) ≡ a + b + c
      assoc a b c = omega arith

      less : lo g w N (s + k) d ≤ lo g w N s c
      less = lo_le g w N (s + k) (lo g w N s c) d (λ b i l m. rw (assoc s k i, assoc s k b) at (lo_at g w N s c (k + b) (k + i) (omega arith) (omega arith)))

      more : hi g w N s c ≤ hi g w N (s + k) d
      more = le_hi g w N (s + k) (hi g w N s c) d (hi_top g w N s c) (λ b i l m. rw (assoc s k i, assoc s k b) at (hi_at g w N s c (k + b) (k + i) (omega arith) (omega arith)))

-- the two bounds, with no difference in them
abbrev pub Pair : (ℕ → ℕ) → ℕ → ℕ → ℕ → ℕ → ℕ → ℕ → Type 0
Pair g w N p f i b = (N * b + g (f + b) + p * i ≤ p * b + N * i + g (f + i) + 2 * w) × (p * b + N * i + g (f + i) ≤ N * b + p * i + g (f + b) + 2 * w)

off_at : (g : ℕ → ℕ) (w N p f c j : ℕ) → j < c → N * j + g (f + j) - (w + p * j) ≤ off g w N p f c
unfolding off
off_at g w N p f zero j h = absurd (omega arith)
off_at g w N p f (suc c) j h = ⊎_elim (λ l. omega (arith, off_at g w N p f c j l))
    (λ e. omega (arith, ap (λ (z : ℕ). N * z + g (f + z) - (w + p * z)) e)) (last_or j c h)

off_le : (g : ℕ → ℕ) (w N p f c a : ℕ) → ((j : ℕ) → j < c → N * j + g (f + j) - (w + p * j) ≤ a) → off g w N p f c ≤ a
unfolding off
off_le g w N p f zero a h = omega arith
off_le g w N p f (suc c) a h = omega (arith, off_le g w N p f c a (λ j l. h j (omega arith)), h c (omega arith))

-- the offset is the least
pub off-least : (g : ℕ → ℕ) (w N a p f c : ℕ) → FitsN g w N a p f c → off g w N p f c ≤ a
off-least g w N a p f c h = off_le g w N p f c a (λ j l. omega (arith, (h j l).1))

pub split : (p i b z : ℕ) → b ≡ i + z → p * b ≡ p * i + p * z
split p i b z e = ap (λ (t : ℕ). p * t) e ∙ mul-add p i z

module _ (g : ℕ → ℕ) (w N : ℕ) (bound : (i : ℕ) → g i + 2 * w ≤ N) where
  pair_of : (p f c i b : ℕ) → lo g w N f c ≤ p → p ≤ hi g w N f c → i < b → b < c → Pair g w N p f i b
  pair_of p f c i b l u h k =
      let z : ℕ = (f + b) - (f + i) in
      let e : b ≡ i + z = omega arith in
      let x : Above g w N p (f + i) (f + b) = (low_le g w N p (f + i) (f + b) (omega arith)).0 (omega (arith, lo_at g w N f c b i k h)) in
      let y : Below g w N p (f + i) (f + b) = (le_upp g w N p (f + i) (f + b) (omega arith) (omega (arith, bound (f + i)))).0 (omega (arith, hi_at g w N f c b i k h)) in
      (omega (arith, split p i b z e, split N i b z e), omega (arith, split p i b z e, split N i b z e))

  lo_of : (p f c : ℕ) → ((b i : ℕ) → b < c → i < b → Pair g w N p f i b) → lo g w N f c ≤ p
  lo_of p f c h = lo_le g w N f p c (λ b i k l.
      let z : ℕ = (f + b) - (f + i) in
      let e : b ≡ i + z = omega arith in
      (low_le g w N p (f + i) (f + b) (omega arith)).1 (omega (arith, (h b i k l).0, split p i b z e, split N i b z e)))

  hi_of : (p f c : ℕ) → p ≤ 2 * N → ((b i : ℕ) → b < c → i < b → Pair g w N p f i b) → p ≤ hi g w N f c
  hi_of p f c t h = le_hi g w N f p c t (λ b i k l.
      let z : ℕ = (f + b) - (f + i) in
      let e : b ≡ i + z = omega arith in
      (le_upp g w N p (f + i) (f + b) (omega arith) (omega (arith, bound (f + i)))).1 (omega (arith, (h b i k l).1, split p i b z e, split N i b z e)))

  -- a line that fits has a rate between the bounds
  fits_pair : (a p f c : ℕ) → FitsN g w N a p f c → (b i : ℕ) → b < c → i < b → Pair g w N p f i b
  fits_pair a p f c h b i k l = let x = h b k in let y = h i (omega arith) in (omega arith, omega arith)

  pub least-rate : (a p f c : ℕ) → FitsN g w N a p f c → lo g w N f c ≤ p
  least-rate a p f c h = lo_of p f c (fits_pair a p f c h)

  pub rate-most : (a p f c : ℕ) → 2 ≤ c → FitsN g w N a p f c → p ≤ hi g w N f c
  rate-most a p f c d h = hi_of p f c top (fits_pair a p f c h)
    where
      top : p ≤ 2 * N
      top = omega (arith, h 0 (omega arith), h 1 (omega arith), mul-one p, mul-one N, native.Mathlib.Nat.mul-zero p, native.Mathlib.Nat.mul-zero N, bound (f + 0), bound (f + 1))

  -- where some line fits, the test passes
  pub fit_complete : (a p f c : ℕ) → 2 ≤ c → FitsN g w N a p f c → T (fit g w N f c)
  unfolding fit
  fit_complete a p f c d h = le→leb (lo g w N f c) (hi g w N f c) (omega (arith, least-rate a p f c h, rate-most a p f c d h))

  -- each rate between the bounds fits, with the least offset
  module _ (floor : (i : ℕ) → w ≤ g i) where
    pub rate-fits : (p f c : ℕ) → lo g w N f c ≤ p → p ≤ hi g w N f c → FitsN g w N (off g w N p f c) p f c
    rate-fits p f c l u j h = (omega (arith, under, upper), omega (arith, off_at g w N p f c j h))
      where
        under : p * j ≤ N * j + g (f + j) + w
        under = go (ltb 0 j) refl
          where
            go : (b : Bool) → b ≡ ltb 0 j → p * j ≤ N * j + g (f + j) + w
            go true e = let k : 0 < j = ltb→lt 0 j (subst T e tt) in
                omega (arith, (pair_of p f c 0 j l u k h).1, native.Mathlib.Nat.mul-zero p, native.Mathlib.Nat.mul-zero N, floor (f + 0))
            go false e = let k : j ≤ 0 = nltb→le 0 j (subst (λ (b : Bool). T (not b)) e tt) in
                let z : j ≡ 0 = omega arith in
                omega (arith, ap (λ (t : ℕ). p * t) z, native.Mathlib.Nat.mul-zero p)

        each : (i : ℕ) → i < c → N * i + g (f + i) - (w + p * i) ≤ N * j + g (f + j) + w - p * j
        each i k = go (ltb i j) (ltb j i) refl refl
          where
            go : (x y : Bool) → x ≡ ltb i j → y ≡ ltb j i → N * i + g (f + i) - (w + p * i) ≤ N * j + g (f + j) + w - p * j
            go true y d e = omega (arith, (pair_of p f c i j l u (ltb→lt i j (subst T d tt)) h).1, under)
            go false true d e = omega (arith, (pair_of p f c j i l u (ltb→lt j i (subst T e tt)) k).0, under)
            go false false d e =
                let m : j ≤ i = nltb→le i j (subst (λ (b : Bool). T (not b)) d tt) in
                let n : i ≤ j = nltb→le j i (subst (λ (b : Bool). T (not b)) e tt) in
                let z : i ≡ j = omega arith in
                omega (arith, ap (λ (t : ℕ). N * t) z, ap (λ (t : ℕ). p * t) z, ap (λ (t : ℕ). g (f + t)) z, under)

        upper : off g w N p f c ≤ N * j + g (f + j) + w - p * j
        upper = off_le g w N p f c (N * j + g (f + j) + w - p * j) each

-- one sample leaves every rate
pub lo_one : (g : ℕ → ℕ) (w N f : ℕ) → lo g w N f 1 ≤ N
unfolding lo row_lo
lo_one g w N f = omega arith

pub hi_one : (g : ℕ → ℕ) (w N f : ℕ) → N ≤ hi g w N f 1
unfolding hi row_hi
hi_one g w N f = omega arith

-- two samples always leave a rate
pub fit-two : (g : ℕ → ℕ) (w N : ℕ) → ((i : ℕ) → g i + 2 * w ≤ N) → (f : ℕ) → T (fit g w N f 2)
fit-two g w N bound f = fit_complete g w N bound a p f 2 (omega arith) fits
  where
    a : ℕ
    a = g (f + 0)

    p : ℕ
    p = N + g (f + 1) - g (f + 0)

    fits : FitsN g w N a p f 2
    fits zero h = omega (arith, mul-zero N, mul-zero p)
    fits (suc zero) h = omega (arith, mul-one N, mul-one p, bound (f + 0))
    fits (suc (suc j)) h = absurd (omega arith)
