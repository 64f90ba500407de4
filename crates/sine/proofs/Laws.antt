-- The laws of the sine and the cosine that the crates above cite: one value, size and symmetry. Assumes nothing.
use Rattle.std.proofs.Common.{◌≡◌, ℕ, zero, suc, ◌+◌, ◌-◌, ◌*◌, ◌/◌, ◌%◌, ◌^◌, ◌<◌, ◌≤◌, ℤ, pos, neg_ℤ, sym, refl, ap, ◌∙◌, arith}
use lib.IntN.{neg_ℤ-neg_ℤ}
use Rattle.whole.specs.Whole.{∣◌∣}
use Rattle.whole.proofs.Linear.{pos_part-neg, neg_part-neg}
use Rattle.sine.specs.Sine.{steps_of, s_by, S, quarter, sine_of, cosine_of}
use Rattle.sine.specs.Promises.{SinePromise, CosinePromise}

-- ---- any two results that a promise allows are equal
pub sine-one : (a : ℕ) (r s : ℤ) → SinePromise a r → SinePromise a s → r ≡ s
sine-one a r s p q = p ∙ sym q

pub cosine_one : (a : ℕ) (r s : ℤ) → CosinePromise a r → CosinePromise a s → r ≡ s
cosine_one a r s p q = p ∙ sym q

-- ---- at most 2^30 either side
pub S_most : (r : ℕ) → S r ≤ 2 ^ 30
unfolding S s_by
S_most r = omega arith

quarter_size : (q r : ℕ) → ∣ quarter q r ∣ ≤ 2 ^ 30
unfolding quarter
quarter_size zero r = omega (arith, S_most r)
quarter_size (suc zero) r = omega (arith, S_most (2 ^ 30 - r))
quarter_size (suc (suc zero)) r = omega (arith, S_most r, pos_part-neg (pos (S r)), neg_part-neg (pos (S r)))
quarter_size (suc (suc (suc q))) r = omega (arith, S_most (2 ^ 30 - r), pos_part-neg (pos (S (2 ^ 30 - r))), neg_part-neg (pos (S (2 ^ 30 - r))))

pub sine_size : (a : ℕ) → ∣ sine_of a ∣ ≤ 2 ^ 30
unfolding sine_of
sine_size a = quarter_size (a / 2 ^ 30) (a % 2 ^ 30)

pub cosine_size : (a : ℕ) → ∣ cosine_of a ∣ ≤ 2 ^ 30
unfolding cosine_of
cosine_size a = sine_size ((a + 2 ^ 30) % 2 ^ 32)

-- ---- half a turn negates
half_quarter : (q r q' r' : ℕ) → q < 4 → r' ≡ r → q' ≡ (q + 2) % 4 → quarter q' r' ≡ neg_ℤ (quarter q r)
unfolding quarter
half_quarter zero r q' r' h e f = rw (e, f)
half_quarter (suc zero) r q' r' h e f = rw (e, f)
half_quarter (suc (suc zero)) r q' r' h e f = rw (e, f) (sym (neg_ℤ-neg_ℤ (pos (S r))))
half_quarter (suc (suc (suc zero))) r q' r' h e f = rw (e, f) (sym (neg_ℤ-neg_ℤ (pos (S (2 ^ 30 - r)))))
half_quarter (suc (suc (suc (suc q)))) r q' r' h e f = absurd (omega arith)

pub sine_half : (a : ℕ) → a < 2 ^ 32 → sine_of ((a + 2 ^ 31) % 2 ^ 32) ≡ neg_ℤ (sine_of a)
unfolding sine_of
sine_half a h =
    let b = (a + 2 ^ 31) % 2 ^ 32 in
    half_quarter (a / 2 ^ 30) (a % 2 ^ 30) (b / 2 ^ 30) (b % 2 ^ 30) (omega arith) (omega arith) (omega arith)

-- ---- the sine is odd: the opposite tick, at a quarter's start and inside it
S_zero : S 0 ≡ 0
unfolding S s_by steps_of
S_zero = refl

at_start : (q : ℕ) → q < 4 → quarter ((4 - q) % 4) 0 ≡ neg_ℤ (quarter q 0)
unfolding quarter
at_start zero k = simp S_zero
at_start (suc zero) k = refl
at_start (suc (suc zero)) k = simp S_zero
at_start (suc (suc (suc zero))) k = sym (neg_ℤ-neg_ℤ (pos (S (2 ^ 30))))
at_start (suc (suc (suc (suc q)))) k = absurd (omega arith)

inside : (q r : ℕ) → q < 4 → r < 2 ^ 30 → quarter (3 - q) (2 ^ 30 - r) ≡ neg_ℤ (quarter q r)
unfolding quarter
inside zero r k l = let e : 2 ^ 30 - (2 ^ 30 - r) ≡ r = omega arith in rw e
inside (suc zero) r k l = refl
inside (suc (suc zero)) r k l = let e : 2 ^ 30 - (2 ^ 30 - r) ≡ r = omega arith in rw e (sym (neg_ℤ-neg_ℤ (pos (S r))))
inside (suc (suc (suc zero))) r k l = sym (neg_ℤ-neg_ℤ (pos (S (2 ^ 30 - r))))
inside (suc (suc (suc (suc q)))) r k l = absurd (omega arith)

odd_by : (b q r q' r' : ℕ)
    → q < 4
    → r < 2 ^ 30
    → b ≡ q' * 2 ^ 30 + r'
    → r' < 2 ^ 30
    → b ≡ (2 ^ 32 - (q * 2 ^ 30 + r)) % 2 ^ 32
    → quarter q' r' ≡ neg_ℤ (quarter q r)
odd_by b q zero q' r' k l e m f =
    let e1 : q' ≡ (4 - q) % 4 = omega arith in
    let e2 : r' ≡ 0 = omega arith in
    rw (e1, e2) (at_start q k)
odd_by b q (suc r) q' r' k l e m f =
    let e1 : q' ≡ 3 - q = omega arith in
    let e2 : r' ≡ 2 ^ 30 - suc r = omega arith in
    rw (e1, e2) (inside q (suc r) k l)

pub sine_odd : (a : ℕ) → a < 2 ^ 32 → sine_of ((2 ^ 32 - a) % 2 ^ 32) ≡ neg_ℤ (sine_of a)
unfolding sine_of
sine_odd a h =
    let b = (2 ^ 32 - a) % 2 ^ 32 in
    odd_by b (a / 2 ^ 30) (a % 2 ^ 30) (b / 2 ^ 30) (b % 2 ^ 30) (omega arith) (omega arith) (omega arith) (omega arith) (omega arith)

-- ---- the cosine: half a turn negates it, and it is even
pub cosine_half : (a : ℕ) → a < 2 ^ 32 → cosine_of ((a + 2 ^ 31) % 2 ^ 32) ≡ neg_ℤ (cosine_of a)
unfolding cosine_of
cosine_half a h =
    let e : ((a + 2 ^ 31) % 2 ^ 32 + 2 ^ 30) % 2 ^ 32 ≡ ((a + 2 ^ 30) % 2 ^ 32 + 2 ^ 31) % 2 ^ 32 = omega arith in
    rw e (sine_half ((a + 2 ^ 30) % 2 ^ 32) (omega arith))

-- both symmetries negate, so the sine of a + 2^30 is that of 2^31 - (a + 2^30) = 2^30 - a
same_tick : (x y i j : ℕ) → x + 2 ^ 32 * i ≡ y + 2 ^ 32 * j → x % 2 ^ 32 ≡ y % 2 ^ 32
same_tick x y i j e = omega arith

back : (b : ℕ) → b < 2 ^ 32 → b + (2 ^ 32 - b) % 2 ^ 32 ≡ 2 ^ 32 * ((b + (2 ^ 32 - b) % 2 ^ 32) / 2 ^ 32)
back b h = omega arith

mirror : (a b c d i j k : ℕ) → b + 2 ^ 32 * k ≡ a + 2 ^ 30 → b + c ≡ 2 ^ 32 * i → a + d ≡ 2 ^ 32 * j → (c + 2 ^ 31) % 2 ^ 32 ≡ (d + 2 ^ 30) % 2 ^ 32
mirror a b c d i j k e f g = same_tick (c + 2 ^ 31) (d + 2 ^ 30) j (i + k) (omega arith)

pub cosine_even : (a : ℕ) → a < 2 ^ 32 → cosine_of ((2 ^ 32 - a) % 2 ^ 32) ≡ cosine_of a
unfolding cosine_of
cosine_even a h =
    let b = (a + 2 ^ 30) % 2 ^ 32 in
    let c = (2 ^ 32 - b) % 2 ^ 32 in
    let d = (2 ^ 32 - a) % 2 ^ 32 in
    rw (← mirror a b c d ((b + c) / 2 ^ 32) ((a + d) / 2 ^ 32) ((a + 2 ^ 30) / 2 ^ 32) (omega arith) (back b (omega arith)) (back a h))
    (sine_half c (omega arith) ∙ ap neg_ℤ (sine_odd b (omega arith)) ∙ neg_ℤ-neg_ℤ (sine_of b))
