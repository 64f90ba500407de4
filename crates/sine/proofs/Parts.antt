-- What the proofs of the functions cite: a step fits a word, the polynomial as the code makes it, the quarters as the code takes them.
-- Assumes nothing.
use Rattle.std.proofs.Common.{◌≡◌, ℕ, zero, suc, ◌-◌, ◌*◌, ◌/◌, ◌%◌, ◌^◌, ◌<◌, ◌≤◌, min, Bool, true, false, cond, eqb, leb, sym, refl, mul-le-mul, arith, le-leb}
use native.Mathlib.Nat.{div-le_of_le-mul}
use borrow.Author.Tests.{lt-leb}
use Rattle.whole.specs.Whole.{sign_of}
use Rattle.sine.specs.Sine.{y_of_rule, z_of, first_of, step_of, steps_of, s_by, S, quarter, sine_of}

pub step_fits : (z h k : ℕ) → z ≤ 2649352000 → h ≤ 2 ^ 30 → 3 ≤ k → z * h / (k * 2 ^ 30) ≤ 2 ^ 30
step_fits z h k a b c = div-le_of_le-mul (k * 2 ^ 30) (omega (arith, mul-le-mul a b))

pub s_is : (r y z h5 h4 h3 h2 h1 : ℕ)
    → y ≡ y_of_rule r
    → z ≡ z_of y
    → h5 ≡ step_of z (first_of z 156) 110
    → h4 ≡ step_of z h5 72
    → h3 ≡ step_of z h4 42
    → h2 ≡ step_of z h3 20
    → h1 ≡ step_of z h2 6
    → min (y * h1 / 2 ^ 30) (2 ^ 30) ≡ S r
unfolding S s_by steps_of
s_is r y z h5 h4 h3 h2 h1 ey ez e5 e4 e3 e2 e1 = simp (e1, e2, e3, e4, e5, ez, ey)

pub quarter_is : (a : ℕ) → a < 2 ^ 32 → sine_of a ≡ sign_of (leb 2 (a / 2 ^ 30)) (S (cond (eqb (a / 2 ^ 30 % 2) 1) (2 ^ 30 - a % 2 ^ 30) (a % 2 ^ 30)))
unfolding sine_of quarter
quarter_is a h = go (a / 2 ^ 30) (omega arith)
  where
    go : (q : ℕ) → q < 4 → quarter q (a % 2 ^ 30) ≡ sign_of (leb 2 q) (S (cond (eqb (q % 2) 1) (2 ^ 30 - a % 2 ^ 30) (a % 2 ^ 30)))
    go zero k = refl
    go (suc zero) k = refl
    go (suc (suc zero)) k = refl
    go (suc (suc (suc zero))) k = refl
    go (suc (suc (suc (suc q)))) k = absurd (omega arith)

-- by tests of any form for a sign and for a quarter that runs back
sign_is : (n : Bool) (q : ℕ) → (n ≡ true → 2 ≤ q) → (n ≡ false → q < 2) → leb 2 q ≡ n
sign_is true q h k = le-leb 2 q (h refl)
sign_is false q h k = lt-leb 2 q (k refl)

back_is : (b : Bool) (q : ℕ) → (b ≡ true → q % 2 ≡ 1) → (b ≡ false → q % 2 ≡ 0) → eqb (q % 2) 1 ≡ b
back_is true q h k = simp (h refl)
back_is false q h k = simp (k refl)

pub sine_by : (a : ℕ) (n b : Bool)
    → a < 2 ^ 32
    → (n ≡ true → 2 ≤ a / 2 ^ 30)
    → (n ≡ false → a / 2 ^ 30 < 2)
    → (b ≡ true → a / 2 ^ 30 % 2 ≡ 1)
    → (b ≡ false → a / 2 ^ 30 % 2 ≡ 0)
    → sign_of n (S (cond b (2 ^ 30 - a % 2 ^ 30) (a % 2 ^ 30))) ≡ sine_of a
sine_by a n b h n1 n0 b1 b0 = rw (sign_is n (a / 2 ^ 30) n1 n0, back_is b (a / 2 ^ 30) b1 b0) at (sym (quarter_is a h))
