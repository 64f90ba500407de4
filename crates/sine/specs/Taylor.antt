-- Document 01, *Sine*: "S(r) lies within 4 of 2^30 times the Taylor sum of degree 15 at (r/2^30)·(half of 3.14159265358979323846)", in exact
-- fractions. The sine's Taylor sum is x - x^3/3! + x^5/5! - .., up to the degree named.
use Rattle.std.specs.Prelude.{ℕ, zero, suc, ◌+◌, ◌*◌, ◌^◌, ◌≤◌, Bool, false, not, ℤ, pos, ◌+ℤ◌, ◌-ℤ◌, ◌*ℤ◌}
use Rattle.whole.specs.Whole.{∣◌∣, sign_of}
use Rattle.sine.specs.Sine.{S}

-- a whole number over a natural, which is never 0 in the sums below (`under-positive` of proofs/TaylorSum.antt)
pub record Fraction : Type 0 where
  pub top : ℤ
  pub under : ℕ

-- a/b + c/d = (a·d + c·b) / (b·d)
abbrev pub plus : Fraction → Fraction → Fraction
plus f g = record { top = f.top *ℤ pos g.under +ℤ g.top *ℤ pos f.under; under = f.under * g.under }

-- (r / 2^30)·(3.14159265358979323846 / 2) is `argTop r` over `argUnder`
abbrev pub arg_top : ℕ → ℕ
arg_top r = r * 314159265358979323846

abbrev pub arg_under : ℕ
arg_under = 2 ^ 30 * (2 * 10 ^ 20)

abbrev pub factorial : ℕ → ℕ
factorial zero = 1
factorial (suc n) = suc n * factorial n

abbrev pub odd? : ℕ → Bool
odd? zero = false
odd? (suc n) = not (odd? n)

-- the term of degree 2 i + 1 at x = u / d, which is x^(2 i + 1) / (2 i + 1)!, with a minus where i is odd
abbrev pub term : ℕ → ℕ → ℕ → Fraction
term u d i = record { top = sign_of (odd? i) (u ^ (2 * i + 1)); under = d ^ (2 * i + 1) * factorial (2 * i + 1) }

-- the sum of the terms of degree 1, 3, .., 2 n + 1
abbrev pub taylor : ℕ → ℕ → ℕ → Fraction
taylor u d zero = term u d 0
taylor u d (suc n) = plus (taylor u d n) (term u d (suc n))

-- s lies within e of 2^30·a/b: |s·b - 2^30·a| ≤ e·b
unfoldable pub Within : ℕ → Fraction → ℕ → Type 0
Within e f s = ∣ pos (s * f.under) -ℤ pos (2 ^ 30) *ℤ f.top ∣ ≤ e * f.under

-- the law of S, for r from 0 to 2^30: within 4 of degree 15, which is 2·7 + 1
abbrev pub farthest : ℕ
farthest = 4

abbrev pub NearTaylor : ℕ → Type 0
NearTaylor r = Within farthest (taylor (arg_top r) arg_under 7) (S r)
