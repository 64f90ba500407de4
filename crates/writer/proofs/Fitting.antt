-- Each number of a list fits where each that stands in it does. Assumes nothing.
use mathlib.Core.Path.{◌≡◌}
use Prim.Native.Nat.{ℕ, ◌+◌, ◌≤◌, ◌<◌}
use native.Mathlib.Omega.{arith}
use native.Mathlib.Decide.{ℕ_discrete, dec_lt}
use mathlib.Core.List.{List}
use lib.ListN.{length, get_or, get_or-eq_default}
use lib.IntN.{ℤ, pos}
use mir.Syntax.{w64}
use mir.Val.{SFits}
use Rattle.writer.specs.Round.{Longs}

more : (P : ℕ → Type 0) (i k : ℕ) → k < i + 1 → ((j : ℕ) → j < i → P j) → P i → Dec (k < i) → Dec (k ≡ i) → P k
more P i k l h p (yes m) d = h k m
more P i k l h p (no m) (yes e) = rw e p
more P i k l h p (no m) (no f) = absurd (f (omega arith))

-- one number more
pub fits_more : (zs : List ℤ) (i : ℕ) → ((j : ℕ) → j < i → SFits w64 (get_or zs j (pos 0))) → SFits w64 (get_or zs i (pos 0)) → (k : ℕ) → k < i + 1 → SFits w64 (get_or zs k (pos 0))
fits_more zs i h p k l = more (λ (j : ℕ). SFits w64 (get_or zs j (pos 0))) i k l h p (dec_lt k i) (ℕ_discrete k i)

past : (zs : List ℤ) (k : ℕ) → ((j : ℕ) → j < length zs → SFits w64 (get_or zs j (pos 0))) → Dec (k < length zs) → SFits w64 (get_or zs k (pos 0))
past zs k h (yes l) = h k l
past zs k h (no l) = let m : length zs ≤ k = omega arith in rw (get_or-eq_default zs (pos 0) m) (record { sfits = omega arith })

-- beyond the last stands 0
pub fits_all : (zs : List ℤ) → ((j : ℕ) → j < length zs → SFits w64 (get_or zs j (pos 0))) → Longs zs
fits_all zs h k = past zs k h (dec_lt k (length zs))
