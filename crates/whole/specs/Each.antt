-- A test of every number below a given one, the first number that fails it, and a test that counts only where another holds.
use Rattle.std.specs.Prelude.{ℕ, zero, suc, Bool, true, false, ◌&&◌, cond, ltb}

-- p holds of each number below n
unfoldable pub all_below : ℕ → (ℕ → Bool) → Bool
all_below zero p = true
all_below (suc n) p = all_below n p && p n

-- the first number below n of which p does not hold; n where it holds of all
unfoldable pub first_not : ℕ → (ℕ → Bool) → ℕ
first_not zero p = zero
first_not (suc n) p = cond (ltb (first_not n p) n) (first_not n p) (cond (p n) (suc n) n)

-- where a holds, b holds
abbrev pub implies : Bool → Bool → Bool
implies true b = b
implies false b = true
