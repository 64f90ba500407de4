-- A range, lo ≤ z ≤ hi, as a test and as a fact; and the test whether two numbers are one.
use Rattle.std.specs.Prelude.{◌≤◌, Bool, ◌&&◌, ℤ}
use Rattle.std.specs.Int.Signed.{le_z}
use Rattle.whole.specs.Whole.{pos_part, neg_part}

abbrev pub within : ℤ → ℤ → ℤ → Bool
within lo hi z = le_z lo z && le_z z hi

-- The fact is said of what each number has above zero and below: at literals each bound is then a numeral, which `omega` reads with no rule.
pub record In (lo hi z : ℤ) : Type 0 where
  pub n_lo : neg_part z ≤ neg_part lo
  pub p_lo : pos_part lo ≤ pos_part z
  pub p_hi : pos_part z ≤ pos_part hi
  pub n_hi : neg_part hi ≤ neg_part z

-- a is b
abbrev pub eq_z : ℤ → ℤ → Bool
eq_z a b = le_z a b && le_z b a
