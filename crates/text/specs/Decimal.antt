-- A number in decimal, as bytes of ASCII, written and read.
use Rattle.std.specs.Prelude.{ℕ, zero, suc, ◌+◌, ◌-◌, ◌*◌, ◌/◌, ◌%◌, Bool, true, cond, ◌&&◌, List, [], ◌∷◌, ◌++◌, leb, ltb, ℤ, pos, negsuc}

-- the digits of n, the most significant first: those of n / 10, where n has more than one, and then the last. There are at most k.
unfoldable pub digits_by : ℕ → ℕ → List ℕ
digits_by zero n = []
digits_by (suc k) n = cond (ltb n 10) [] (digits_by k (n / 10)) ++ ((48 + n % 10) ∷ [])

-- a natural number: no number has more digits than it has units, but for 0, which has one
unfoldable pub digits_of : ℕ → List ℕ
digits_of n = digits_by (suc n) n

-- a whole number: `-` before it where it is negative
unfoldable pub decimal : ℤ → List ℕ
decimal (pos n) = digits_of n
decimal (negsuc n) = 45 ∷ digits_of (suc n)

-- whether a byte is a digit, and whether all are
abbrev pub is_digit_rule : ℕ → Bool
is_digit_rule b = leb 48 b && leb b 57

unfoldable pub all_digits_rule : List ℕ → Bool
all_digits_rule [] = true
all_digits_rule (b ∷ bs) = is_digit_rule b && all_digits_rule bs

-- what digits say, from the left: each makes ten of what stands before it
unfoldable pub read_from_rule : ℕ → List ℕ → ℕ
read_from_rule n [] = n
read_from_rule n (d ∷ ds) = read_from_rule (10 * n + (d - 48)) ds

abbrev pub read : List ℕ → ℕ
read ds = read_from_rule 0 ds
