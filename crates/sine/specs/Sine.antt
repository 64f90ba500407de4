-- Document 01, 'Earth rotation', *Sine*: S(r), and the sine and cosine of a tick, all scaled by 2^30.
use Rattle.std.specs.Prelude.{ℕ, zero, suc, ◌+◌, ◌-◌, ◌*◌, ◌/◌, ◌%◌, ◌^◌, min, List, [], ◌∷◌, ℤ, pos, neg_ℤ}

-- "y = floor(r·1,686,629,713 / 2^30)"
abbrev pub y_of_rule : ℕ → ℕ
y_of_rule r = r * 1686629713 / 2 ^ 30

-- "z = floor(y·y / 2^30)"
abbrev pub z_of : ℕ → ℕ
z_of y = y * y / 2 ^ 30

-- "h6 = 2^30 - floor(z/156)", for any first divisor
abbrev pub first_of : ℕ → ℕ → ℕ
first_of z k = 2 ^ 30 - z / k

-- "h = 2^30 - floor(z·(h before) / (k·2^30))"
abbrev pub step_of : ℕ → ℕ → ℕ → ℕ
step_of z h k = 2 ^ 30 - z * h / (k * 2 ^ 30)

-- the h that is left when the divisors of a list are taken in turn
unfoldable pub steps_of : ℕ → ℕ → List ℕ → ℕ
steps_of z h [] = h
steps_of z h (k ∷ ks) = steps_of z (step_of z h k) ks

-- "the smaller of floor(y·h1 / 2^30) and 2^30", for any first divisor and any list of those that follow
unfoldable pub s_by : ℕ → List ℕ → ℕ → ℕ
s_by k ks r = min (y_of_rule r * steps_of (z_of (y_of_rule r)) (first_of (z_of (y_of_rule r)) k) ks / 2 ^ 30) (2 ^ 30)

-- "h6 = 2^30 - floor(z/156); then h5 to h1 in turn with k = 110, 72, 42, 20, 6"
abbrev pub first_divisor : ℕ
first_divisor = 156

abbrev pub divisors : List ℕ
divisors = 110 ∷ 72 ∷ 42 ∷ 20 ∷ 6 ∷ []

unfoldable pub S : ℕ → ℕ
S r = s_by first_divisor divisors r

-- "the sine for q = 0, 1, 2, 3 is S(r), S(2^30 - r), -S(r), -S(2^30 - r)"
unfoldable pub quarter : ℕ → ℕ → ℤ
quarter zero r = pos (S r)
quarter (suc zero) r = pos (S (2 ^ 30 - r))
quarter (suc (suc zero)) r = neg_ℤ (pos (S r))
quarter (suc (suc (suc q))) r = neg_ℤ (pos (S (2 ^ 30 - r)))

-- "With tick a = q·2^30 + r, r below 2^30"
unfoldable pub sine_of : ℕ → ℤ
sine_of a = quarter (a / 2 ^ 30) (a % 2 ^ 30)

-- "The cosine of a is the sine of a + 2^30, wrapping."
unfoldable pub cosine_of : ℕ → ℤ
cosine_of a = sine_of ((a + 2 ^ 30) % 2 ^ 32)
