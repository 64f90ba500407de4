-- The whole-number rules of document 01, 'Numbers used', over ℤ: R, floor and modulo by a positive natural.
use Rattle.std.specs.Prelude.{ℕ, suc, ◌+◌, ◌*◌, ◌-◌, ◌/◌, ◌%◌, Bool, true, false, ℤ, pos, negsuc, neg_ℤ, ◌+ℤ◌, ◌-ℤ◌, ◌*ℤ◌}

-- A whole number is what it has above zero less what it has below; one of the two is 0.
abbrev pub pos_part : ℤ → ℕ
pos_part (pos n) = n
pos_part (negsuc n) = 0

abbrev pub neg_part : ℤ → ℕ
neg_part (pos n) = 0
neg_part (negsuc n) = suc n

-- The size of a whole number, without its sign.
abbrev pub ∣◌∣ : ℤ → ℕ
∣ z ∣ = pos_part z + neg_part z

-- A size with a sign: -n where the test holds, and n where it does not.
abbrev pub sign_of : Bool → ℕ → ℤ
sign_of true n = neg_ℤ (pos n)
sign_of false n = pos n

-- The whole number nearest to a / b, a half going up.
abbrev pub near : ℕ → ℕ → ℕ
near a b = (2 * a + b) / (2 * b)

-- "R(a/b) is the nearest whole number, halves away from zero; so R(-a/b) = -R(a/b)."
abbrev pub R : ℤ → ℕ → ℤ
R (pos a) b = pos (near a b)
R (negsuc a) b = neg_ℤ (pos (near (suc a) b))

-- "Floor goes toward minus infinity": the floor of -(a + 1) / b is one below -(a / b) rounded toward zero.
abbrev pub floor_z : ℤ → ℕ → ℤ
floor_z (pos a) b = pos (a / b)
floor_z (negsuc a) b = negsuc (a / b)

-- Modulo, at least 0: what is left of z above its floor, z - floor(z / b)·b.
abbrev pub mod_z : ℤ → ℕ → ℕ
mod_z (pos a) b = a % b
mod_z (negsuc a) b = b - suc (a % b)

-- 'Day values': v0 + R((v1 - v0)·u / 86,400,000).
abbrev pub line : ℤ → ℤ → ℤ → ℤ
line v0 v1 u = v0 +ℤ R ((v1 -ℤ v0) *ℤ u) 86400000
