-- What only the inner steps of the code need; no public promise cites it.
use Rattle.std.specs.Prelude.{ℤ, pos, negsuc, ◌-ℤ◌}

-- Half of an even divisor, less 1 for a negative number: with it R(z / 2·h) is floor((z + half_for z h) / 2·h).
abbrev pub half_for : ℤ → ℤ → ℤ
half_for (pos n) h = h
half_for (negsuc n) h = h -ℤ pos 1
