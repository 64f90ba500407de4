-- Numbers of 8 bytes, the lowest first, in two's complement (document 01, 'Session file'), as they are read.
use Rattle.std.specs.Prelude.{ℕ, ◌+◌, ◌*◌, List, get_or, ℤ}
use Rattle.std.specs.Int.{w64}
use Rattle.std.proofs.Common.{to_z}

-- the number of the two, the four, the eight bytes from byte at on, the lowest first, without a sign
abbrev pub pair_at : List ℕ → ℕ → ℕ
pair_at s at = get_or s at 0 + 256 * get_or s (at + 1) 0

abbrev pub quad_at_rule : List ℕ → ℕ → ℕ
quad_at_rule s at = pair_at s at + 65536 * pair_at s (at + 2)

unfoldable pub bits_at : List ℕ → ℕ → ℕ
bits_at s at = quad_at_rule s at + 4294967296 * quad_at_rule s (at + 4)

-- the number of the eight bytes from byte at on, in two's complement
abbrev pub number_at_rule : List ℕ → ℕ → ℤ
number_at_rule s at = to_z w64 (bits_at s at)

-- word j: the number of bytes 8j to 8j + 7, without a sign
abbrev pub word : List ℕ → ℕ → ℕ
word s j = bits_at s (8 * j)
