-- Numbers of 8 bytes, the lowest first, in two's complement (document 01, 'Session file'), as they are written.
use Rattle.std.specs.Prelude.{ℕ, ◌+◌, ◌/◌, ◌%◌, List, [], ◌∷◌, ◌++◌, map, length, take, drop, ℤ}
use Rattle.std.specs.Int.{w64}
use Rattle.std.proofs.Common.{of_z}

-- the two, the four, the eight bytes of a word, the lowest first
abbrev pub pair_of : ℕ → List ℕ
pair_of w = w % 256 ∷ w / 256 ∷ []

abbrev pub quad_of : ℕ → List ℕ
quad_of w = pair_of (w % 65536) ++ pair_of (w / 65536)

unfoldable pub bytes_of : ℕ → List ℕ
bytes_of w = quad_of (w % 4294967296) ++ quad_of (w / 4294967296)

-- the bytes of words, one after the other
unfoldable pub bytes_of_all : List ℕ → List ℕ
bytes_of_all [] = []
bytes_of_all (w ∷ ws) = bytes_of w ++ bytes_of_all ws

-- the words of numbers, in two's complement
abbrev pub words_of : List ℤ → List ℕ
words_of zs = map (of_z w64) zs

-- d with the bytes bs from at on
unfoldable pub pasted : List ℕ → ℕ → List ℕ → List ℕ
pasted d at bs = take at d ++ (bs ++ drop (at + length bs) d)
