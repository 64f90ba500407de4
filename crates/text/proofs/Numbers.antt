-- Words read one after the other, and what holds of the bytes of any slice. Assumes nothing.
use Prim.Native.Nat.{ℕ, zero, suc, ◌<◌}
use mathlib.Core.List.{List, [], ◌∷◌}
use lib.ListN.{get_or, drop}
use Rattle.text.specs.Words.{bits_at}

-- the first n words of s
unfoldable pub numbers_of_rule : ℕ → List ℕ → List ℕ
numbers_of_rule zero s = []
numbers_of_rule (suc n) s = bits_at s 0 ∷ numbers_of_rule n (drop 8 s)

-- each element is a byte, as each of a slice of bytes is
abbrev pub Bytes : List ℕ → Type 0
Bytes s = (k : ℕ) → get_or s k 0 < 256
