-- Lines of numbers, as bytes of ASCII: how the programs print an answer, and a refusal.
use Rattle.std.specs.Prelude.{ℕ, zero, suc, ◌*◌, List, [], ◌∷◌, ◌++◌, ℤ, take, drop}
use Rattle.text.specs.Decimal.{decimal}

-- numbers with one space between, ended by a line feed
unfoldable pub line_of : ℤ → List ℤ → List ℕ
line_of z [] = decimal z ++ (10 ∷ [])
line_of z (y ∷ ys) = decimal z ++ (32 ∷ []) ++ line_of y ys

-- the same for a list; of no number, an empty line
unfoldable pub row_line : List ℤ → List ℕ
row_line [] = 10 ∷ []
row_line (z ∷ zs) = line_of z zs

-- the first m rows of a list that has w numbers in a row, a line each
unfoldable pub row_lines : ℕ → List ℤ → ℕ → List ℕ
row_lines w zs zero = []
row_lines w zs (suc m) = row_lines w zs m ++ row_line (take w (drop (w * m) zs))

-- `refused` and the number
unfoldable pub refused_line : ℤ → List ℕ
refused_line n = (114 ∷ 101 ∷ 102 ∷ 117 ∷ 115 ∷ 101 ∷ 100 ∷ 32 ∷ []) ++ line_of n []
