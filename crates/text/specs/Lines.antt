-- The lines of a text, as bytes: a line feed ends each, and may be missing behind the last.
use Rattle.std.specs.Prelude.{ℕ, zero, suc, cond, List, [], ◌∷◌, eqb}

-- what stands before the first line feed; all, where there is none
unfoldable pub first_line : List ℕ → List ℕ
first_line [] = []
first_line (b ∷ bs) = cond (eqb b 10) [] (b ∷ first_line bs)

-- what stands behind it; nothing, where there is none
unfoldable pub past_line : List ℕ → List ℕ
past_line [] = []
past_line (b ∷ bs) = cond (eqb b 10) bs (past_line bs)

-- line k, counted from 0
unfoldable pub line_of : List ℕ → ℕ → List ℕ
line_of s zero = first_line s
line_of s (suc k) = line_of (past_line s) k
