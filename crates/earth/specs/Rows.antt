-- Document 01, 'Tide in UT1': the 41 rows as printed there, and nothing else. Multipliers of l l' F D Ω, then A in microseconds.
use Rattle.std.specs.Prelude.{ℕ, List, [], ◌∷◌, ℤ, pos, neg_ℤ}

abbrev neg : ℕ → ℤ
neg n = neg_ℤ (pos n)

unfoldable pub rows : List (List ℤ)
rows =
    (pos 1 ∷ pos 0 ∷ pos 2 ∷ pos 2 ∷ pos 2 ∷ neg 2 ∷ []) ∷
    (pos 2 ∷ pos 0 ∷ pos 2 ∷ pos 0 ∷ pos 1 ∷ neg 4 ∷ []) ∷
    (pos 2 ∷ pos 0 ∷ pos 2 ∷ pos 0 ∷ pos 2 ∷ neg 10 ∷ []) ∷
    (pos 0 ∷ pos 0 ∷ pos 2 ∷ pos 2 ∷ pos 1 ∷ neg 5 ∷ []) ∷
    (pos 0 ∷ pos 0 ∷ pos 2 ∷ pos 2 ∷ pos 2 ∷ neg 12 ∷ []) ∷
    (pos 1 ∷ pos 0 ∷ pos 2 ∷ pos 0 ∷ pos 0 ∷ neg 4 ∷ []) ∷
    (pos 1 ∷ pos 0 ∷ pos 2 ∷ pos 0 ∷ pos 1 ∷ neg 41 ∷ []) ∷
    (pos 1 ∷ pos 0 ∷ pos 2 ∷ pos 0 ∷ pos 2 ∷ neg 99 ∷ []) ∷
    (pos 3 ∷ pos 0 ∷ pos 0 ∷ pos 0 ∷ pos 0 ∷ neg 2 ∷ []) ∷
    (neg 1 ∷ pos 0 ∷ pos 2 ∷ pos 2 ∷ pos 1 ∷ neg 8 ∷ []) ∷
    (neg 1 ∷ pos 0 ∷ pos 2 ∷ pos 2 ∷ pos 2 ∷ neg 20 ∷ []) ∷
    (pos 1 ∷ pos 0 ∷ pos 0 ∷ pos 2 ∷ pos 0 ∷ neg 8 ∷ []) ∷
    (pos 2 ∷ pos 0 ∷ pos 2 ∷ neg 2 ∷ pos 2 ∷ pos 2 ∷ []) ∷
    (pos 0 ∷ pos 1 ∷ pos 2 ∷ pos 0 ∷ pos 2 ∷ pos 3 ∷ []) ∷
    (pos 0 ∷ pos 0 ∷ pos 2 ∷ pos 0 ∷ pos 0 ∷ neg 30 ∷ []) ∷
    (pos 0 ∷ pos 0 ∷ pos 2 ∷ pos 0 ∷ pos 1 ∷ neg 321 ∷ []) ∷
    (pos 0 ∷ pos 0 ∷ pos 2 ∷ pos 0 ∷ pos 2 ∷ neg 776 ∷ []) ∷
    (pos 2 ∷ pos 0 ∷ pos 0 ∷ pos 0 ∷ neg 1 ∷ pos 2 ∷ []) ∷
    (pos 2 ∷ pos 0 ∷ pos 0 ∷ pos 0 ∷ pos 0 ∷ neg 34 ∷ []) ∷
    (pos 2 ∷ pos 0 ∷ pos 0 ∷ pos 0 ∷ pos 1 ∷ pos 2 ∷ []) ∷
    (pos 0 ∷ neg 1 ∷ pos 2 ∷ pos 0 ∷ pos 2 ∷ neg 2 ∷ []) ∷
    (pos 0 ∷ pos 0 ∷ pos 0 ∷ pos 2 ∷ neg 1 ∷ pos 5 ∷ []) ∷
    (pos 0 ∷ pos 0 ∷ pos 0 ∷ pos 2 ∷ pos 0 ∷ neg 73 ∷ []) ∷
    (pos 0 ∷ pos 0 ∷ pos 0 ∷ pos 2 ∷ pos 1 ∷ neg 5 ∷ []) ∷
    (pos 0 ∷ neg 1 ∷ pos 0 ∷ pos 2 ∷ pos 0 ∷ neg 5 ∷ []) ∷
    (pos 1 ∷ pos 0 ∷ pos 2 ∷ neg 2 ∷ pos 1 ∷ pos 5 ∷ []) ∷
    (pos 1 ∷ pos 0 ∷ pos 2 ∷ neg 2 ∷ pos 2 ∷ pos 10 ∷ []) ∷
    (pos 1 ∷ pos 1 ∷ pos 0 ∷ pos 0 ∷ pos 0 ∷ pos 4 ∷ []) ∷
    (neg 1 ∷ pos 0 ∷ pos 2 ∷ pos 0 ∷ pos 0 ∷ pos 5 ∷ []) ∷
    (neg 1 ∷ pos 0 ∷ pos 2 ∷ pos 0 ∷ pos 1 ∷ pos 18 ∷ []) ∷
    (neg 1 ∷ pos 0 ∷ pos 2 ∷ pos 0 ∷ pos 2 ∷ pos 44 ∷ []) ∷
    (pos 1 ∷ pos 0 ∷ pos 0 ∷ pos 0 ∷ neg 1 ∷ pos 53 ∷ []) ∷
    (pos 1 ∷ pos 0 ∷ pos 0 ∷ pos 0 ∷ pos 0 ∷ neg 826 ∷ []) ∷
    (pos 1 ∷ pos 0 ∷ pos 0 ∷ pos 0 ∷ pos 1 ∷ pos 54 ∷ []) ∷
    (pos 0 ∷ pos 0 ∷ pos 0 ∷ pos 1 ∷ pos 0 ∷ pos 5 ∷ []) ∷
    (pos 1 ∷ neg 1 ∷ pos 0 ∷ pos 0 ∷ pos 0 ∷ neg 6 ∷ []) ∷
    (neg 1 ∷ pos 0 ∷ pos 0 ∷ pos 2 ∷ neg 1 ∷ pos 12 ∷ []) ∷
    (neg 1 ∷ pos 0 ∷ pos 0 ∷ pos 2 ∷ pos 0 ∷ neg 182 ∷ []) ∷
    (neg 1 ∷ pos 0 ∷ pos 0 ∷ pos 2 ∷ pos 1 ∷ pos 13 ∷ []) ∷
    (pos 1 ∷ pos 0 ∷ neg 2 ∷ pos 2 ∷ neg 1 ∷ pos 2 ∷ []) ∷
    (neg 1 ∷ neg 1 ∷ pos 0 ∷ pos 2 ∷ pos 0 ∷ neg 9 ∷ []) ∷
    []
