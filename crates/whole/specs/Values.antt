-- The values of a rule, one after another, and its lists.
use Rattle.std.specs.Prelude.{ℕ, zero, suc, List, [], ◌∷◌, ◌++◌, ℤ}

-- f 0 to f (n - 1)
unfoldable pub first_values : ℕ → (ℕ → ℤ) → List ℤ
first_values zero f = []
first_values (suc n) f = first_values n f ++ (f n ∷ [])

-- the lists f 0 to f (n - 1), one after the other
unfoldable pub joined : {A : Type 0} → ℕ → (ℕ → List A) → List A
joined zero f = []
joined (suc n) f = joined n f ++ f n
