-- What a test that came out so shows, as a branch leaves it. Assumes nothing.
use mathlib.Core.Path.{◌≡◌, refl, sym, ◌∙◌}
use mathlib.Core.Bool.{Bool, true, false, not, ◌&&◌}
use mathlib.Core.Logic.{◌⊎◌, inl, inr}
use lib.Dec.{T}
use borrow.Author.Tests.{not-true, not-false}

-- a test that holds, as an equation
pub is_true : (b : Bool) → T b → b ≡ true
is_true true h = refl
is_true false h = absurd h

pub is_false : (b : Bool) → (T b → ⊥) → b ≡ false
is_false true h = absurd (h tt)
is_false false h = refl

-- `if !f(..)`, taken and left, where f promises its result as a test
pub failed : {r s : Bool} → r ≡ s → not r ≡ true → s ≡ false
failed {r} e h = sym e ∙ not-true r h

pub passed : {r s : Bool} → r ≡ s → not r ≡ false → s ≡ true
passed {r} e h = sym e ∙ not-false r h

-- two tests joined, where both hold
pub and_yes : {a b : Bool} → a ≡ true → b ≡ true → a && b ≡ true
and_yes h k = rw (h, k)

-- and where one fails
pub no_and : (a b : Bool) → a ≡ false → (a && b) ≡ false
no_and a b q = cc

pub and_no : (a b : Bool) → b ≡ false → (a && b) ≡ false
and_no true b q = q
and_no false b q = refl

-- of two tests joined one failed; Linear's `and-true` is the other half
pub and_false : (s t : Bool) → (s && t) ≡ false → (s ≡ false) ⊎ (t ≡ false)
and_false true t e = inr e
and_false false t e = inl refl

-- two tests that hold of the same are equal
pub same_test : (a b : Bool) → (a ≡ true → b ≡ true) → (b ≡ true → a ≡ true) → a ≡ b
same_test true b f g = sym (f refl)
same_test false true f g = g refl
same_test false false f g = refl
