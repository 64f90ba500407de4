-- Where the numbers stand in their order the lowest that applies is the first, as the code comes to it test by test. Assumes nothing.
use mathlib.Core.Path.{◌≡◌, refl, sym, ◌∙◌}
use mathlib.Core.Bool.{Bool, true, false}
use mathlib.Core.List.{List, [], ◌∷◌}
use Prim.Native.Nat.{ℕ, zero, suc, min, ◌≤◌, ◌<◌}
use native.Mathlib.Omega.{arith}
use Rattle.whole.specs.Refusals.{unless, lower_of, lowest, first_of}

-- each number that is given is from `low` on, and none behind it can be lower
pub data InOrder : ℕ → List ℕ → Type 0 where
  end : {low : ℕ} → InOrder low []
  some : {low n : ℕ} {ns : List ℕ} (high : ℕ) → low ≤ high → ((n ≡ 0 → ⊥) → (low ≤ n) × (n ≤ high)) → InOrder high ns → InOrder low (n ∷ ns)

-- a test with its number, and a number that is at most k
pub test : {ns : List ℕ} (low k : ℕ) (b : Bool) → low ≤ k → InOrder k ns → InOrder low (unless b k ∷ ns)
test low k true h r = some k h (λ g. absurd (g refl)) r
test low k false h r = some k h (λ g. (h, omega arith)) r

pub up_to : {ns : List ℕ} (n k : ℕ) → n ≤ k → InOrder k ns → InOrder 0 (n ∷ ns)
up_to n k h r = some {low = 0} {n = n} k (omega arith) (λ g. (omega arith, h)) r

from_low : (low : ℕ) (ns : List ℕ) → InOrder low ns → (lowest ns ≡ 0 → ⊥) → low ≤ lowest ns
from_low low [] end g = absurd (g refl)
from_low low (zero ∷ ns) (some high l f r) g = omega (arith, from_low high ns r g)
from_low low (suc n ∷ ns) (some high l f r) g = by (lowest ns) (from_low high ns r)
  where
    by : (m : ℕ) → ((m ≡ 0 → ⊥) → high ≤ m) → low ≤ lower_of (suc n) m
    by zero h = (f (λ e. omega arith)).0
    by (suc m) h = omega (arith, (f (λ e. omega arith)).0, h (λ e. omega arith))

-- the first of two numbers comes first where the second is none, or no lower
pub lower_first : (n m : ℕ) → ((m ≡ 0 → ⊥) → suc n ≤ m) → lower_of (suc n) m ≡ suc n
lower_first n zero h = refl
lower_first n (suc m) h = omega (arith, h (λ e. omega arith))

ordered : (low : ℕ) (ns : List ℕ) → InOrder low ns → lowest ns ≡ first_of ns
ordered low [] end = refl
ordered low (zero ∷ ns) (some high l f r) = ordered high ns r
ordered low (suc n ∷ ns) (some high l f r) =
    lower_first n (lowest ns) (λ g. omega (arith, (f (λ e. omega arith)).1, from_low high ns r g))

pub in_order : {low : ℕ} {ns : List ℕ} → InOrder low ns → lowest ns ≡ first_of ns
in_order {low = low} {ns = ns} r = ordered low ns r

-- ---- no number is given exactly where no test fails

pub unless_zero : (b : Bool) (n : ℕ) → unless b (suc n) ≡ 0 → b ≡ true
unless_zero true n e = refl
unless_zero false n e = absurd (omega arith)

pub first_zero : (n : ℕ) (ns : List ℕ) → first_of (n ∷ ns) ≡ 0 → (n ≡ 0) × (first_of ns ≡ 0)
first_zero zero ns e = (refl, e)
first_zero (suc n) ns e = absurd (omega arith)

-- the number that applies stands before all that follow
pub first_is : (n : ℕ) (ns : List ℕ) → (n ≡ 0 → ⊥) → first_of (n ∷ ns) ≡ n
first_is zero ns g = absurd (g refl)
first_is (suc n) ns g = refl

-- one number alone; and numbers behind one, judged by themselves
pub first_one : (n : ℕ) → first_of (n ∷ []) ≡ n
first_one zero = refl
first_one (suc n) = refl

pub first_then : (n : ℕ) (ns : List ℕ) → first_of (n ∷ first_of ns ∷ []) ≡ first_of (n ∷ ns)
first_then zero ns = first_one (first_of ns)
first_then (suc n) ns = refl

-- ---- two numbers joined to their lower one

pub lower_none : (a : ℕ) → lower_of a 0 ≡ a
lower_none zero = refl
lower_none (suc a) = refl

both_given : (a b : ℕ) → 0 < a → 0 < b → lower_of a b ≡ min a b
both_given zero b h k = absurd (omega arith)
both_given (suc a) zero h k = absurd (omega arith)
both_given (suc a) (suc b) h k = refl

lower_assoc : (a b c : ℕ) → lower_of a (lower_of b c) ≡ lower_of (lower_of a b) c
lower_assoc zero b c = refl
lower_assoc (suc a) zero c = refl
lower_assoc (suc a) (suc b) zero = sym (lower_none (min (suc a) (suc b)))
lower_assoc (suc a) (suc b) (suc c) =
    both_given (suc a) (min (suc b) (suc c)) (omega arith) (omega arith)
    ∙ omega arith
    ∙ sym (both_given (min (suc a) (suc b)) (suc c) (omega arith) (omega arith))

pub joined : (a b : ℕ) (ns : List ℕ) → lowest (a ∷ b ∷ ns) ≡ lowest (lower_of a b ∷ ns)
joined a b ns = lower_assoc a b (lowest ns)

pub lower_zero : (a b : ℕ) → lower_of a b ≡ 0 → (a ≡ 0) × (b ≡ 0)
lower_zero zero b e = (refl, e)
lower_zero (suc a) zero e = absurd (omega arith)
lower_zero (suc a) (suc b) e = absurd (omega arith)

pub lower_most : (a b k : ℕ) → a ≤ k → b ≤ k → lower_of a b ≤ k
lower_most zero b k h l = l
lower_most (suc a) zero k h l = h
lower_most (suc a) (suc b) k h l = omega arith
