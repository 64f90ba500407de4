-- Laws of `given`, and of `answerBy`. Assumes nothing.
use mathlib.Core.Path.{◌≡◌, refl, ap, ◌∙◌}
use Prim.Native.Nat.{ℕ, zero, suc}
use lib.Dec.{eqb-suc-zero}
use lib.IntN.{ℤ, pos}
use borrow.Author.Tests.{eq-eqb, ne_eqb}
use Rattle.whole.specs.Answers.{given, number, no_number_rule, answer_by}

pub given_yes : {A : Type 0} (n : ℕ) (right : A) (refused : ℕ → A) → n ≡ 0 → given n right refused ≡ right
unfolding given
given_yes n right refused h = rw (eq-eqb n 0 h)

pub given_no : {A : Type 0} (n : ℕ) (right : A) (refused : ℕ → A) → (n ≡ 0 → ⊥) → given n right refused ≡ refused n
unfolding given
given_no n right refused h = rw (ne_eqb n 0 h)

-- the same number and, where it is 0, the same answer
pub given-same : {A : Type 0} (n m : ℕ) (x y : A) (refused : ℕ → A) → n ≡ m → (n ≡ 0 → x ≡ y) → given n x refused ≡ given m y refused
unfolding given
given-same n m x y refused e h = under n h ∙ ap (λ (k : ℕ). given k y refused) e
  where
    under : (k : ℕ) → (k ≡ 0 → x ≡ y) → given k x refused ≡ given k y refused
    under zero h = h refl
    under (suc k) h = rw (eqb-suc-zero k)

-- what holds of both holds of what is given
pub given-each : {A : Type 0} (P : A → Type 0) (n : ℕ) (right : A) (refused : ℕ → A) → (n ≡ 0 → P right) → P (refused n) → P (given n right refused)
unfolding given
given-each P zero right refused f g = f refl
given-each P (suc n) right refused f g = rw (eqb-suc-zero n) g

pub answer_yes : (n : ℕ) (v : ℤ) → n ≡ 0 → answer_by n v ≡ number v
answer_yes n v h = given_yes n (number v) no_number_rule h

pub answer_no : (n : ℕ) (v : ℤ) → (n ≡ 0 → ⊥) → answer_by n v ≡ no_number_rule n
answer_no n v h = given_no n (number v) no_number_rule h

-- the number that it was made of
pub answer-refusal : (n : ℕ) (v : ℤ) → (answer_by n v).refusal ≡ pos n
unfolding given
answer-refusal zero v = refl
answer-refusal (suc n) v = rw (eqb-suc-zero n)
