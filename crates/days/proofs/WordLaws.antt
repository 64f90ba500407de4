-- What is proved of words: 18 digits fit 64 bits. Assumes nothing.
use mathlib.Core.Path.{◌≡◌, subst}
use mathlib.Core.Bool.{true, false}
use mathlib.Core.List.{List, [], ◌∷◌}
use Prim.Native.Nat.{ℕ, ◌+◌, ◌*◌, ◌-◌, ◌^◌, ◌≤◌, ◌<◌}
use native.Mathlib.Nat.{pow-le-pow_right}
use native.Mathlib.Omega.{arith}
use borrow.Author.Tests.{leb-true}
use lib.Dec.{ltb, leb}
use lib.ListN.{length}
use Rattle.std.specs.Prelude.{Some, None}
use Rattle.whole.proofs.Linear.{and_true}
use Rattle.text.specs.Decimal.{is_digit_rule, all_digits_rule, read_from_rule, read}
use Rattle.text.proofs.Reading.{digit_in, next_below, zero_below}
use Rattle.days.specs.Words.{few_digits_rule, is_number, number_of, parsed_of}

read_below : (s : List ℕ) (n i : ℕ) → all_digits_rule s ≡ true → n < 10 ^ i → read_from_rule n s < 10 ^ (i + length s)
unfolding all_digits_rule read_from_rule
read_below [] n i d h = let e : i ≡ i + 0 = omega arith in subst (λ (k : ℕ). n < 10 ^ k) e h
read_below (b ∷ bs) n i d h =
    let p = and_true (is_digit_rule b) (all_digits_rule bs) d in
    let q = digit_in b p.0 in
    let m = 10 * n + (b - 48) in
    let e : i + 1 + length bs ≡ i + length (b ∷ bs) = omega arith in
    subst (λ (k : ℕ). read_from_rule m bs < 10 ^ k) e (read_below bs m (i + 1) p.1 (next_below n (b - 48) i h (omega (arith, q.1))))

module _ (s : List ℕ) (h : few_digits_rule s ≡ true) where
  pub digits_all : all_digits_rule s ≡ true
  unfolding few_digits_rule
  digits_all = (and_true (leb (length s) 18) (all_digits_rule s) (and_true (ltb 0 (length s)) _ h).1).1

  pub digits_few : length s ≤ 18
  unfolding few_digits_rule
  digits_few = leb-true (length s) 18 (and_true (leb (length s) 18) (all_digits_rule s) (and_true (ltb 0 (length s)) _ h).1).0

  pub number_fits : read s < 2 ^ 63
  number_fits =
      let k : 0 + length s ≤ 18 = omega (arith, digits_few) in
      omega (arith, read_below s 0 0 digits_all (zero_below 0), pow-le-pow_right {n = 10} (omega arith) k)

-- ---- a word that is a number, and one that is none

pub number_yes : (s : List ℕ) → is_number s ≡ true → Some (number_of s) ≡ parsed_of s
unfolding parsed_of
number_yes s h = rw h

pub number_no : (s : List ℕ) → is_number s ≡ false → None ≡ parsed_of s
unfolding parsed_of
number_no s h = rw h
