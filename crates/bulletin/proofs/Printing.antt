-- What is proved of decimals that are printed: their last digits, and how long they are. Assumes nothing.
use mathlib.Core.Path.{◌≡◌, refl, sym, ap, ◌∙◌}
use mathlib.Core.Bool.{true}
use mathlib.Core.List.{[], ◌∷◌, ◌++◌}
use Prim.Native.Nat.{ℕ, zero, suc, ◌+◌, ◌-◌, ◌/◌, ◌%◌, ◌^◌, ◌≤◌, ◌<◌}
use native.Mathlib.Nat.{div-div-eq-div-mul, div-le_self, div-one}
use native.Mathlib.Omega.{arith}
use lib.ListN.{length, length-append}
use lib.IntN.{ℤ, pos, negsuc}
use mir.Syntax.{w64}
use mir.Val.{SFits}
use Rattle.whole.specs.Whole.{pos_part, neg_part, ∣◌∣}
use Rattle.whole.proofs.Linear.{fits⇒}
use Rattle.text.specs.Decimal.{digits_of, all_digits_rule, read_from_rule}
use Rattle.text.proofs.Digits.{read-append, read_one, at_most}
use Rattle.text.proofs.Reading.{all_append, all_one}
use Rattle.bulletin.specs.Decimals.{last_digits, minus_of, printed}

-- ---- a place further, as the code goes

tenth_more : (n p : ℕ) → n / 10 / 10 ^ p ≡ n / 10 ^ suc p
tenth_more n p = div-div-eq-div-mul n 10 (10 ^ p) ∙ ap (λ (k : ℕ). n / k) (omega arith)

less_one : (p : ℕ) → (p ≡ 0 → ⊥) → suc (p - 1) ≡ p
less_one p h = omega arith

pub tenth_less : (n p : ℕ) → (p ≡ 0 → ⊥) → n / 10 / 10 ^ (p - 1) ≡ n / 10 ^ p
tenth_less n p h = tenth_more n (p - 1) ∙ ap (λ (k : ℕ). n / 10 ^ k) (less_one p h)

-- ---- the last digits

pub last_less : (n p : ℕ) → (p ≡ 0 → ⊥) → last_digits p n ≡ last_digits (p - 1) (n / 10) ++ ((48 + n % 10) ∷ [])
unfolding last_digits
last_less n p h = ap (λ (k : ℕ). last_digits k n) (sym (less_one p h))

pub last_none : (n p : ℕ) → p ≡ 0 → last_digits p n ≡ []
unfolding last_digits
last_none n p h = rw h

pub last_long : (p n : ℕ) → length (last_digits p n) ≡ p
unfolding last_digits
last_long zero n = refl
last_long (suc p) n = length-append (last_digits p (n / 10)) ((48 + n % 10) ∷ []) ∙ omega (arith, last_long p (n / 10))

pub last_all : (p n : ℕ) → all_digits_rule (last_digits p n) ≡ true
unfolding last_digits all_digits_rule
last_all zero n = refl
last_all (suc p) n = all_append (last_digits p (n / 10)) ((48 + n % 10) ∷ []) (last_all p (n / 10)) (all_one (n % 10) (omega arith))

-- read behind the digits before them, they make up the number
pub last_read : (p n : ℕ) → read_from_rule (n / 10 ^ p) (last_digits p n) ≡ n
unfolding last_digits read_from_rule
last_read zero n = div-one n
last_read (suc p) n =
    let d = (48 + n % 10) ∷ [] in
    ap (λ (k : ℕ). read_from_rule k (last_digits p (n / 10) ++ d)) (sym (tenth_more n p))
    ∙ read-append (n / 10 / 10 ^ p) (last_digits p (n / 10)) d
    ∙ ap (λ (k : ℕ). read_from_rule k d) (last_read p (n / 10))
    ∙ read_one (n / 10) (n % 10)
    ∙ omega arith

-- ---- the length of a printed number

printed-long : (p : ℕ) (z : ℤ) → length (printed p z) ≡ length (minus_of z) + (length (digits_of (∣ z ∣ / 10 ^ p)) + suc p)
unfolding printed
printed-long p z =
    let ds = digits_of (∣ z ∣ / 10 ^ p) in
    length-append (minus_of z) (ds ++ (46 ∷ last_digits p ∣ z ∣)) ∙ omega (arith, length-append ds (46 ∷ last_digits p ∣ z ∣), last_long p ∣ z ∣)

pub minus_is : (z : ℤ) → pos_part z < neg_part z → minus_of z ≡ 45 ∷ []
minus_is (pos n) h = absurd (omega (arith, h))
minus_is (negsuc n) h = refl

pub minus_none : (z : ℤ) → neg_part z ≤ pos_part z → minus_of z ≡ []
minus_none (pos n) h = refl
minus_none (negsuc n) h = absurd (omega (arith, h))

pub minus_long : (z : ℤ) → length (minus_of z) ≤ 1
minus_long (pos n) = omega arith
minus_long (negsuc n) = omega arith

-- with at most k + 1 digits before the point
pub printed-most : (p k : ℕ) (z : ℤ) → ∣ z ∣ / 10 ^ p < 10 ^ suc k → length (printed p z) ≤ k + p + 3
printed-most p k z h = omega (arith, printed-long p z, minus_long z, at_most k (∣ z ∣ / 10 ^ p) h)

-- and one less where there is no sign
pub printed_above : (p k : ℕ) (z : ℤ) → neg_part z ≤ pos_part z → ∣ z ∣ / 10 ^ p < 10 ^ suc k → length (printed p z) ≤ k + p + 2
printed_above p k z n h = omega (arith, printed-long p z, ap length (minus_none z n), at_most k (∣ z ∣ / 10 ^ p) h)

-- of a machine's number there are at most 19
pub nineteen_before : (p : ℕ) (z : ℤ) → SFits w64 z → length (digits_of (∣ z ∣ / 10 ^ p)) ≤ 19
nineteen_before p z f = at_most 18 (∣ z ∣ / 10 ^ p) (omega (arith, fits⇒ z f, div-le_self ∣ z ∣ (10 ^ p)))
