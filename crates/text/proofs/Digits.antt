-- What is proved of a number's digits. Assumes nothing.
use mathlib.Core.Path.{◌≡◌, refl, sym, ap, ◌∙◌}
use mathlib.Core.Bool.{Bool, true, false}
use mathlib.Core.List.{List, [], ◌∷◌, ◌++◌}
use Prim.Native.Nat.{ℕ, zero, suc, ◌+◌, ◌-◌, ◌*◌, ◌/◌, ◌%◌, ◌^◌, ◌≤◌, ◌<◌}
use native.Mathlib.Numerals.{add-one}
use native.Mathlib.Omega.{arith}
use borrow.Author.Tests.{ltb-true, ltb-false, lt-ltb, le-ltb}
use lib.Dec.{ltb, lit≤}
use lib.ListN.{length, get_or, length-append, get_or-append}
use lib.IntN.{ℤ, pos, negsuc, nat_abs}
use lib.Signed.{lt_z}
use mir.Syntax.{w64}
use mir.Val.{SFits}
use native.Mathlib.Nat.{one-le-pow}
use Rattle.std.proofs.Common.{Option, Some, None, IfSome, IfNone, unwrap_or}
use Rattle.text.specs.Decimal.{digits_by, digits_of, decimal, read_from_rule, read}

single : (k n : ℕ) → n < 10 → digits_by (suc k) n ≡ (48 + n) ∷ []
unfolding digits_by
single k n h = let e : n % 10 ≡ n = omega arith in rw (lt-ltb n 10 h, e)

several : (k n : ℕ) → 10 ≤ n → digits_by (suc k) n ≡ digits_by k (n / 10) ++ ((48 + n % 10) ∷ [])
unfolding digits_by
several k n h = rw (le-ltb n 10 h)

-- any k above n gives the same digits
enough_by : (k l n : ℕ) → (10 ≤ n → digits_by k (n / 10) ≡ digits_by l (n / 10)) → (t : Bool) → ltb n 10 ≡ t → digits_by (suc k) n ≡ digits_by (suc l) n
enough_by k l n f true e = single k n (ltb-true n 10 e) ∙ sym (single l n (ltb-true n 10 e))
enough_by k l n f false e =
    let m : 10 ≤ n = ltb-false n 10 e in
    several k n m ∙ ap (λ (ds : List ℕ). ds ++ ((48 + n % 10) ∷ [])) (f m) ∙ sym (several l n m)

enough : (k l n : ℕ) → n < k → n < l → digits_by k n ≡ digits_by l n
enough zero l n h g = absurd (omega arith)
enough (suc k) zero n h g = absurd (omega arith)
enough (suc k) (suc l) n h g = enough_by k l n (λ (m : 10 ≤ n). enough k l (n / 10) (omega arith) (omega arith)) (ltb n 10) refl

pub one_digit : (n : ℕ) → n < 10 → digits_of n ≡ (48 + n) ∷ []
unfolding digits_of
one_digit n h = single n n h

pub more_digits : (n : ℕ) → 10 ≤ n → digits_of n ≡ digits_of (n / 10) ++ ((48 + n % 10) ∷ [])
unfolding digits_of
more_digits n h = several n n h ∙ ap (λ (ds : List ℕ). ds ++ ((48 + n % 10) ∷ [])) (enough n (suc (n / 10)) (n / 10) (omega arith) (omega arith))

pub length_more : (n : ℕ) → 10 ≤ n → length (digits_of n) ≡ length (digits_of (n / 10)) + 1
length_more n h = ap length (more_digits n h) ∙ length-append (digits_of (n / 10)) ((48 + n % 10) ∷ [])

-- a fact of every number, by that of a tenth of it
module _ (F : ℕ → Type 0) (one : (n : ℕ) → n < 10 → F n) (more : (n : ℕ) → 10 ≤ n → F (n / 10) → F n) where
  by_size : (n : ℕ) → (10 ≤ n → F (n / 10)) → (t : Bool) → ltb n 10 ≡ t → F n
  by_size n f true e = one n (ltb-true n 10 e)
  by_size n f false e = let m : 10 ≤ n = ltb-false n 10 e in more n m (f m)

  up_to : (k n : ℕ) → n < k → F n
  up_to zero n h = absurd (omega arith)
  up_to (suc k) n h = by_size n (λ (m : 10 ≤ n). up_to k (n / 10) (omega arith)) (ltb n 10) refl

  pub by_tenths : (n : ℕ) → F n
  by_tenths n = up_to (suc n) n (omega arith)

-- ---- so many digits of a number, from the last on

unfoldable pub lowest : ℕ → ℕ → List ℕ
lowest zero n = []
lowest (suc k) n = lowest k (n / 10) ++ ((48 + n % 10) ∷ [])

pub lowest_long : (k n : ℕ) → length (lowest k n) ≡ k
unfolding lowest
lowest_long zero n = refl
lowest_long (suc k) n = length-append (lowest k (n / 10)) ((48 + n % 10) ∷ []) ∙ omega (arith, lowest_long k (n / 10))

-- as many as it has are all
pub lowest_all : (n : ℕ) → lowest (length (digits_of n)) n ≡ digits_of n
unfolding lowest
lowest_all = by_tenths (λ (n : ℕ). lowest (length (digits_of n)) n ≡ digits_of n) one more
  where
    one : (n : ℕ) → n < 10 → lowest (length (digits_of n)) n ≡ digits_of n
    one n h = let e : n % 10 ≡ n = omega arith in rw (one_digit n h, e) refl

    more : (n : ℕ) → 10 ≤ n → lowest (length (digits_of (n / 10))) (n / 10) ≡ digits_of (n / 10) → lowest (length (digits_of n)) n ≡ digits_of n
    more n h e = rw (length_more n h, add-one, more_digits n h) (ap (λ (ds : List ℕ). ds ++ ((48 + n % 10) ∷ [])) e)

-- ---- the digits say the number

pub read-append : (n : ℕ) (ds es : List ℕ) → read_from_rule n (ds ++ es) ≡ read_from_rule (read_from_rule n ds) es
unfolding read_from_rule
read-append n [] es = refl
read-append n (d ∷ ds) es = read-append (10 * n + (d - 48)) ds es

pub read_one : (n d : ℕ) → read_from_rule n ((48 + d) ∷ []) ≡ 10 * n + d
unfolding read_from_rule
read_one n d = omega arith

-- reading a number's digits gives the number
pub read-digits : (n : ℕ) → read (digits_of n) ≡ n
read-digits = by_tenths (λ (n : ℕ). read (digits_of n) ≡ n) one more
  where
    one : (n : ℕ) → n < 10 → read (digits_of n) ≡ n
    one n h = ap read (one_digit n h) ∙ read_one 0 n ∙ omega arith

    more : (n : ℕ) → 10 ≤ n → read (digits_of (n / 10)) ≡ n / 10 → read (digits_of n) ≡ n
    more n h e =
        let ds = digits_of (n / 10) in
        ap read (more_digits n h) ∙ read-append 0 ds ((48 + n % 10) ∷ []) ∙ ap (λ (m : ℕ). read_from_rule m ((48 + n % 10) ∷ [])) e ∙ read_one (n / 10) (n % 10) ∙ omega arith

-- ---- there is no leading zero: the first digit of a number above 0 is `1` or more

pub some : (n : ℕ) → 1 ≤ length (digits_of n)
some = by_tenths (λ (n : ℕ). 1 ≤ length (digits_of n)) one more
  where
    one : (n : ℕ) → n < 10 → 1 ≤ length (digits_of n)
    one n h = rw (one_digit n h) (lit≤ tt)

    more : (n : ℕ) → 10 ≤ n → 1 ≤ length (digits_of (n / 10)) → 1 ≤ length (digits_of n)
    more n h e = omega (arith, length_more n h)

pub first_digit : (n : ℕ) → 1 ≤ n → 49 ≤ get_or (digits_of n) 0 0
first_digit = by_tenths (λ (n : ℕ). 1 ≤ n → 49 ≤ get_or (digits_of n) 0 0) one more
  where
    one : (n : ℕ) → n < 10 → 1 ≤ n → 49 ≤ get_or (digits_of n) 0 0
    one n h p = rw (one_digit n h) (omega arith)

    more : (n : ℕ) → 10 ≤ n → (1 ≤ n / 10 → 49 ≤ get_or (digits_of (n / 10)) 0 0) → 1 ≤ n → 49 ≤ get_or (digits_of n) 0 0
    more n h e p =
        let f = get_or-append (digits_of (n / 10)) ((48 + n % 10) ∷ []) 0 0 (some (n / 10)) in
        rw (more_digits n h) (omega (arith, f, e (omega arith)))

-- ---- how many there are

at_most_by : (j n : ℕ) → (10 ≤ n → length (digits_of (n / 10)) ≤ suc j) → (t : Bool) → ltb n 10 ≡ t → length (digits_of n) ≤ suc (suc j)
at_most_by j n f true e = rw (one_digit n (ltb-true n 10 e)) (omega arith)
at_most_by j n f false e = let m : 10 ≤ n = ltb-false n 10 e in omega (arith, length_more n m, f m)

pub at_most : (j n : ℕ) → n < 10 ^ suc j → length (digits_of n) ≤ suc j
at_most zero n h = rw (one_digit n (omega arith)) (lit≤ tt)
at_most (suc j) n h = at_most_by j n (λ (m : 10 ≤ n). at_most j (n / 10) (omega arith)) (ltb n 10) refl

-- from 10^k on, and below ten times that, one more than k
pub counted : (k n : ℕ) → 10 ^ k ≤ n → n < 10 * 10 ^ k → length (digits_of n) ≡ k + 1
counted zero n l h = rw (one_digit n (omega arith)) refl
counted (suc k) n l h = let p : 1 ≤ 10 ^ k = one-le-pow k 10 (omega arith) in omega (arith, length_more n (omega arith), counted k (n / 10) (omega arith) (omega arith))

-- 0 has one digit, and every other number one more than its logarithm says
pub by_logarithm : (n : ℕ) (r : Option ℕ) → IfNone r (n ≡ 0) → IfSome r (λ k. 10 ^ k ≤ n) → IfSome r (λ k. n < 10 * 10 ^ k) → unwrap_or r 0 + 1 ≡ length (digits_of n)
by_logarithm n None z low high = omega (arith, ap length (one_digit n (omega arith)))
by_logarithm n (Some k) z low high = sym (counted k n low high)

-- ---- whole numbers

pub below_zero : (z : ℤ) → lt_z z (pos 0) ≡ true → decimal z ≡ 45 ∷ digits_of (nat_abs z)
unfolding decimal
below_zero (pos n) h = absurd (omega (arith, ltb-true n 0 h))
below_zero (negsuc n) h = refl

pub from_zero : (z : ℤ) → lt_z z (pos 0) ≡ false → decimal z ≡ digits_of (nat_abs z)
unfolding decimal
from_zero (pos n) h = refl
from_zero (negsuc n) h = (cc)

-- the digits of a machine's number, without its sign
pub nineteen : (z : ℤ) → SFits w64 z → length (digits_of (nat_abs z)) ≤ 19
nineteen (pos n) f = at_most 18 n (omega (arith, f.sfits))
nineteen (negsuc n) f = at_most 18 (suc n) (omega (arith, f.sfits))
