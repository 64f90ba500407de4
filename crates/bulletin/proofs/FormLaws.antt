-- What is proved of the form of a decimal, as the code reads it. Assumes nothing.
use mathlib.Core.Path.{◌≡◌, refl, sym, ap, ◌∙◌}
use mathlib.Core.Bool.{Bool, true, false}
use mathlib.Core.List.{List, [], ◌∷◌}
use Prim.Native.Nat.{ℕ, zero, suc, ◌+◌, ◌-◌, ◌*◌, ◌^◌, ◌≤◌, ◌<◌}
use native.Mathlib.Nat.{add-zero, zero-add, pow-le-pow_right}
use native.Mathlib.Numerals.{add-one}
use native.Mathlib.Omega.{arith}
use native.Mathlib.Decide.{dec_lt}
use borrow.Author.Tests.{eq-eqb, ne_eqb, lt-ltb, ltb-true, eqb-true}
use lib.Dec.{eqb, ltb}
use lib.ListN.{length, get_or, take, drop, length-take, length-drop}
use lib.Seq.{drop-cons, drop-length, take_all}
use Rattle.whole.specs.Whole.{∣◌∣, sign_of}
use Rattle.whole.specs.Each.{first_not}
use Rattle.whole.proofs.Each.{first-most, first_fails, first-before}
use Rattle.whole.proofs.Linear.{no_ft, no_tf, and_true}
use Rattle.bulletin.specs.Decimals.{past_blanks_rule, is_minus_rule, past_minus_rule, signed, whole_digits, decimals, is_decimal_rule, units_of_rule}
use Rattle.text.specs.Decimal.{is_digit_rule, all_digits_rule, read_from_rule, read}
use Rattle.text.proofs.Digits.{read-append}
use Rattle.text.proofs.Reading.{digit_in, next_below}

-- what a part up to the end holds
pub rest_is : {A : Type 0} (i : ℕ) (s : List A) → take (length s - i) (drop i s) ≡ drop i s
rest_is i s = take_all (length s - i) (drop i s) (omega (arith, length-drop i s))

sign_size : (t : Bool) (n : ℕ) → ∣ sign_of t n ∣ ≡ n
sign_size true zero = refl
sign_size true (suc n) = omega arith
sign_size false n = omega arith

-- ---- from byte i on: a blank more, or the end of the blanks

module _ (s : List ℕ) (i : ℕ) (h : i < length s) where
  pub blank_more : get_or s i 0 ≡ 32 → past_blanks_rule (drop i s) ≡ past_blanks_rule (drop (i + 1) s)
  unfolding past_blanks_rule
  blank_more e = rw (add-one, drop-cons s i 0, eq-eqb (get_or s i 0) 32 e)

  pub blanks-end : (get_or s i 0 ≡ 32 → ⊥) → past_blanks_rule (drop i s) ≡ drop i s
  unfolding past_blanks_rule
  blanks-end f = rw (drop-cons s i 0, ne_eqb (get_or s i 0) 32 f)

pub blanks_all : (s : List ℕ) → past_blanks_rule (drop (length s) s) ≡ drop (length s) s
unfolding past_blanks_rule
blanks_all s = rw drop-length

-- behind the blanks stands the first byte that is none
blanks_to : (s : List ℕ) (i : ℕ) → i ≤ first_not (length s) (λ (k : ℕ). eqb (get_or s k 0) 32) → past_blanks_rule (drop i s) ≡ past_blanks_rule s
blanks_to s zero h = refl
blanks_to s (suc i) h =
    let p : ℕ → Bool = λ (k : ℕ). eqb (get_or s k 0) 32 in
    let l : i < length s = omega (arith, h, first-most (length s) p) in
    let e : get_or s i 0 ≡ 32 = eqb-true (get_or s i 0) 32 (first-before (length s) i p (omega (arith, h)) l) in
    ap (λ (k : ℕ). past_blanks_rule (drop k s)) (sym (add-one i)) ∙ sym (blank_more s i l e) ∙ blanks_to s i (omega (arith, h))

blanks_by : (s : List ℕ) (i : ℕ) → i ≡ first_not (length s) (λ (k : ℕ). eqb (get_or s k 0) 32) → Dec (i < length s) → past_blanks_rule (drop i s) ≡ drop i s
blanks_by s i e (yes l) =
    let p : ℕ → Bool = λ (k : ℕ). eqb (get_or s k 0) 32 in
    let f : p i ≡ false = ap p e ∙ first_fails (length s) p (omega (arith, e, l)) in
    blanks-end s i l (λ q. no_tf (sym (eq-eqb (get_or s i 0) 32 q) ∙ f))
blanks_by s i e (no l) =
    let m : i ≡ length s = omega (arith, l, e, first-most (length s) (λ (k : ℕ). eqb (get_or s k 0) 32)) in
    rw m (blanks_all s)

pub blanks_first : (s : List ℕ) (i : ℕ) → i ≡ first_not (length s) (λ (k : ℕ). eqb (get_or s k 0) 32) → drop i s ≡ past_blanks_rule s
blanks_first s i e = sym (blanks_by s i e (dec_lt i (length s))) ∙ blanks_to s i (omega (arith, e))

-- ---- the sign

pub minus_none : (s : List ℕ) → length s ≡ 0 → is_minus_rule s ≡ false
unfolding is_minus_rule
minus_none [] h = refl
minus_none (b ∷ s) h = absurd (omega arith)

pub minus_some : (s : List ℕ) → (length s ≡ 0 → ⊥) → is_minus_rule s ≡ eqb (get_or s 0 0) 45
unfolding is_minus_rule
minus_some [] f = absurd (f refl)
minus_some (b ∷ s) f = refl

pub minus_yes : (s : List ℕ) → is_minus_rule s ≡ true → past_minus_rule s ≡ drop 1 s
unfolding past_minus_rule
minus_yes s e = rw e

pub minus_no : (s : List ℕ) → is_minus_rule s ≡ false → past_minus_rule s ≡ s
unfolding past_minus_rule
minus_no s e = rw e

-- a `-` is a byte
pub minus_long : (s : List ℕ) → is_minus_rule s ≡ true → 1 ≤ length s
unfolding is_minus_rule
minus_long [] e = absurd (no_ft e)
minus_long (b ∷ s) e = omega arith

-- ---- the columns about the point

module _ (p : ℕ) (s : List ℕ) where
  pub whole-none : length (whole_digits p s) ≡ 0 → is_decimal_rule p s ≡ false
  unfolding is_decimal_rule
  whole-none e = rw (e)

  module _ (f : length (whole_digits p s) ≡ 0 → ⊥) where
    some_digit : ltb 0 (length (whole_digits p s)) ≡ true
    some_digit = lt-ltb 0 (length (whole_digits p s)) (omega (arith, f))

    pub whole_no : all_digits_rule (whole_digits p s) ≡ false → is_decimal_rule p s ≡ false
    unfolding is_decimal_rule
    whole_no e = simp (some_digit, e)

    module _ (g : all_digits_rule (whole_digits p s) ≡ true) where
      pub point_no : (get_or s (length s - suc p) 0 ≡ 46 → ⊥) → is_decimal_rule p s ≡ false
      unfolding is_decimal_rule
      point_no e = simp (some_digit, g, ne_eqb (get_or s (length s - suc p) 0) 46 e)

      pub point_yes : get_or s (length s - suc p) 0 ≡ 46 → is_decimal_rule p s ≡ all_digits_rule (decimals p s)
      unfolding is_decimal_rule
      point_yes e = simp (some_digit, g, eq-eqb (get_or s (length s - suc p) 0) 46 e)

  -- as the code cuts the columns
  module _ (h : p + 1 < length s) where
    pub point_is : length s - p - 1 ≡ length s - suc p
    point_is = omega arith

    pub front_is : take (length s - p - 1 - 0) s ≡ take (length s - suc p) s
    front_is = let e : length s - p - 1 - 0 ≡ length s - suc p = omega arith in ap (λ (n : ℕ). take n s) e

    pub back_is : take (length s - (length s - p - 1 + 1)) (drop (length s - p - 1 + 1) s) ≡ decimals p s
    back_is = let e : length s - p - 1 + 1 ≡ length s - p = omega arith in rest_is (length s - p - 1 + 1) s ∙ ap (λ (n : ℕ). drop n s) e

    pub decimals-long : length (decimals p s) ≡ p
    decimals-long = omega (arith, length-drop (length s - p) s)

-- ---- what a decimal holds

blanks-short_by : (b : ℕ) (s : List ℕ) → length (past_blanks_rule s) ≤ length s → (t : Bool) → eqb b 32 ≡ t → length (past_blanks_rule (b ∷ s)) ≤ suc (length s)
unfolding past_blanks_rule
blanks-short_by b s h true e = rw e (omega arith)
blanks-short_by b s h false e = rw e (omega arith)

blanks-short : (s : List ℕ) → length (past_blanks_rule s) ≤ length s
unfolding past_blanks_rule
blanks-short [] = omega arith
blanks-short (b ∷ s) = blanks-short_by b s (blanks-short s) (eqb b 32) refl

minus_short_by : (s : List ℕ) (t : Bool) → is_minus_rule s ≡ t → length (past_minus_rule s) ≤ length s
minus_short_by s true e = rw (minus_yes s e) (omega (arith, length-drop 1 s))
minus_short_by s false e = rw (minus_no s e) (omega arith)

-- digits from a number below 10^i on
pub read_below : (ds : List ℕ) (n i : ℕ) → n < 10 ^ i → all_digits_rule ds ≡ true → read_from_rule n ds < 10 ^ (i + length ds)
unfolding read_from_rule all_digits_rule
read_below [] n i h a = rw add-zero h
read_below (d ∷ ds) n i h a =
    let w = and_true (is_digit_rule d) (all_digits_rule ds) a in
    let r = read_below ds (10 * n + (d - 48)) (i + 1) (next_below n (d - 48) i h (omega (arith, digit_in d w.0))) w.1 in
    let e : i + 1 + length ds ≡ i + suc (length ds) = omega arith in
    rw e at r

module _ (p : ℕ) (s : List ℕ) where
  pub whole-short : length (whole_digits p s) ≤ length s - suc p
  whole-short =
      omega (
        arith,
        minus_short_by (past_blanks_rule (take (length s - suc p) s)) (is_minus_rule (past_blanks_rule (take (length s - suc p) s))) refl,
        blanks-short (take (length s - suc p) s),
        length-take (length s - suc p) s,
      )

  pub record Parts : Type 0 where
    pub some : 0 < length (whole_digits p s)
    pub digits : all_digits_rule (whole_digits p s) ≡ true
    pub point : get_or s (length s - suc p) 0 ≡ 46
    pub behind : all_digits_rule (decimals p s) ≡ true

  pub parts : is_decimal_rule p s ≡ true → Parts
  unfolding is_decimal_rule
  parts h =
      let v = and_true (ltb 0 (length (whole_digits p s))) _ h in
      let w = and_true (all_digits_rule (whole_digits p s)) _ v.1 in
      let x = and_true (eqb (get_or s (length s - suc p) 0) 46) _ w.1 in
      record { some = ltb-true 0 _ v.0; digits = w.0; point = eqb-true _ _ x.0; behind = x.1 }

  module _ (h : p + 1 < length s) (d : is_decimal_rule p s ≡ true) where
    pub whole_below : read (whole_digits p s) < 10 ^ (length s - suc p)
    whole_below =
        let r = rw zero-add at (read_below (whole_digits p s) 0 0 (omega arith) (parts d).digits) in
        omega (arith, r, pow-le-pow_right {n = 10} (omega arith) whole-short)

    -- all digits of a decimal: fewer than its columns
    pub all_below_lem : read_from_rule (read (whole_digits p s)) (decimals p s) < 10 ^ (length s - 1)
    all_below_lem =
        let e : length s - suc p + length (decimals p s) ≡ length s - 1 = omega (arith, decimals-long p s h) in
        rw e at (read_below (decimals p s) (read (whole_digits p s)) (length s - suc p) whole_below (parts d).behind)

    pub units_are : units_of_rule p s ≡ sign_of (is_minus_rule (signed p s)) (read_from_rule (read (whole_digits p s)) (decimals p s))
    unfolding units_of_rule
    units_are = ap (sign_of (is_minus_rule (signed p s))) (read-append 0 (whole_digits p s) (decimals p s))

    pub units_small : ∣ units_of_rule p s ∣ < 10 ^ (length s - 1)
    units_small = rw (units_are, sign_size) all_below_lem
