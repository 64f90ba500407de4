-- Columns are read as a decimal exactly where they have its form, and its value is that of its parts; a printed number is read back. Assumes nothing.
use mathlib.Core.Path.{◌≡◌, refl, sym, ap, ap₂, ◌∙◌}
use mathlib.Core.Bool.{Bool, true, false}
use mathlib.Core.List.{List, [], ◌∷◌, ◌++◌, append_assoc}
use Prim.Native.Nat.{ℕ, zero, suc, ◌+◌, ◌-◌, ◌*◌, ◌/◌, ◌^◌, ◌≤◌}
use native.Mathlib.Nat.{pow-succ', zero-add}
use native.Mathlib.Omega.{arith}
use borrow.Author.Tests.{eq-eqb, ne_eqb, lt-ltb}
use lib.ListN.{length, get_or, take, drop, length-append}
use lib.Seq.{take_at, get_or_at, drop-append-add}
use lib.IntN.{ℤ, pos, negsuc}
use Rattle.whole.specs.Whole.{∣◌∣, sign_of}
use Rattle.whole.proofs.Linear.{and_true}
use Rattle.whole.proofs.Tests.{and_yes}
use Rattle.text.specs.Decimal.{is_digit_rule, all_digits_rule, digits_of, read_from_rule, read}
use Rattle.text.proofs.Digits.{read-append, read-digits, some}
use Rattle.text.proofs.Reading.{digit_in, digits_all}
use Rattle.bulletin.specs.Decimals.{past_blanks_rule, is_minus_rule, past_minus_rule, is_decimal_rule, units_of_rule, signed, whole_digits, last_digits, minus_of, printed}
use Rattle.bulletin.specs.ReadBack.{blanks, sign, Form, FormIsRead, PrintedIsRead}
use Rattle.bulletin.proofs.Printing.{last_long, last_all, last_read}

-- ---- digits behind a number

one_more : (n d m r x y : ℕ) → x ≡ (10 * n + d) * m + r → y ≡ (0 + d) * m + r → x ≡ n * (10 * m) + y
one_more n d m r x y h k = omega arith

read_more : (n : ℕ) (es : List ℕ) → read_from_rule n es ≡ n * 10 ^ length es + read es
unfolding read_from_rule
read_more n [] = omega arith
read_more n (e ∷ es) =
    let d = e - 48 in
    one_more n d (10 ^ length es) (read es) (read_from_rule (10 * n + d) es) (read_from_rule (0 + d) es) (read_more (10 * n + d) es) (read_more (0 + d) es)
    ∙ ap (λ (m : ℕ). n * m + read_from_rule (0 + d) es) (sym (pow-succ' 10 (length es)))

-- ---- blanks and a sign before digits

past_blanks_lem : (k : ℕ) (s : List ℕ) → past_blanks_rule s ≡ s → past_blanks_rule (blanks k ++ s) ≡ s
unfolding past_blanks_rule
past_blanks_lem zero s e = e
past_blanks_lem (suc k) s e = past_blanks_lem k s e

module _ (d : ℕ) (ds : List ℕ) (h : all_digits_rule (d ∷ ds) ≡ true) where
  first_in_lem : (48 ≤ d) × (d ≤ 57)
  unfolding all_digits_rule
  first_in_lem = digit_in d (and_true (is_digit_rule d) (all_digits_rule ds) h).0

  no_blank : (t : Bool) → past_blanks_rule (sign t ++ (d ∷ ds)) ≡ sign t ++ (d ∷ ds)
  unfolding past_blanks_rule
  no_blank true = refl
  no_blank false = rw (ne_eqb d 32 (λ e. omega (arith, e, first_in_lem)))

  minus_is : (t : Bool) → is_minus_rule (sign t ++ (d ∷ ds)) ≡ t
  unfolding is_minus_rule
  minus_is true = refl
  minus_is false = ne_eqb d 45 (λ e. omega (arith, e, first_in_lem))

  past_sign : (t : Bool) → past_minus_rule (sign t ++ (d ∷ ds)) ≡ d ∷ ds
  unfolding past_minus_rule
  past_sign true = rw (minus_is true)
  past_sign false = rw (minus_is false)

-- ---- what is read of the form

-- bytes before the point, the point, and p bytes behind it
module _ (p : ℕ) (a es : List ℕ) (l : length es ≡ p) where
  whole_long : length (a ++ (46 ∷ es)) ≡ length a + suc p
  whole_long = length-append a (46 ∷ es) ∙ omega (arith, l)

  before_point : take (length (a ++ (46 ∷ es)) - suc p) (a ++ (46 ∷ es)) ≡ a
  before_point = take_at a (46 ∷ es) (length (a ++ (46 ∷ es)) - suc p) (omega (arith, whole_long))

  point_there : get_or (a ++ (46 ∷ es)) (length (a ++ (46 ∷ es)) - suc p) 0 ≡ 46
  point_there = get_or_at a 46 es 0 (length (a ++ (46 ∷ es)) - suc p) (omega (arith, whole_long))

  behind_point : drop (length (a ++ (46 ∷ es)) - p) (a ++ (46 ∷ es)) ≡ es
  behind_point =
      let e : length (a ++ (46 ∷ es)) - p ≡ length a + 1 = omega (arith, whole_long) in
      ap (λ (n : ℕ). drop n (a ++ (46 ∷ es))) e ∙ drop-append-add a (46 ∷ es) 1

-- a decimal in its parts, the first digit apart from the others
module _ (k : ℕ) (t : Bool) (d : ℕ) (ds es : List ℕ) (h : all_digits_rule (d ∷ ds) ≡ true) where
  abbrev number : List ℕ
  number = sign t ++ (d ∷ ds)

  abbrev front : List ℕ
  front = blanks k ++ number

  abbrev columns : List ℕ
  columns = front ++ (46 ∷ es)

  module _ (p : ℕ) (l : length es ≡ p) (g : all_digits_rule es ≡ true) where
    signed_is : signed p columns ≡ number
    signed_is = ap past_blanks_rule (before_point p front es l) ∙ past_blanks_lem k number (no_blank d ds h t)

    minus_there : is_minus_rule (signed p columns) ≡ t
    minus_there = ap is_minus_rule signed_is ∙ minus_is d ds h t

    digits-there : whole_digits p columns ≡ d ∷ ds
    digits-there = ap past_minus_rule signed_is ∙ past_sign d ds h t

    parts_decimal : is_decimal_rule p columns ≡ true
    unfolding is_decimal_rule
    parts_decimal =
        and_yes (lt-ltb 0 (length (whole_digits p columns)) (rw digits-there (omega arith)))
        (and_yes (ap all_digits_rule digits-there ∙ h) (and_yes (eq-eqb _ _ (point_there p front es l)) (ap all_digits_rule (behind_point p front es l) ∙ g)))

    parts_value : units_of_rule p columns ≡ sign_of t (read (d ∷ ds) * 10 ^ p + read es)
    unfolding units_of_rule
    parts_value =
        ap₂ sign_of minus_there
        (ap₂ (λ (x y : List ℕ). read (x ++ y)) digits-there (behind_point p front es l)
        ∙ read-append 0 (d ∷ ds) es
        ∙ read_more (read (d ∷ ds)) es
        ∙ ap (λ (n : ℕ). read (d ∷ ds) * 10 ^ n + read es) l)

-- the parts of a form, said so
pub grouped : (k : ℕ) (t : Bool) (ds es : List ℕ) → blanks k ++ (sign t ++ (ds ++ (46 ∷ es))) ≡ (blanks k ++ (sign t ++ ds)) ++ (46 ∷ es)
grouped k t ds es = sym (append_assoc (blanks k) (sign t ++ ds) (46 ∷ es) ∙ ap (λ (x : List ℕ). blanks k ++ x) (append_assoc (sign t) ds (46 ∷ es)))

by_digits : (p k : ℕ) (t : Bool) (ds es s : List ℕ) → 1 ≤ length ds → all_digits_rule ds ≡ true → all_digits_rule es ≡ true → length es ≡ p
    → blanks k ++ (sign t ++ (ds ++ (46 ∷ es))) ≡ s → (is_decimal_rule p s ≡ true) × (units_of_rule p s ≡ sign_of t (read ds * 10 ^ p + read es))
by_digits p k t [] es s n h g l e = absurd (omega (arith, n))
by_digits p k t (d ∷ ds) es s n h g l e =
    let q = sym (grouped k t (d ∷ ds) es) ∙ e in
    (ap (is_decimal_rule p) (sym q) ∙ parts_decimal k t d ds es h p l g, ap (units_of_rule p) (sym q) ∙ parts_value k t d ds es h p l g)

pub form_is_read : FormIsRead
form_is_read p s f = by_digits p f.k f.negative f.digits f.decimals s f.some f.before f.behind f.long f.made

-- ---- a printed number is of this form

is_below : ℤ → Bool
is_below (pos n) = false
is_below (negsuc n) = true

module _ (p k : ℕ) where
  abbrev before : ℤ → List ℕ
  before z = digits_of (∣ z ∣ / 10 ^ p)

  sign_is : (z : ℤ) → sign (is_below z) ≡ minus_of z
  unfolding is_below
  sign_is (pos n) = refl
  sign_is (negsuc n) = refl

  printed_form : (z : ℤ) → Form p (blanks k ++ printed p z)
  unfolding printed
  printed_form z =
      record {
        k = k;
        negative = is_below z;
        digits = before z;
        decimals = last_digits p ∣ z ∣;
        some = some (∣ z ∣ / 10 ^ p);
        before = digits_all (∣ z ∣ / 10 ^ p);
        behind = last_all p ∣ z ∣;
        long = last_long p ∣ z ∣;
        made = ap (λ (m : List ℕ). blanks k ++ (m ++ (before z ++ (46 ∷ last_digits p ∣ z ∣)))) (sign_is z);
      }

  -- its parts say its size
  size_back : (z : ℤ) → read (before z) * 10 ^ p + read (last_digits p ∣ z ∣) ≡ ∣ z ∣
  size_back z =
      ap (λ (n : ℕ). read (before z) * 10 ^ n + read (last_digits p ∣ z ∣)) (sym (last_long p ∣ z ∣))
      ∙ sym (read_more (read (before z)) (last_digits p ∣ z ∣))
      ∙ ap (λ (n : ℕ). read_from_rule n (last_digits p ∣ z ∣)) (read-digits (∣ z ∣ / 10 ^ p))
      ∙ last_read p ∣ z ∣

  sign_back : (z : ℤ) → sign_of (is_below z) ∣ z ∣ ≡ z
  unfolding is_below
  sign_back (pos n) = ap pos (omega arith)
  sign_back (negsuc n) = ap (λ (m : ℕ). sign_of true m) (zero-add (suc n))

pub printed_is_read : PrintedIsRead
unfolding printed_form
printed_is_read p k z =
    let r = form_is_read p (blanks k ++ printed p z) (printed_form p k z) in
    (r.0, r.1 ∙ ap (sign_of (is_below z)) (size_back p k z) ∙ sign_back p k z)
