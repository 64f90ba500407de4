-- What is proved of digits that are read. Assumes nothing.
use mathlib.Core.Path.{◌≡◌, refl, ap, ◌∙◌}
use mathlib.Core.Bool.{Bool, true, ◌&&◌}
use mathlib.Core.List.{List, [], ◌∷◌, ◌++◌}
use Prim.Native.Nat.{ℕ, zero, suc, ◌+◌, ◌-◌, ◌*◌, ◌/◌, ◌%◌, ◌^◌, ◌≤◌, ◌<◌}
use native.Mathlib.Nat.{pow-le-pow_right}
use native.Mathlib.Numerals.{add-one}
use native.Mathlib.Omega.{arith}
use borrow.Author.Tests.{leb-true, le-leb}
use lib.Dec.{leb}
use lib.ListN.{length, get_or, take, drop}
use lib.Seq.{drop-cons, drop-length}
use Rattle.std.specs.List.{list_all}
use Rattle.whole.proofs.Linear.{and_true}
use Rattle.whole.proofs.Tests.{and_yes}
use Rattle.text.specs.Decimal.{is_digit_rule, all_digits_rule, digits_of, read_from_rule, read}
use Rattle.text.specs.Put.{Put}
use Rattle.text.proofs.Digits.{one_digit, more_digits, by_tenths, read-digits}
use Rattle.text.proofs.Puts.{put_part}

-- a test of every byte, as the library says it
pub digits_listed : (s : List ℕ) → list_all is_digit_rule s ≡ all_digits_rule s
unfolding all_digits_rule
digits_listed [] = refl
digits_listed (b ∷ s) = ap (λ (t : Bool). is_digit_rule b && t) (digits_listed s)

-- ---- one byte more

module _ (s : List ℕ) (i : ℕ) (h : i < length s) where
  pub read_next : (n : ℕ) → read_from_rule n (drop i s) ≡ read_from_rule (10 * n + (get_or s i 0 - 48)) (drop (i + 1) s)
  unfolding read_from_rule
  read_next n = rw (add-one, drop-cons s i 0)

-- no byte left
pub read_none : (n : ℕ) (s : List ℕ) → read_from_rule n (drop (length s) s) ≡ n
unfolding read_from_rule
read_none n s = rw drop-length

pub digit_in : (b : ℕ) → is_digit_rule b ≡ true → (48 ≤ b) × (b ≤ 57)
digit_in b h = let p = and_true (leb 48 b) (leb b 57) h in (leb-true 48 b p.0, leb-true b 57 p.1)

-- each byte is one, where all are
pub digit_at : (s : List ℕ) (i : ℕ) → i < length s → all_digits_rule s ≡ true → (48 ≤ get_or s i 0) × (get_or s i 0 ≤ 57)
unfolding all_digits_rule
digit_at [] i h e = absurd (omega arith)
digit_at (b ∷ s) zero h e = digit_in b (and_true (is_digit_rule b) (all_digits_rule s) e).0
digit_at (b ∷ s) (suc i) h e = digit_at s i (omega arith) (and_true (is_digit_rule b) (all_digits_rule s) e).1

-- a digit more than i of them: it fits as long as there are no more than 19
pub next_below : (n d i : ℕ) → n < 10 ^ i → d ≤ 9 → 10 * n + d < 10 ^ (i + 1)
next_below n d i h k = rw add-one (omega arith)

pub below_most : (n i : ℕ) → n < 10 ^ i → i ≤ 19 → n < 10_000_000_000_000_000_000
below_most n i h k = omega (arith, pow-le-pow_right {n = 10} (omega arith) k)

-- 0 has no digit, so that any number may follow
pub zero_below : (i : ℕ) → 0 < 10 ^ i
zero_below i = omega (arith, pow-le-pow_right {n = 10} (omega arith) {i = 0} {j = i} (omega arith))

-- ---- what is written is read back

pub all_append : (ds es : List ℕ) → all_digits_rule ds ≡ true → all_digits_rule es ≡ true → all_digits_rule (ds ++ es) ≡ true
unfolding all_digits_rule
all_append [] es p q = q
all_append (d ∷ ds) es p q = let r = and_true (is_digit_rule d) (all_digits_rule ds) p in and_yes r.0 (all_append ds es r.1 q)

pub all_one : (d : ℕ) → d < 10 → all_digits_rule ((48 + d) ∷ []) ≡ true
unfolding all_digits_rule
all_one d h = and_yes (and_yes (le-leb 48 (48 + d) (omega arith)) (le-leb (48 + d) 57 (omega arith))) refl

-- the digits of a number are digits
pub digits_all : (n : ℕ) → all_digits_rule (digits_of n) ≡ true
digits_all = by_tenths (λ (n : ℕ). all_digits_rule (digits_of n) ≡ true) one more
  where
    one : (n : ℕ) → n < 10 → all_digits_rule (digits_of n) ≡ true
    one n h = rw (one_digit n h) (all_one n h)

    more : (n : ℕ) → 10 ≤ n → all_digits_rule (digits_of (n / 10)) ≡ true → all_digits_rule (digits_of n) ≡ true
    more n h e = rw (more_digits n h) (all_append (digits_of (n / 10)) ((48 + n % 10) ∷ []) e (all_one (n % 10) (omega arith)))

-- what `put_natural` leaves between its two places are digits, and they are read as the number
pub put_reads : {d e : List ℕ} {at end n : ℕ} → Put d at (digits_of n) e end → end ≤ length d
    → (all_digits_rule (take (end - at) (drop at e)) ≡ true) × (read (take (end - at) (drop at e)) ≡ n)
put_reads {n = n} p h = (ap all_digits_rule (put_part p h) ∙ digits_all n, ap read (put_part p h) ∙ read-digits n)
