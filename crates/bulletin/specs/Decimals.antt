-- Document 02, L3: a decimal that fills columns of its own, as the readme's F formats print it. Blanks or none, `-` or nothing, a digit or more, a point, and
-- then p decimals, the last of them in the last column. A list here holds the bytes of these columns, in ASCII: 32 is a blank, 45 `-`, 46 a point.
use Rattle.std.specs.Prelude.{ℕ, zero, suc, ◌-◌, ◌/◌, ◌%◌, ◌+◌, ◌^◌, Bool, false, cond, ◌&&◌, List, [], ◌∷◌, ◌++◌, eqb, ltb, length, get_or, take, drop, ℤ, pos, negsuc}
use Rattle.whole.specs.Whole.{∣◌∣, sign_of}
use Rattle.text.specs.Decimal.{digits_of, all_digits_rule, read}

-- ---- read

-- what stands behind the blanks at the start
unfoldable pub past_blanks_rule : List ℕ → List ℕ
past_blanks_rule [] = []
past_blanks_rule (b ∷ bs) = cond (eqb b 32) (past_blanks_rule bs) (b ∷ bs)

-- whether a `-` stands at the start, and what stands behind it
unfoldable pub is_minus_rule : List ℕ → Bool
is_minus_rule [] = false
is_minus_rule (b ∷ bs) = eqb b 45

unfoldable pub past_minus_rule : List ℕ → List ℕ
past_minus_rule s = cond (is_minus_rule s) (drop 1 s) s

module _ (p : ℕ) (s : List ℕ) where
  -- the number before the point, from its sign on; its digits; and the decimals
  abbrev pub signed : List ℕ
  signed = past_blanks_rule (take (length s - suc p) s)

  abbrev pub whole_digits : List ℕ
  whole_digits = past_minus_rule signed

  abbrev pub decimals : List ℕ
  decimals = drop (length s - p) s

  -- a digit or more before the point, nothing but digits there and behind, and the point between them
  unfoldable pub is_decimal_rule : Bool
  is_decimal_rule = ltb 0 (length whole_digits) && (all_digits_rule whole_digits && (eqb (get_or s (length s - suc p) 0) 46 && all_digits_rule decimals))

  -- its value in units of the last decimal: all digits as one number, with the sign
  unfoldable pub units_of_rule : ℤ
  units_of_rule = sign_of (is_minus_rule signed) (read (whole_digits ++ decimals))

-- ---- written

-- the last p digits of n
unfoldable pub last_digits : ℕ → ℕ → List ℕ
last_digits zero n = []
last_digits (suc p) n = last_digits p (n / 10) ++ ((48 + n % 10) ∷ [])

abbrev pub minus_of : ℤ → List ℕ
minus_of (pos n) = []
minus_of (negsuc n) = 45 ∷ []

-- z units with p decimals: `-` where it is negative, the digits of the whole part, a point, and all decimals
unfoldable pub printed : ℕ → ℤ → List ℕ
printed p z = minus_of z ++ (digits_of (∣ z ∣ / 10 ^ p) ++ (46 ∷ last_digits p ∣ z ∣))
