-- The words behind the program's name: `-` or nothing, and then one digit to 18, which fit 64 bits with either sign.
use Rattle.std.specs.Prelude.{Bool, cond, Option, Some, None, ◌&&◌, List, ℕ, leb, ltb, ℤ, length}
use Rattle.whole.specs.Whole.{sign_of}
use Rattle.text.specs.Decimal.{all_digits_rule, read}
use Rattle.bulletin.specs.Decimals.{is_minus_rule, past_minus_rule}

unfoldable pub few_digits_rule : List ℕ → Bool
few_digits_rule s = ltb 0 (length s) && (leb (length s) 18 && all_digits_rule s)

-- whether a word is such a number, and which
abbrev pub is_number : List ℕ → Bool
is_number s = few_digits_rule (past_minus_rule s)

abbrev pub number_of : List ℕ → ℤ
number_of s = sign_of (is_minus_rule s) (read (past_minus_rule s))

unfoldable pub parsed_of : List ℕ → Option ℤ
parsed_of s = cond (is_number s) (Some (number_of s)) None
