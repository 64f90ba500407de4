-- What is proved of columns of a row, as the code cuts them. Assumes nothing.
use mathlib.Core.Path.{◌≡◌, sym, ap, ◌∙◌}
use mathlib.Core.Bool.{true, false}
use mathlib.Core.List.{List}
use Prim.Native.Nat.{ℕ, suc, ◌+◌, ◌-◌, ◌^◌, ◌≤◌, ◌<◌}
use native.Mathlib.Omega.{arith}
use borrow.Author.Tests.{lt-leb, le-leb, leb-true}
use lib.Dec.{leb}
use lib.ListN.{length, take, drop, length-drop}
use lib.Seq.{length-take-le}
use Rattle.whole.specs.Whole.{∣◌∣}
use Rattle.whole.proofs.Linear.{and_true}
use Rattle.whole.proofs.Tests.{no_and}
use Rattle.bulletin.specs.Columns.{Place, columns, mjd_columns, x_columns, y_columns, ut1_columns, bytes_in, holds_decimal_rule, value_in_rule}
use Rattle.bulletin.specs.Decimals.{is_decimal_rule}
use Rattle.bulletin.proofs.FormLaws.{units_small}

-- columns that can hold a decimal of at most 10 bytes, as `Columns` of the code says of each of its values
pub record Apt (c : Place) : Type 0 where
  pub counted : 1 ≤ c.first
  pub wide : c.first + c.decimals < c.last
  pub narrow : c.last ≤ c.first + 9

pub apt : {a b p : ℕ} → 1 ≤ a → a + p < b → b ≤ a + 9 → Apt (columns a b p)
apt h w n = record { counted = h; wide = w; narrow = n }

module _ {c : Place} (a : Apt c) (row : List ℕ) where
  pub bytes_are : take (c.last - (c.first - 1)) (drop (c.first - 1) row) ≡ bytes_in c row
  bytes_are = let e : c.last - (c.first - 1) ≡ suc c.last - c.first = omega (arith, a.counted, a.wide) in ap (λ (n : ℕ). take n (drop (c.first - 1) row)) e

  pub bytes-long : c.last ≤ length row → length (bytes_in c row) ≡ suc c.last - c.first
  bytes-long h = length-take-le (suc c.last - c.first) (drop (c.first - 1) row) (omega (arith, h, a.counted, a.wide, length-drop (c.first - 1) row))

  pub bytes-wide : c.last ≤ length row → c.decimals + 1 < length (bytes_in c row)
  bytes-wide h = omega (arith, bytes-long h, a.counted, a.wide)

  pub short_row : length row < c.last → holds_decimal_rule c row ≡ false
  unfolding holds_decimal_rule
  short_row h = no_and (leb c.last (length row)) _ (lt-leb c.last (length row) h)

  pub long_row : c.last ≤ length row → holds_decimal_rule c row ≡ is_decimal_rule c.decimals (bytes_in c row)
  unfolding holds_decimal_rule
  long_row h = rw (le-leb c.last (length row) h)

  module _ (d : holds_decimal_rule c row ≡ true) where
    pub reaches : c.last ≤ length row
    unfolding holds_decimal_rule
    reaches = leb-true c.last (length row) (and_true (leb c.last (length row)) _ d).0

    pub decimal-there : is_decimal_rule c.decimals (bytes_in c row) ≡ true
    decimal-there = sym (long_row reaches) ∙ d

    pub value-small : ∣ value_in_rule c row ∣ < 10 ^ (c.last - c.first)
    unfolding value_in_rule
    value-small =
        let e : length (bytes_in c row) - 1 ≡ c.last - c.first = omega (arith, bytes-long reaches) in
        rw e at (units_small c.decimals (bytes_in c row) (bytes-wide reaches) decimal-there)

-- ---- the four

pub mjd_apt : Apt mjd_columns
mjd_apt = record { counted = omega arith; wide = omega arith; narrow = omega arith }

pub x_apt : Apt x_columns
x_apt = record { counted = omega arith; wide = omega arith; narrow = omega arith }

pub y_apt : Apt y_columns
y_apt = record { counted = omega arith; wide = omega arith; narrow = omega arith }

pub ut1_apt : Apt ut1_columns
ut1_apt = record { counted = omega arith; wide = omega arith; narrow = omega arith }
