-- `bulletin::records::record_of` meets its contract. Assumes nothing.
use mathlib.Core.Path.{◌≡◌, ap, ◌∙◌}
use native.Mathlib.Omega.{arith}
use Prim.Native.Nat.{ℕ, ◌≤◌}
use mathlib.Core.Bool.{true}
use mathlib.Core.List.{List}
use lib.IntN.{ℤ, pos, ◌*ℤ◌}
use mir.Syntax.{w64}
use mir.Val.{to_z, of_z, SFits}
use Rattle.whole.specs.Whole.{∣◌∣}
use Rattle.whole.proofs.Linear.{and_true, back, ret, abs_fits, abs_mul≤}
use Rattle.bulletin.specs.Columns.{x_columns, y_columns, ut1_columns, holds_decimal_rule, value_in_rule}
use Rattle.bulletin.specs.Rows.{row_at_rule, is_filled_rule, days_of, first_in_rule}
use Rattle.bulletin.specs.Reading.{record_for}
use Rattle.bulletin.proofs.ColumnLaws.{ut1_apt, value-small}
use Rattle.bulletin.proofs.records.record_of.Goals as goal

-- the three decimals of a row that is filled
module _ (row : List ℕ) (h : is_filled_rule row ≡ true) where
  x-there : holds_decimal_rule x_columns row ≡ true
  unfolding is_filled_rule
  x-there = (and_true (holds_decimal_rule x_columns row) _ h).0

  y-there : holds_decimal_rule y_columns row ≡ true
  unfolding is_filled_rule
  y-there = (and_true (holds_decimal_rule y_columns row) _ (and_true (holds_decimal_rule x_columns row) _ h).1).0

  ut1-there : holds_decimal_rule ut1_columns row ≡ true
  unfolding is_filled_rule
  ut1-there = (and_true (holds_decimal_rule y_columns row) _ (and_true (holds_decimal_rule x_columns row) _ h).1).1

  ut1-small : ∣ value_in_rule ut1_columns row ∣ ≤ 1_000_000_000
  ut1-small = omega (arith, value-small ut1_apt row ut1-there)

-- the row at hand
module _ (text : List ℕ) (dates : List ℤ) {d : ℤ} {n : ℕ} (f : SFits w64 d) (p : n ≡ first_in_rule dates (to_z w64 (of_z w64 d))) where
  place_is : n ≡ first_in_rule dates d
  place_is = p ∙ ap (first_in_rule dates) (back f)

  module _ {row : List ℕ} (r : row ≡ row_at_rule text n) where
    row_is : row ≡ row_at_rule text (first_in_rule dates d)
    row_is = r ∙ ap (row_at_rule text) place_is

    full : is_filled_rule (row_at_rule text (first_in_rule dates d)) ≡ true → is_filled_rule row ≡ true
    full h = ap is_filled_rule row_is ∙ h

-- full UT1 in nanoseconds
ut1-fits : (row : List ℕ) → is_filled_rule row ≡ true → SFits w64 (pos 100 *ℤ value_in_rule ut1_columns row)
ut1-fits row h = abs_fits (omega (arith, abs_mul≤ (pos 100) (value_in_rule ut1_columns row) 100 1_000_000_000 (omega arith) (ut1-small row h)))

pub value_in-requires : goal.value_in-requires
value_in-requires c = (x-there c.row_at-row.result.now (full c.args.rows.text.now c.args.rows.dates.now c.ranges.d c.first_in.ensures c.row_at-row.ensures c.requires.1))

pub value_in-requires-2 : goal.value_in-requires-2
value_in-requires-2 c = (y-there c.row_at-row.result.now (full c.args.rows.text.now c.args.rows.dates.now c.ranges.d c.first_in.ensures c.row_at-row.ensures c.requires.1))

pub value_in-requires-3 : goal.value_in-requires-3
value_in-requires-3 c = (ut1-there c.row_at-row.result.now (full c.args.rows.text.now c.args.rows.dates.now c.ranges.d c.first_in.ensures c.row_at-row.ensures c.requires.1))

pub overflow_mul-result : goal.overflow_mul-result
overflow_mul-result c =
    let h = full c.args.rows.text.now c.args.rows.dates.now c.ranges.d c.first_in.ensures c.row_at-row.ensures c.requires.1 in
    rw (ret c.value_in-3.result c.value_in-3.type_inv ∙ c.value_in-3.ensures) (ut1-fits c.row_at-row.result.now h)

pub returns : goal.returns
unfolding record_for
returns c =
    let text = c.args.rows.text.now in
    let h = full text c.args.rows.dates.now c.ranges.d c.first_in.ensures c.row_at-row.ensures c.requires.1 in
    let r : c.row_at-row.result.now ≡ row_at_rule text (first_in_rule (days_of text) c.args.d) =
    row_is text c.args.rows.dates.now c.ranges.d c.first_in.ensures c.row_at-row.ensures ∙ ap (λ (xs : List ℤ). row_at_rule text (first_in_rule xs c.args.d)) c.args.rows.listed.days in
    let p = back c.ranges.d in
    let q = ret c.value_in.result c.value_in.type_inv ∙ c.value_in.ensures ∙ ap (value_in_rule x_columns) r in
    let t = ret c.value_in-2.result c.value_in-2.type_inv ∙ c.value_in-2.ensures ∙ ap (value_in_rule y_columns) r in
    let u = ap (λ (z : ℤ). to_z w64 (of_z w64 (pos 100 *ℤ z))) (ret c.value_in-3.result c.value_in-3.type_inv ∙ c.value_in-3.ensures) ∙ back (ut1-fits c.row_at-row.result.now h)
    ∙ ap (λ (row : List ℕ). pos 100 *ℤ value_in_rule ut1_columns row) r in
    let v = back c.ranges.tai in
    λ i. record { mjd = p i; x = q i; y = t i; ut1_utc = u i; tai_utc = v i; mark = pos 1 }
