-- What is proved of a record that can stand in a row: the ranges of its fields, and that its decimals are no wider than their columns. Assumes nothing.
use mathlib.Core.Path.{◌≡◌, ap}
use mathlib.Core.Bool.{true, false, ◌&&◌}
use mathlib.Core.List.{List}
use Prim.Native.Nat.{ℕ, suc, ◌+◌, ◌-◌, ◌*◌, ◌≤◌, ◌<◌}
use native.Mathlib.Omega.{arith}
use borrow.Author.Tests.{eqb-true}
use lib.Dec.{eqb}
use lib.ListN.{length}
use lib.IntN.{ℤ, pos, ◌*ℤ◌}
use Rattle.whole.specs.Whole.{pos_part, neg_part, ∣◌∣, floor_z, mod_z}
use Rattle.whole.specs.Each.{all_below}
use Rattle.whole.specs.Ranges.{eq_z}
use Rattle.whole.proofs.Each.{below_each}
use Rattle.whole.proofs.Linear.{and_true, abs_of, mul_pos_part, mul_neg_part}
use Rattle.whole.proofs.Order.{eq_z_true}
use Rattle.whole.proofs.Tests.{no_and, and_no}
use Rattle.whole.proofs.Rounding.{floor_abs}
use Rattle.fields.specs.declared.Day.{Day}
use Rattle.fields.specs.Ranges.{inside, mjd, pole, ut1utc, taiutc, mark, Holds}
use Rattle.fields.specs.Records.{InDay}
use Rattle.fields.proofs.Inside.{inside_holds}
use Rattle.bulletin.specs.Columns.{Place, mjd_columns, ut1_columns}
use Rattle.bulletin.specs.Decimals.{printed}
use Rattle.bulletin.specs.Reading.{in_ranges_rule, day_count}
use Rattle.bulletin.specs.Writing.{records_in, record_at_rule, list_right_rule, can_stand_rule}
use Rattle.bulletin.proofs.Printing.{printed-most, printed_above}

-- a record whose UT1-UTC is out of its range is not in its ranges, whatever its other fields are
pub ut1_out : (d : Day) → inside ut1utc d.ut1_utc ≡ false → in_ranges_rule d ≡ false
unfolding in_ranges_rule
ut1_out d e = and_no (inside mjd d.mjd) _ (and_no (inside pole d.x) _ (and_no (inside pole d.y) _ (no_and (inside ut1utc d.ut1_utc) (inside taiutc d.tai_utc) e)))

module _ (d : Day) (e : can_stand_rule d ≡ true) where
  tests : (in_ranges_rule d ≡ true) × (eqb (mod_z d.ut1_utc 100) 0 && eq_z d.mark (pos 1) ≡ true)
  unfolding can_stand_rule
  tests = and_true (in_ranges_rule d) _ e

  others : (eqb (mod_z d.ut1_utc 100) 0 ≡ true) × (eq_z d.mark (pos 1) ≡ true)
  others = and_true (eqb (mod_z d.ut1_utc 100) 0) _ tests.1

  pub stands-ranges : in_ranges_rule d ≡ true
  stands-ranges = tests.0

  pub stands_hundreds : mod_z d.ut1_utc 100 ≡ 0
  stands_hundreds = eqb-true _ _ others.0

  pub stands-marked : d.mark ≡ pos 1
  stands-marked = eq_z_true d.mark (pos 1) others.1

  -- its fields, each in its range
  pub stands_in_lem : InDay d
  unfolding in_ranges_rule
  stands_in_lem =
      let m = and_true (inside mjd d.mjd) _ stands-ranges in
      let x = and_true (inside pole d.x) _ m.1 in
      let y = and_true (inside pole d.y) _ x.1 in
      let u = and_true (inside ut1utc d.ut1_utc) (inside taiutc d.tai_utc) y.1 in
      record {
        mjd = inside_holds mjd d.mjd m.0;
        x = inside_holds pole d.x x.0;
        y = inside_holds pole d.y y.0;
        ut1_utc = inside_holds ut1utc d.ut1_utc u.0;
        tai_utc = inside_holds taiutc d.tai_utc u.1;
        mark = inside_holds mark d.mark (ap (inside mark) stands-marked);
      }

-- ---- a list of records

module _ (numbers : List ℤ) (e : list_right_rule numbers ≡ true) where
  counts : (eqb (6 * records_in numbers) (length numbers) ≡ true) × (inside day_count (pos (records_in numbers)) && all_below (records_in numbers) (λ (i : ℕ). can_stand_rule (record_at_rule numbers i)) ≡ true)
  unfolding list_right_rule
  counts = and_true (eqb (6 * records_in numbers) (length numbers)) _ e

  stand : (inside day_count (pos (records_in numbers)) ≡ true) × (all_below (records_in numbers) (λ (i : ℕ). can_stand_rule (record_at_rule numbers i)) ≡ true)
  stand = and_true (inside day_count (pos (records_in numbers))) _ counts.1

  pub right_long : 6 * records_in numbers ≡ length numbers
  right_long = eqb-true _ _ counts.0

  pub right_count : Holds day_count (pos (records_in numbers))
  right_count = inside_holds day_count (pos (records_in numbers)) stand.0

  pub right_stands : (i : ℕ) → i < records_in numbers → can_stand_rule (record_at_rule numbers i) ≡ true
  right_stands i l = below_each (records_in numbers) i (λ (k : ℕ). can_stand_rule (record_at_rule numbers k)) l stand.1

-- ---- the width of its decimals

-- a number that is printed no wider than the columns are
abbrev pub Narrow : Place → ℤ → Type 0
Narrow c z = length (printed c.decimals z) ≤ suc c.last - c.first

pole_size : (z : ℤ) → Holds pole z → ∣ z ∣ ≤ 1_000_000
pole_size z h = abs_of z 1_000_000 h.p_hi h.n_lo

ut1_size : (z : ℤ) → Holds ut1utc z → ∣ z ∣ ≤ 900_000_000
ut1_size z h = abs_of z 900_000_000 h.p_hi h.n_lo

-- a day has five digits and no sign
pub mjd-narrow : (z : ℤ) → Holds mjd z → Narrow mjd_columns (pos 100 *ℤ z)
mjd-narrow z h =
    let w = pos 100 *ℤ z in
    let p : pos_part w ≡ 100 * pos_part z + 0 * neg_part z = mul_pos_part (pos 100) z in
    let n : neg_part w ≡ 100 * neg_part z + 0 * pos_part z = mul_neg_part (pos 100) z in
    printed_above 2 4 w (omega (arith, h.n_lo)) (omega (arith, h.n_lo, h.p_hi))

-- x, y and UT1-UTC have one before the point, and a sign
pub pole-narrow : (z : ℤ) → Holds pole z → length (printed 6 z) ≤ 9
pole-narrow z h = printed-most 6 0 z (omega (arith, pole_size z h))

pub ut1-narrow : (z : ℤ) → Holds ut1utc z → Narrow ut1_columns (floor_z z 100)
ut1-narrow z h = printed-most 7 0 (floor_z z 100) (omega (arith, floor_abs z 100 9_000_000 (omega arith) (ut1_size z h)))
