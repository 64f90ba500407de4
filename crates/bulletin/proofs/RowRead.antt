-- The row of a record that can stand in one is read as the record. Assumes nothing.
use mathlib.Core.Path.{◌≡◌, refl, sym, ap, ap₂, ◌∙◌}
use mathlib.Core.Bool.{true}
use mathlib.Core.List.{List, ◌∷◌, ◌++◌}
use mathlib.Core.Logic.{◌⊎◌, inl, inr}
use Prim.Native.Nat.{ℕ, ◌-◌, ◌≤◌, ◌<◌}
use native.Mathlib.Omega.{arith}
use borrow.Author.Tests.{eq-eqb, le-leb}
use lib.Dec.{lit≤}
use lib.ListN.{length, drop_of_length-le}
use lib.Seq.{length-take-le, get_or-take, split_at}
use lib.IntN.{ℤ, pos, ◌*ℤ◌}
use Rattle.whole.specs.Whole.{floor_z, mod_z}
use Rattle.whole.proofs.Tests.{and_yes}
use Rattle.fields.specs.declared.Day.{Day}
use Rattle.bulletin.specs.Columns.{Place, mjd_columns, x_columns, y_columns, ut1_columns, bytes_in, holds_decimal_rule, value_in_rule}
use Rattle.bulletin.specs.Decimals.{is_decimal_rule, units_of_rule, printed}
use Rattle.bulletin.specs.Rows.{has_day_rule, day_in_rule, is_filled_rule}
use Rattle.bulletin.specs.Writing.{blank_row, row_for_rule, can_stand_rule}
use Rattle.bulletin.specs.ReadBack.{blanks, Reads, row_of, RowIsRead}
use Rattle.bulletin.proofs.FormRead.{printed_is_read}
use Rattle.bulletin.proofs.Hundreds.{hundreds_back, hundreds_floor, hundreds_left}
use Rattle.bulletin.proofs.Pasting.{Each}
use Rattle.bulletin.proofs.RowColumns.{bytes_same, bytes_here, bytes_other}
use Rattle.bulletin.proofs.RowText.{NoFeed, OnLine, line_reaches, first_row, second_row, third_row, mjd_on, x_on, y_on, ut1_on, mjd-fits, x_fits, y_fits, ut1-fits, blank_line, first-line, second-line, third_line, row_line}
use Rattle.bulletin.proofs.Standing.{stands_hundreds}

-- ---- columns that show a number

pub record Shows (c : Place) (row : List ℕ) (z : ℤ) : Type 0 where
  pub k : ℕ
  pub far : c.last ≤ length row
  pub bytes : bytes_in c row ≡ blanks k ++ printed c.decimals z

module _ {c : Place} {row : List ℕ} {z : ℤ} (h : Shows c row z) where
  shows_held : holds_decimal_rule c row ≡ true
  unfolding holds_decimal_rule
  shows_held = and_yes (le-leb c.last (length row) h.far) (ap (is_decimal_rule c.decimals) h.bytes ∙ (printed_is_read c.decimals h.k z).0)

  shows_value : value_in_rule c row ≡ z
  unfolding value_in_rule
  shows_value = ap (units_of_rule c.decimals) h.bytes ∙ (printed_is_read c.decimals h.k z).1

  -- in a row that has the same bytes there
  shows_same : {other : List ℕ} → c.last ≤ length other → bytes_in c other ≡ bytes_in c row → Shows c other z
  shows_same f e = record { k = h.k; far = f; bytes = e ∙ h.bytes }

-- ---- the row of a record, decimal by decimal

-- columns that a decimal does not stand in are as they were
module _ (d : Day) (e : can_stand_rule d ≡ true) (c : Place) (o : OnLine c) where
  past_mjd : 15 < c.first → bytes_in c (first_row d) ≡ bytes_in c blank_row
  past_mjd h = bytes_other mjd_columns blank_row (pos 100 *ℤ d.mjd) (line_reaches mjd_columns blank_row mjd_on blank_line) (mjd-fits d e) c (line_reaches c blank_row o blank_line) (inr h)

  past_x : (c.last < 19) ⊎ (27 < c.first) → bytes_in c (second_row d) ≡ bytes_in c (first_row d)
  past_x = bytes_other x_columns (first_row d) d.x (line_reaches x_columns (first_row d) x_on (first-line d e)) (x_fits d e) c (line_reaches c (first_row d) o (first-line d e))

  past_y : (c.last < 38) ⊎ (46 < c.first) → bytes_in c (third_row d) ≡ bytes_in c (second_row d)
  past_y = bytes_other y_columns (second_row d) d.y (line_reaches y_columns (second_row d) y_on (second-line d e)) (y_fits d e) c (line_reaches c (second_row d) o (second-line d e))

  past_ut1 : c.last < 59 → bytes_in c (row_for_rule d) ≡ bytes_in c (third_row d)
  unfolding row_for_rule
  past_ut1 h =
      bytes_other ut1_columns (third_row d) (floor_z d.ut1_utc 100) (line_reaches ut1_columns (third_row d) ut1_on (third_line d e)) (ut1-fits d e) c
      (line_reaches c (third_row d) o (third_line d e)) (inl h)

  -- without the line feed
  cut : bytes_in c (row_of d) ≡ bytes_in c (row_for_rule d)
  cut =
      let l = length-take-le 185 (row_for_rule d) (omega (arith, (row_line d e).long)) in
      bytes_same c (row_of d) (row_for_rule d) (record { apt = o.apt; far = omega (arith, o.far, l) }) (line_reaches c (row_for_rule d) o (row_line d e))
      (λ i a b. get_or-take 185 (row_for_rule d) i 0 (omega (arith, b, o.far)))

  whole : {z : ℤ} → Shows c (row_for_rule d) z → Shows c (row_of d) z
  whole h = shows_same h (omega (arith, o.far, length-take-le 185 (row_for_rule d) (omega (arith, (row_line d e).long)))) cut

module _ (d : Day) (e : can_stand_rule d ≡ true) where
  mjd_shown : Shows mjd_columns (row_of d) (pos 100 *ℤ d.mjd)
  mjd_shown =
      whole d e mjd_columns mjd_on
      (record {
        k = 8 - length (printed 2 (pos 100 *ℤ d.mjd));
        far = omega (arith, (row_line d e).long);
        bytes =
            past_ut1 d e mjd_columns mjd_on (lit≤ tt)
            ∙ past_y d e mjd_columns mjd_on (inl (lit≤ tt))
            ∙ past_x d e mjd_columns mjd_on (inl (lit≤ tt))
            ∙ bytes_here mjd_columns blank_row (pos 100 *ℤ d.mjd) (line_reaches mjd_columns blank_row mjd_on blank_line) (mjd-fits d e) refl;
      })

  x_shown : Shows x_columns (row_of d) d.x
  x_shown =
      whole d e x_columns x_on
      (record {
        k = 9 - length (printed 6 d.x);
        far = omega (arith, (row_line d e).long);
        bytes =
            past_ut1 d e x_columns x_on (lit≤ tt)
            ∙ past_y d e x_columns x_on (inl (lit≤ tt))
            ∙ bytes_here x_columns (first_row d) d.x (line_reaches x_columns (first_row d) x_on (first-line d e)) (x_fits d e) (past_mjd d e x_columns x_on (lit≤ tt));
      })

  y_shown : Shows y_columns (row_of d) d.y
  y_shown =
      whole d e y_columns y_on
      (record {
        k = 9 - length (printed 6 d.y);
        far = omega (arith, (row_line d e).long);
        bytes =
            past_ut1 d e y_columns y_on (lit≤ tt)
            ∙ bytes_here y_columns (second_row d) d.y (line_reaches y_columns (second_row d) y_on (second-line d e)) (y_fits d e)
            (past_x d e y_columns y_on (inr (lit≤ tt)) ∙ past_mjd d e y_columns y_on (lit≤ tt));
      })

  ut1_shown : Shows ut1_columns (row_of d) (floor_z d.ut1_utc 100)
  unfolding row_for_rule
  ut1_shown =
      whole d e ut1_columns ut1_on
      (record {
        k = 10 - length (printed 7 (floor_z d.ut1_utc 100));
        far = omega (arith, (row_line d e).long);
        bytes =
            bytes_here ut1_columns (third_row d) (floor_z d.ut1_utc 100) (line_reaches ut1_columns (third_row d) ut1_on (third_line d e)) (ut1-fits d e)
            (past_y d e ut1_columns ut1_on (inr (lit≤ tt)) ∙ past_x d e ut1_columns ut1_on (inr (lit≤ tt)) ∙ past_mjd d e ut1_columns ut1_on (lit≤ tt));
      })

-- ---- so the row is read as the record

pub row_reads : (d : Day) → can_stand_rule d ≡ true → Reads (row_of d) d
unfolding has_day_rule day_in_rule is_filled_rule
row_reads d e =
    let m = shows_value (mjd_shown d e) in
    record {
      dated = and_yes (shows_held (mjd_shown d e)) (eq-eqb _ _ (ap (λ (z : ℤ). mod_z z 100) m ∙ hundreds_left d.mjd));
      day = ap (λ (z : ℤ). floor_z z 100) m ∙ hundreds_floor d.mjd;
      filled = and_yes (shows_held (x_shown d e)) (and_yes (shows_held (y_shown d e)) (shows_held (ut1_shown d e)));
      x = shows_value (x_shown d e);
      y = shows_value (y_shown d e);
      ut1 = ap (λ (z : ℤ). pos 100 *ℤ z) (shows_value (ut1_shown d e)) ∙ hundreds_back d.ut1_utc (stands_hundreds d e);
    }

pub row_is_read : RowIsRead
row_is_read d e =
    let h = row_line d e in (
      length-take-le 185 (row_for_rule d) (omega (arith, h.long)),
      split_at (row_for_rule d) 185 0 (omega (arith, h.long)) ∙ ap₂ (λ (b : ℕ) (x : List ℕ). row_of d ++ (b ∷ x)) h.ends (drop_of_length-le (row_for_rule d) {i = 186} (omega (arith, h.long))),
      row_reads d e,
    )

pub row_plain : (d : Day) → can_stand_rule d ≡ true → Each NoFeed (row_of d)
row_plain d e i l f =
    let m : i < 185 = omega (arith, l, (row_is_read d e).0) in
    (row_line d e).plain i m (sym (get_or-take 185 (row_for_rule d) i 0 m) ∙ f)
