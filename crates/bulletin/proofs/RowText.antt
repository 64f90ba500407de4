-- What is proved of the row of a record that can stand in one: it has 186 bytes, a line feed last and nowhere else. Assumes nothing.
use mathlib.Core.Path.{◌≡◌, refl, sym, ap, ◌∙◌}
use mathlib.Core.Bool.{true}
use mathlib.Core.List.{List, [], ◌∷◌, ◌++◌}
use Prim.Native.Nat.{ℕ, suc, ◌+◌, ◌-◌, ◌*◌, ◌/◌, ◌^◌, ◌≤◌, ◌<◌}
use native.Mathlib.Decide.{dec_lt}
use native.Mathlib.Omega.{arith}
use lib.Dec.{lit≤}
use lib.ListN.{length, get_or, replicate, get_or-replicate, get_or-append}
use lib.IntN.{ℤ, pos, negsuc, ◌*ℤ◌}
use Rattle.whole.specs.Whole.{∣◌∣, floor_z}
use Rattle.whole.specs.Values.{joined}
use Rattle.whole.proofs.Linear.{and_true}
use Rattle.whole.proofs.Values.{joined_even}
use Rattle.text.specs.Bytes.{pasted}
use Rattle.text.specs.Decimal.{is_digit_rule, all_digits_rule, digits_of}
use Rattle.text.proofs.Paste.{pasted-next}
use Rattle.text.proofs.Reading.{digit_in, digits_all}
use Rattle.fields.specs.declared.Day.{Day}
use Rattle.bulletin.specs.Columns.{Place, mjd_columns, x_columns, y_columns, ut1_columns, with_decimal}
use Rattle.bulletin.specs.Decimals.{last_digits, minus_of, printed}
use Rattle.bulletin.specs.Writing.{blank_row, row_for_rule, can_stand_rule}
use Rattle.bulletin.proofs.ColumnLaws.{Apt, mjd_apt, x_apt, y_apt, ut1_apt}
use Rattle.bulletin.proofs.Pasting.{pasted-low, pasted_in, pasted_high, Each, each_none, each_more, each_both}
use Rattle.bulletin.proofs.Printing.{last_all}
use Rattle.bulletin.proofs.RowColumns.{Reaches, with_long, with_behind}
use Rattle.bulletin.proofs.Standing.{Narrow, stands_in_lem, mjd-narrow, pole-narrow, ut1-narrow}

-- ---- no byte of a printed decimal is a line feed

abbrev pub NoFeed : ℕ → Type 0
NoFeed b = b ≡ 10 → ⊥

digits_plain : (ds : List ℕ) → all_digits_rule ds ≡ true → Each NoFeed ds
unfolding all_digits_rule
digits_plain [] e = each_none NoFeed
digits_plain (d ∷ ds) e =
    let h = and_true (is_digit_rule d) (all_digits_rule ds) e in
    each_more NoFeed d ds (λ f. omega (arith, f, digit_in d h.0)) (digits_plain ds h.1)

minus_plain : (z : ℤ) → Each NoFeed (minus_of z)
minus_plain (pos n) = each_none NoFeed
minus_plain (negsuc n) = each_more NoFeed 45 [] (λ f. omega (arith, f)) (each_none NoFeed)

printed_plain : (p : ℕ) (z : ℤ) → Each NoFeed (printed p z)
unfolding printed
printed_plain p z =
    let ds = digits_of (∣ z ∣ / 10 ^ p) in
    let es = last_digits p ∣ z ∣ in
    each_both NoFeed (minus_of z) (ds ++ (46 ∷ es)) (minus_plain z)
    (each_both NoFeed ds (46 ∷ es) (digits_plain ds (digits_all (∣ z ∣ / 10 ^ p)))
    (each_more NoFeed 46 es (λ f. omega (arith, f)) (digits_plain es (last_all p ∣ z ∣))))

-- ---- a line of 185 columns

pub record Line (row : List ℕ) : Type 0 where
  pub long : length row ≡ 186
  pub ends : get_or row 185 0 ≡ 10
  pub plain : (i : ℕ) → i < 185 → NoFeed (get_or row i 0)

pub blank_line : Line blank_row
blank_line =
    record {
      long = refl;
      ends = refl;
      plain =
          λ i l f.
          let e : get_or blank_row i 0 ≡ 32 = get_or-append (replicate 185 32) (10 ∷ []) 0 i l ∙ get_or-replicate {A = ℕ} 185 i 32 0 l in
          omega (arith, e, f);
    }

-- columns of such a line
pub record OnLine (c : Place) : Type 0 where
  pub apt : Apt c
  pub far : c.last ≤ 185

pub line_reaches : (c : Place) (row : List ℕ) → OnLine c → Line row → Reaches c row
line_reaches c row o h = record { apt = o.apt; far = omega (arith, o.far, h.long) }

module _ (c : Place) (row : List ℕ) (z : ℤ) (o : OnLine c) (h : Line row) (n : Narrow c z) where
  abbrev text : List ℕ
  text = printed c.decimals z

  abbrev at : ℕ
  at = c.last - length text

  fits : at + length text ≤ length row
  fits = omega (arith, n, h.long, o.apt, o.far)

  plain_by : (i : ℕ) → i < 185 → Dec (i < at) → Dec (i < at + length text) → NoFeed (get_or (with_decimal c row z) i 0)
  unfolding with_decimal
  plain_by i m (yes p) q f = h.plain i m (sym (pasted-low row at text fits i p) ∙ f)
  plain_by i m (no p) (yes q) f =
      let e : at + (i - at) ≡ i = omega (arith, p) in
      printed_plain c.decimals z (i - at) (omega (arith, p, q))
      (sym (pasted_in row at text fits (i - at) (omega (arith, p, q))) ∙ ap (λ (k : ℕ). get_or (with_decimal c row z) k 0) e ∙ f)
  plain_by i m (no p) (no q) f = h.plain i m (sym (pasted_high row at text fits i (omega (arith, q))) ∙ f)

  with_line : Line (with_decimal c row z)
  with_line =
      let r = line_reaches c row o h in
      record {
        long = with_long c row z r n ∙ h.long;
        ends = with_behind c row z r n 185 o.far ∙ h.ends;
        plain = λ i m. plain_by i m (dec_lt i at) (dec_lt i (at + length text));
      }

-- ---- the four columns, and the row of a record

pub mjd_on : OnLine mjd_columns
mjd_on = record { apt = mjd_apt; far = lit≤ tt }

pub x_on : OnLine x_columns
x_on = record { apt = x_apt; far = lit≤ tt }

pub y_on : OnLine y_columns
y_on = record { apt = y_apt; far = lit≤ tt }

pub ut1_on : OnLine ut1_columns
ut1_on = record { apt = ut1_apt; far = lit≤ tt }

abbrev pub first_row : Day → List ℕ
first_row d = with_decimal mjd_columns blank_row (pos 100 *ℤ d.mjd)

abbrev pub second_row : Day → List ℕ
second_row d = with_decimal x_columns (first_row d) d.x

abbrev pub third_row : Day → List ℕ
third_row d = with_decimal y_columns (second_row d) d.y

module _ (d : Day) (e : can_stand_rule d ≡ true) where
  pub mjd-fits : Narrow mjd_columns (pos 100 *ℤ d.mjd)
  mjd-fits = mjd-narrow d.mjd (stands_in_lem d e).mjd

  pub x_fits : Narrow x_columns d.x
  x_fits = pole-narrow d.x (stands_in_lem d e).x

  pub y_fits : Narrow y_columns d.y
  y_fits = pole-narrow d.y (stands_in_lem d e).y

  pub ut1-fits : Narrow ut1_columns (floor_z d.ut1_utc 100)
  ut1-fits = ut1-narrow d.ut1_utc (stands_in_lem d e).ut1_utc

  pub first-line : Line (first_row d)
  first-line = with_line mjd_columns blank_row (pos 100 *ℤ d.mjd) mjd_on blank_line mjd-fits

  pub second-line : Line (second_row d)
  second-line = with_line x_columns (first_row d) d.x x_on first-line x_fits

  pub third_line : Line (third_row d)
  third_line = with_line y_columns (second_row d) d.y y_on second-line y_fits

  pub row_line : Line (row_for_rule d)
  unfolding row_for_rule
  row_line = with_line ut1_columns (third_row d) (floor_z d.ut1_utc 100) ut1_on third_line ut1-fits

  pub row_long : length (row_for_rule d) ≡ 186
  row_long = row_line.long

-- ---- rows one behind the other, from the start of a room

pub rows_next : (room : List ℕ) (f : ℕ → List ℕ) (n : ℕ) → ((i : ℕ) → i < n → length (f i) ≡ 186) → 186 * n ≤ length room
    → pasted (pasted room 0 (joined n f)) (186 * n) (f n) ≡ pasted room 0 (joined (suc n) f)
unfolding joined
rows_next room f n e h =
    let l : 186 * n ≡ 0 + length (joined n f) = omega (arith, joined_even f 186 n e) in
    ap (λ (k : ℕ). pasted (pasted room 0 (joined n f)) k (f n)) l ∙ pasted-next room 0 (joined n f) (omega (arith, l)) (f n)
