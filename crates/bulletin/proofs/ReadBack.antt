-- What `rows_from_days` writes of consecutive days is read back by `days_from_rows` as the same days. Assumes nothing.
use mathlib.Core.Path.{◌≡◌, refl, sym, ap, ap₂, subst, ◌∙◌}
use mathlib.Core.Bool.{Bool, true, false}
use mathlib.Core.List.{List, [], ◌∷◌, ◌++◌}
use Prim.Native.Nat.{ℕ, zero, suc, ◌+◌, ◌-◌, ◌*◌, ◌≤◌, ◌<◌}
use native.Mathlib.Omega.{arith}
use borrow.Author.Tests.{lt-ltb, le-leb}
use lib.Dec.{ltb}
use lib.ListN.{length, get_or, take, drop, replicate, length-map, length-drop}
use lib.Seq.{take-add, take-length}
use lib.IntN.{ℤ, pos, nat_abs, ◌+ℤ◌, ◌*ℤ◌}
use Rattle.whole.specs.declared.Number.{Number}
use Rattle.whole.specs.Each.{implies}
use Rattle.whole.specs.Values.{joined}
use Rattle.whole.proofs.Answers.{given_yes}
use Rattle.whole.proofs.Each.{below_all}
use Rattle.whole.proofs.Order.{eq_z_refl}
use Rattle.whole.proofs.Quote.{of≡, #, ⟨◌⟩, ◌⊕◌}
use Rattle.whole.proofs.Tests.{and_yes}
use Rattle.whole.proofs.Values.{values_long, value_at, joined_even, joined_same}
use Rattle.text.proofs.Puts.{put_start}
use Rattle.fields.specs.Ranges.{mjd}
use Rattle.fields.specs.Records.{day_from_rule}
use Rattle.fields.proofs.Inside.{holds_inside}
use Rattle.bulletin.specs.Columns.{x_columns, y_columns, ut1_columns, value_in_rule}
use Rattle.bulletin.specs.Rows.{rows_of, row_at_rule, has_day_rule, day_in_rule, is_filled_rule, days_of, first_in_rule}
use Rattle.bulletin.specs.Reading.{day_count, in_ranges_rule, numbers_of_rule, record_for, all_dated, is_taken, taken_filled_rule, days_there_rule, record_of_rule, values_right, days_number, records, days, no_days_rule, days_outcome}
use Rattle.bulletin.specs.Writing.{row_for_rule, can_stand_rule, Written, records_in, record_at_rule, list_right_rule, rows_text}
use Rattle.bulletin.specs.Promises.{RowsPromise}
use Rattle.bulletin.specs.ReadBack.{Reads, row_of, first_day, tai_of, Consecutive, TextBack, ReadBack}
use Rattle.bulletin.proofs.ListingLaws.{map_at}
use Rattle.bulletin.proofs.RowRead.{row_reads}
use Rattle.bulletin.proofs.RowText.{row_long}
use Rattle.bulletin.proofs.RowsAnswer.{accepted, not_refused, rows_right}
use Rattle.bulletin.proofs.Standing.{stands_in_lem, stands-ranges, stands-marked, right_long, right_count, right_stands}
use Rattle.bulletin.proofs.TextRead.{ones_long, ones_at, text_is_read, first_at}

-- ---- the numbers of the records are the list

six : (xs : List ℤ) → 6 ≤ length xs → numbers_of_rule (day_from_rule xs) ≡ take 6 xs
unfolding day_from_rule
six (a ∷ b ∷ c ∷ d ∷ e ∷ f ∷ xs) h = refl
six (a ∷ b ∷ c ∷ d ∷ e ∷ []) h = absurd (omega (arith, h))
six (a ∷ b ∷ c ∷ d ∷ []) h = absurd (omega (arith, h))
six (a ∷ b ∷ c ∷ []) h = absurd (omega (arith, h))
six (a ∷ b ∷ []) h = absurd (omega (arith, h))
six (a ∷ []) h = absurd (omega (arith, h))
six [] h = absurd (omega (arith, h))

numbers_are : (numbers : List ℤ) (n : ℕ) → 6 * n ≤ length numbers → joined n (λ (i : ℕ). numbers_of_rule (record_at_rule numbers i)) ≡ take (6 * n) numbers
unfolding joined
numbers_are numbers zero h = refl
numbers_are numbers (suc n) h =
    let e : 6 * suc n ≡ 6 * n + 6 = omega arith in
    ap₂ (λ (x y : List ℤ). x ++ y) (numbers_are numbers n (omega arith)) (six (drop (6 * n) numbers) (omega (arith, length-drop (6 * n) numbers)))
    ∙ sym (ap (λ (k : ℕ). take k numbers) e ∙ take-add (6 * n) 6 numbers)

-- ---- the written text, row by row

module _ (numbers : List ℤ) (r : list_right_rule numbers ≡ true) where
  abbrev n : ℕ
  n = records_in numbers

  abbrev text : List ℕ
  text = rows_text numbers

  rows-count : length (rows_of text) ≡ n
  rows-count = ap length (text_is_read numbers r) ∙ ones_long (λ (i : ℕ). row_of (record_at_rule numbers i)) n

  module _ (i : ℕ) (l : i < n) where
    stands : can_stand_rule (record_at_rule numbers i) ≡ true
    stands = right_stands numbers r i l

    row_is : row_at_rule text i ≡ row_of (record_at_rule numbers i)
    row_is = ap (λ (rows : List (List ℕ)). get_or rows i []) (text_is_read numbers r) ∙ ones_at (λ (k : ℕ). row_of (record_at_rule numbers k)) n i [] l

    row_read : Reads (row_at_rule text i) (record_at_rule numbers i)
    row_read = subst (λ (row : List ℕ). Reads row (record_at_rule numbers i)) (sym row_is) (row_reads (record_at_rule numbers i) stands)

    day_is : get_or (days_of text) i (pos 0) ≡ (record_at_rule numbers i).mjd
    day_is = map_at day_in_rule (rows_of text) i [] (pos 0) (omega (arith, l, rows-count)) ∙ row_read.day

  dates_long : length (days_of text) ≡ n
  dates_long = length-map (rows_of text) day_in_rule ∙ rows-count

  text_long : length text ≡ 186 * n
  unfolding rows_text
  text_long = joined_even (λ (i : ℕ). row_for_rule (record_at_rule numbers i)) 186 n (λ i l. row_long (record_at_rule numbers i) (stands i l))

  -- ---- of consecutive days

  module _ (c : Consecutive numbers) where
    abbrev first : ℤ
    first = first_day numbers

    abbrev tai : List ℤ
    tai = tai_of numbers

    row_of_day : (k : ℕ) → k < n → first_in_rule (days_of text) (first +ℤ pos k) ≡ k
    row_of_day k l =
        first_at k (days_of text) (first +ℤ pos k) (omega (arith, dates_long, l)) (day_is k l ∙ c k l)
        (λ i m e.
        let q = sym (day_is i (omega (arith, m, l)) ∙ c i (omega (arith, m, l))) ∙ e in
        omega (arith, m, of≡ (⟨ first ⟩ ⊕ # i) (⟨ first ⟩ ⊕ # k) q))

    record_is : (k : ℕ) → k < n → record_of_rule text first (pos n) tai k ≡ record_at_rule numbers k
    unfolding record_for day_from_rule
    record_is k l =
        let e = ap (row_at_rule text) (row_of_day k l) in
        let h = row_read k l in
        λ j.
        record {
          mjd = sym (c k l) j;
          x = (ap (value_in_rule x_columns) e ∙ h.x) j;
          y = (ap (value_in_rule y_columns) e ∙ h.y) j;
          ut1_utc = (ap (λ (row : List ℕ). pos 100 *ℤ value_in_rule ut1_columns row) e ∙ h.ut1) j;
          tai_utc = value_at n k (λ (i : ℕ). (record_at_rule numbers i).tai_utc) l j;
          mark = sym (stands-marked (record_at_rule numbers k) (stands k l)) j;
        }

    -- ---- no refusal applies

    implied : (t u : Bool) → u ≡ true → implies t u ≡ true
    implied true u e = e
    implied false u e = refl

    dated : all_dated text ≡ true
    unfolding all_dated
    dated = below_all (length (rows_of text)) (λ (i : ℕ). has_day_rule (row_at_rule text i)) (λ i l. (row_read i (omega (arith, l, rows-count))).dated)

    filled : taken_filled_rule text first (pos n) ≡ true
    unfolding taken_filled_rule
    filled =
        below_all (length (rows_of text)) (λ (i : ℕ). implies (is_taken text first (pos n) i) (is_filled_rule (row_at_rule text i)))
        (λ i l. implied (is_taken text first (pos n) i) (is_filled_rule (row_at_rule text i)) (row_read i (omega (arith, l, rows-count))).filled)

    there : days_there_rule text first (pos n) ≡ true
    unfolding days_there_rule
    there =
        below_all n (λ (k : ℕ). ltb (first_in_rule (days_of text) (first +ℤ pos k)) (length (rows_of text)))
        (λ k l. lt-ltb (first_in_rule (days_of text) (first +ℤ pos k)) (length (rows_of text)) (omega (arith, row_of_day k l, l, rows-count)))

    right : values_right text first (pos n) tai ≡ true
    unfolding values_right
    right =
        let h = right_count numbers r in
        and_yes (holds_inside mjd first (stands_in_lem (record_at_rule numbers 0) (stands 0 (omega (arith, h.p_lo)))).mjd)
        (and_yes (holds_inside day_count (pos n) h)
        (and_yes (eq_z_refl (pos (length tai)) (pos n) (ap pos (values_long n (λ (i : ℕ). (record_at_rule numbers i).tai_utc))))
        (below_all n (λ (k : ℕ). in_ranges_rule (record_of_rule text first (pos n) tai k)) (λ k l. ap in_ranges_rule (record_is k l) ∙ stands-ranges (record_at_rule numbers k) (stands k l)))))

    none : days_number text first (pos n) tai ≡ 0
    unfolding days_number
    none = rw (le-leb (length text) 65536 (omega (arith, text_long, (right_count numbers r).p_hi)), dated, filled, there, right)

    same : records text first (pos n) tai ≡ numbers ++ replicate (384 - length numbers) (pos 0)
    unfolding records
    same =
        let l = right_long numbers r in
        ap₂ (λ (x y : List ℤ). x ++ y)
        (joined_same (λ (k : ℕ). numbers_of_rule (record_of_rule text first (pos n) tai k)) (λ (k : ℕ). numbers_of_rule (record_at_rule numbers k)) n (λ k m. ap numbers_of_rule (record_is k m))
        ∙ numbers_are numbers n (omega (arith, l))
        ∙ ap (λ (k : ℕ). take k numbers) l
        ∙ take-length numbers)
        (ap (λ (k : ℕ). replicate (384 - k) (pos 0)) l)

pub text_back : (numbers : List ℤ) → TextBack numbers
unfolding days_outcome
text_back numbers r c =
    let n = records_in numbers in
    let text = rows_text numbers in
    given_yes (days_number text (first_day numbers) (pos n) (tai_of numbers)) (days (records text (first_day numbers) (pos n) (tai_of numbers))) no_days_rule (none numbers r c)
    ∙ ap days (same numbers r c)

-- ---- of the calls

-- what is written stands before the place that the answer names
module _ (numbers : List ℤ) (room : List ℕ) (a : Number) (after : List ℕ) (p : RowsPromise numbers room a after) (e : a.refusal ≡ pos 0) where
  tests : (list_right_rule numbers ≡ true) × (186 * records_in numbers ≤ length room)
  tests = accepted numbers room (not_refused numbers room (sym (ap (λ (w : Written). w.answer.refusal) p) ∙ e))

  wrote : take (nat_abs a.value) after ≡ rows_text numbers
  wrote =
      let o = p ∙ rows_right numbers room tests.0 tests.1 in
      let place : nat_abs a.value ≡ 0 + length (rows_text numbers) = ap (λ (w : Written). nat_abs w.answer.value) o ∙ omega (arith, text_long numbers tests.0) in
      put_start {d = room} (record { bytes = ap (λ (w : Written). w.room) o; place = place })

pub read_back : (numbers : List ℤ) (room : List ℕ) → ReadBack numbers room
read_back numbers room a after back p e c q =
    q
    ∙ ap (λ (text : List ℕ). days_outcome text (first_day numbers) (pos (records_in numbers)) (tai_of numbers)) (wrote numbers room a after p e)
    ∙ text_back numbers (tests numbers room a after p e).0 c
