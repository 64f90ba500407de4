-- The two round trips of the calls where the days have kind 3. Assumes nothing.
use mathlib.Core.Path.{◌≡◌, sym, ap, ◌∙◌}
use Prim.Native.Nat.{ℕ, ◌+◌, ◌*◌, ◌/◌, ◌%◌, ◌≤◌, ◌<◌}
use native.Mathlib.Omega.{arith}
use mathlib.Core.Bool.{true}
use mathlib.Core.List.{List, [], ◌∷◌}
use lib.ListN.{length, get_or}
use lib.IntN.{ℤ, pos, nat_abs}
use Rattle.whole.specs.Ranges.{eq_z}
use Rattle.whole.specs.Values.{first_values, joined}
use Rattle.whole.specs.Answers.{number}
use Rattle.whole.proofs.Each.{below_all}
use Rattle.whole.proofs.Order.{eq_z_refl}
use Rattle.whole.proofs.Values.{values_long, values_same, value_at, joined_same}
use Rattle.text.specs.Bytes.{pasted}
use Rattle.text.proofs.Numbers.{Bytes}
use Rattle.fields.specs.Records.{number_in}
use Rattle.sections.specs.Layouts.{places, layout_in_rule}
use Rattle.sections.specs.File.{refusal_of_rule, kind_of, count_of_rule, size_of, field_at_rule}
use Rattle.sections.specs.Rows.{row_of}
use Rattle.sections.proofs.Shapes.{today}
use Rattle.session.proofs.Fields.{row_number, row_none}
use Rattle.writer.specs.Writing.{kind_at, list_at, size_in, kinds_with_rule, lists_right_rule, mark_at, unmarked, without_marks}
use Rattle.writer.specs.Handed.{rows_in, stations_in, sources_in, days_in, passes_in}
use Rattle.writer.specs.Promises.{WritePromise}
use Rattle.writer.specs.Round.{Longs, ReadBack}
use Rattle.writer.proofs.Rows.{joined_values}
use Rattle.writer.proofs.Again.{lists_again}
use Rattle.writer.proofs.RoundTrips.{each-place, written_as}
use Rattle.writer.proofs.Handing.{days-first, stations-rows, sources-rows, passes-rows, hands}
use Rattle.writer.proofs.DayKinds.{answered, as_standing, keeps_standing}
use Rattle.writer.proofs.WithoutMarks.{kept_fit, same-days}
use Rattle.writer.proofs.KindThree.{lists_same, days-whole, three_file, three-accepted}

-- ---- the days that are handed out of the file

module _ (s : List ℕ) (h : refusal_of_rule s ≡ 0) where
  handed : days_in s ≡ first_values (6 * count_of_rule s 2) (λ (k : ℕ). number_in (row_of places s 2 (k / 6)) (k % 6))
  handed =
      days-first s h
      ∙ joined_values 6 (count_of_rule s 2) _ _
      (λ i.
      values_same 6 _ _
      (λ j l.
      let a : (6 * i + j) / 6 ≡ i = omega arith in
      let b : (6 * i + j) % 6 ≡ j = omega arith in
      rw (a, b)))

  handed_long : length (days_in s) ≡ 6 * count_of_rule s 2
  handed_long = ap length handed ∙ values_long (6 * count_of_rule s 2) _

  handed_at : (i j : ℕ) → i < count_of_rule s 2 → j < 6 → get_or (days_in s) (6 * i + j) (pos 0) ≡ number_in (row_of places s 2 i) j
  handed_at i j l m =
      let a : (6 * i + j) / 6 ≡ i = omega arith in
      let b : (6 * i + j) % 6 ≡ j = omega arith in
      ap (λ (x : List ℤ). get_or x (6 * i + j) (pos 0)) handed ∙ value_at (6 * count_of_rule s 2) (6 * i + j) _ (omega arith) ∙ rw (a, b)

  handed_whole : 6 * (length (days_in s) / 6) ≡ length (days_in s)
  handed_whole = omega (arith, handed_long)

  module _ (k : kind_of s 2 ≡ 3) where
    size : size_of places s 2 ≡ 5
    unfolding layout_in_rule places
    size = ap (size_in places 2) k

    handed_unmarked : unmarked (days_in s) ≡ true
    unfolding unmarked
    handed_unmarked =
        below_all _ (λ (i : ℕ). eq_z (mark_at (days_in s) i) (pos 0))
        (λ i l. eq_z_refl _ _ (handed_at i 5 (omega (arith, handed_long)) (omega arith) ∙ row_none places s 2 i 5 (omega (arith, size))))

    handed_kept : without_marks (days_in s) ≡ rows_in places s 2
    unfolding without_marks rows_in
    handed_kept =
        let n : length (days_in s) / 6 ≡ count_of_rule s 2 = omega (arith, handed_long) in
        ap (λ (m : ℕ). joined m (λ (i : ℕ). first_values 5 (λ (j : ℕ). get_or (days_in s) (6 * i + j) (pos 0)))) n
        ∙ joined_same _ _ (count_of_rule s 2)
        (λ i l.
        values_same 5 _ (field_at_rule places s 2 i) (λ j m. handed_at i j l (omega arith) ∙ row_number places s 2 i j (omega (arith, size)))
        ∙ ap (λ (m : ℕ). first_values m (field_at_rule places s 2 i)) (sym size))

-- ---- what is written is read back

pub three_back : (p q r t : List ℤ) (room : List ℕ) → Longs p → Longs q → Longs r → Longs t → ReadBack (pos 3) p q r t room
three_back p q r t room fp fq fr ft e =
    let a = three-accepted p q r t (length room) (ap nat_abs (sym (answered (pos 3) p q r t (length room)) ∙ e)) in
    let w = keeps_standing (pos 3) p q r t room (three_file p q r t (length room) a.0 a.1) (each-place _ fp fq (kept_fit r fr) ft) e in
    let h = w.accepted in
    let k = w.kind 2 (omega arith) in
    hands 3 p q r (without_marks r) t _ w
    (same-days _ r (handed_whole _ h) (days-whole p q r t a.0) (handed_unmarked _ h k) a.1 (handed_kept _ h k ∙ w.rows 2 (omega arith)))

-- ---- what is accepted is what is written

pub three_again : (s : List ℕ) → Bytes s → refusal_of_rule s ≡ 0 → ((p : ℕ) → p < 4 → kind_of s p ≡ kind_at (kinds_with_rule 3) p) → (room : List ℕ) → length s ≤ length room
    → WritePromise (pos 3) (stations_in s) (sources_in s) (days_in s) (passes_in s) room (number (pos (length s))) (pasted room 0 s)
three_again s b h k room l =
    let p = stations_in s in
    let q = sources_in s in
    let r = days_in s in
    let t = passes_in s in
    let ls = p ∷ q ∷ without_marks r ∷ t ∷ [] in
    let same : (i : ℕ) → i < 4 → kind_at (kinds_with_rule 3) i ≡ kind_of s i = λ i m. sym (k i m) in
    let rows : (i : ℕ) → i < 4 → list_at ls i ≡ rows_in places s i = each-place _ (stations-rows s h (k 0 (omega arith))) (sources-rows s h (k 1 (omega arith))) (handed_kept s h (k 2 (omega arith))) (passes-rows s h (k 3 (omega arith))) in
    let right : lists_right_rule places (kinds_with_rule 5) (p ∷ q ∷ r ∷ t ∷ []) ≡ true = sym (lists_same p q r t (handed_whole s h)) ∙ lists_again today s h (kinds_with_rule 3) ls same rows in
    as_standing (pos 3) p q r t room (three_file p q r t (length room) right (handed_unmarked s h (k 2 (omega arith)))) _ _ (written_as s b (kinds_with_rule 3) ls same rows h room l)
