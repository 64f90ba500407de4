-- The records that the calls hand out are the rows of the file. Assumes nothing.
use mathlib.Core.Path.{◌≡◌, refl, sym, ap, ◌∙◌}
use Prim.Native.Nat.{ℕ, ◌<◌}
use native.Mathlib.Omega.{arith}
use mathlib.Core.List.{List, [], ◌∷◌}
use lib.IntN.{ℤ, pos, nat_abs}
use Rattle.whole.specs.Values.{first_values, joined}
use Rattle.whole.proofs.Values.{values_same, joined_same}
use Rattle.fields.specs.Records.{number_in, station_from_rule, source_from_rule, day_from_rule, pass_from_rule}
use Rattle.sections.specs.Layouts.{places, layout_in_rule}
use Rattle.sections.specs.File.{refusal_of_rule, count_of_rule, kind_of, size_of}
use Rattle.sections.specs.Rows.{row_of}
use Rattle.session.specs.declared.Counts.{Counts}
use Rattle.session.specs.Records.{check_of, counts_in, station_of_rule, source_of, day_of_rule, pass_of_rule}
use Rattle.session.proofs.Fields.{row_number}
use Rattle.session.proofs.Answers.{check_number, check_accepted, asked-there, station_yes, source_yes, day_yes, pass_yes}
use Rattle.writer.specs.Writing.{size_in, kinds_with_rule}
use Rattle.writer.specs.Handed.{rows_in, of_station, of_source, of_day, of_pass_rule, stations_in, sources_in, days_in, passes_in}
use Rattle.writer.specs.Round.{Keeps, Hands}

-- of each record of place p the first numbers of its row
abbrev pub first_in_rule : List ℕ → ℕ → ℕ → List ℤ
first_in_rule s p size = joined (count_of_rule s p) (λ (i : ℕ). first_values size (number_in (row_of places s p i)))

module _ (s : List ℕ) (h : refusal_of_rule s ≡ 0) where
  -- as many records as `check` counts
  counted : (p size : ℕ) (count : Counts → ℤ) → count (counts_in s) ≡ pos (count_of_rule s p)
      → (f : ℕ → List ℤ) → ((i : ℕ) → i < count_of_rule s p → f i ≡ first_values size (number_in (row_of places s p i))) → joined (nat_abs (count (check_of s))) f ≡ first_in_rule s p size
  counted p size count c f r =
      ap (λ (n : ℕ). joined n f) (ap nat_abs (ap count (check_accepted s h) ∙ c)) ∙ joined_same f _ (count_of_rule s p) r

  -- where they have so many numbers, these are the rows
  whole-rows : (p k size : ℕ) → kind_of s p ≡ k → size_in places p k ≡ size → first_in_rule s p size ≡ rows_in places s p
  unfolding rows_in
  whole-rows p k size e z =
      let n : size ≡ size_of places s p = sym (ap (size_in places p) e ∙ z) in
      joined_same _ _ (count_of_rule s p)
      (λ i m. ap (λ (n : ℕ). first_values n (number_in (row_of places s p i))) n ∙ values_same (size_of places s p) _ _ (row_number places s p i))

  pub stations-rows : kind_of s 0 ≡ 1 → stations_in s ≡ rows_in places s 0
  unfolding stations_in station_of_rule station_from_rule first_values layout_in_rule places
  stations-rows k = counted 0 4 (λ (c : Counts). c.stations) refl _ (λ i l. ap of_station (station_yes s i (asked-there s 0 i h l))) ∙ whole-rows 0 1 4 k refl

  pub sources-rows : kind_of s 1 ≡ 2 → sources_in s ≡ rows_in places s 1
  unfolding sources_in source_of source_from_rule first_values layout_in_rule places
  sources-rows k = counted 1 3 (λ (c : Counts). c.sources) refl _ (λ i l. ap of_source (source_yes s i (asked-there s 1 i h l))) ∙ whole-rows 1 2 3 k refl

  pub passes-rows : kind_of s 3 ≡ 4 → passes_in s ≡ rows_in places s 3
  unfolding passes_in pass_of_rule pass_from_rule first_values layout_in_rule places
  passes-rows k = counted 3 8 (λ (c : Counts). c.passes) refl _ (λ i l. ap of_pass_rule (pass_yes s i (asked-there s 3 i h l))) ∙ whole-rows 3 4 8 k refl

  -- of days six numbers, whatever their kind
  pub days-first : days_in s ≡ first_in_rule s 2 6
  unfolding days_in day_of_rule day_from_rule first_values
  days-first = counted 2 6 (λ (c : Counts). c.days) refl _ (λ i l. ap of_day (day_yes s i (asked-there s 2 i h l)))

  pub days-rows : kind_of s 2 ≡ 5 → days_in s ≡ rows_in places s 2
  unfolding layout_in_rule places
  days-rows k = days-first ∙ whole-rows 2 5 6 k refl

-- ---- of a file that keeps lists in its places, with days of kind k: u stands for them there, and r is handed out

pub hands : (k : ℕ) (p q r u t : List ℤ) (s : List ℕ) → Keeps (kinds_with_rule k) (p ∷ q ∷ u ∷ t ∷ []) s → days_in s ≡ r → Hands (pos k) p q r t s
hands k p q r u t s w d =
    let h = w.accepted in
    record {
      accepted = check_number s ∙ ap pos h;
      day-kind = ap (λ (c : Counts). c.day_kind) (check_accepted s h) ∙ ap pos (w.kind 2 (omega arith));
      stations = stations-rows s h (w.kind 0 (omega arith)) ∙ w.rows 0 (omega arith);
      sources = sources-rows s h (w.kind 1 (omega arith)) ∙ w.rows 1 (omega arith);
      days = d;
      passes = passes-rows s h (w.kind 3 (omega arith)) ∙ w.rows 3 (omega arith);
    }
