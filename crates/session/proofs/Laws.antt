-- Laws of a file that is accepted, for the crates above: each field is in its range, ids rise, day i is the first day plus i,
-- and what a look-up finds. Assumes nothing.
use mathlib.Core.Path.{◌≡◌, refl, sym, ap, ◌∙◌}
use Prim.Native.Nat.{ℕ, zero, suc, ◌+◌, ◌-◌, ◌≤◌, ◌<◌}
use native.Mathlib.Numerals.{add-one}
use native.Mathlib.Omega.{arith}
use mathlib.Core.Bool.{Bool, true, false, not}
use mathlib.Core.List.{List}
use lib.IntN.{ℤ, pos, negsuc, ◌+ℤ◌}
use lib.Signed.{lt_z}
use lib.Dec.{eqb}
use mir.Syntax.{w64}
use mir.Val.{SFits}
use borrow.Author.Tests.{eq-eqb, eqb-true}
use Rattle.whole.specs.Whole.{pos_part, neg_part}
use Rattle.whole.specs.Each.{all_below}
use Rattle.whole.proofs.Linear.{add_law, lt_z_true, ⇒eq, eq⇒}
use Rattle.whole.proofs.Each.{below_each, first_hit, all_none, below_all, first_fails}
use Rattle.fields.specs.Ranges.{id_number, coordinate, right_ascension_rule, declination, mjd, pole, ut1utc, taiutc, mark, millisecond, step, samples, tolerance}
use Rattle.fields.specs.Records.{InStation, InSource, InDay, InPass, station_from_rule, source_from_rule, day_from_rule, pass_from_rule}
use Rattle.sections.specs.Layouts.{places, layouts_in, layout_in_rule, rising, consecutive}
use Rattle.whole.specs.Ranges.{eq_z}
use Rattle.sections.specs.File.{refusal_of_rule, kind_of, count_of_rule, layout_of, field_at_rule, steps, step_right_rule, order_right_rule}
use Rattle.sections.proofs.Shapes.{all_of, today}
use Rattle.whole.proofs.Order.{eq_z_true, eq_z_refl}
use Rattle.whole.proofs.Order.{lt_yes}
use Rattle.sections.proofs.Numbers.{steps-rising, steps-consecutive}
use Rattle.sections.proofs.Sound.{counts-one}
use Rattle.sections.proofs.Accepted.{accepted_contents, accepted_ids, accepted-days}
use Rattle.session.specs.Records.{station_of_rule, source_of, day_of_rule, pass_of_rule, place_by_rule}
use Rattle.session.proofs.Fields.{has_an_order, of_place, place-order, row_none, first-number, field_in, number_in_lem}
use Rattle.session.proofs.Past.{Past, past}

-- ---- each record has its fields in their ranges

module _ (s : List ℕ) (h : refusal_of_rule s ≡ 0) (i : ℕ) where
  pub station_in : i < count_of_rule s 0 → InStation (station_of_rule s i)
  unfolding station_of_rule station_from_rule places
  station_in l =
      let f = number_in_lem s h 0 (omega arith) i l in
      record { id = f 0 id_number refl; x = f 1 coordinate refl; y = f 2 coordinate refl; z = f 3 coordinate refl }

  pub source_in : i < count_of_rule s 1 → InSource (source_of s i)
  unfolding source_of source_from_rule places
  source_in l =
      let f = number_in_lem s h 1 (omega arith) i l in
      record { id = f 0 id_number refl; right_ascension = f 1 right_ascension_rule refl; declination = f 2 declination refl }

  pub day_in_lem : i < count_of_rule s 2 → InDay (day_of_rule s i)
  unfolding day_of_rule day_from_rule places
  day_in_lem l =
      let f = number_in_lem s h 2 (omega arith) i l in
      record { mjd = f 0 mjd refl; x = f 1 pole refl; y = f 2 pole refl; ut1_utc = f 3 ut1utc refl; tai_utc = f 4 taiutc refl; mark = f 5 mark refl }

  pub pass_in : i < count_of_rule s 3 → InPass (pass_of_rule s i)
  unfolding pass_of_rule pass_from_rule places
  pass_in l =
      let f = number_in_lem s h 3 (omega arith) i l in
      record {
        station1 = f 0 id_number refl;
        station2 = f 1 id_number refl;
        source = f 2 id_number refl;
        mjd = f 3 mjd refl;
        ms = f 4 millisecond refl;
        step = f 5 step refl;
        samples = f 6 samples refl;
        tolerance = f 7 tolerance refl;
      }

-- ---- numbers in order

rises : (f : ℕ → ℤ) (n : ℕ) → ((i : ℕ) → i + 1 < n → lt_z (f i) (f (i + 1)) ≡ true) → (i d : ℕ) → i + suc d < n
    → pos_part (f i) + neg_part (f (i + suc d)) < pos_part (f (i + suc d)) + neg_part (f i)
rises f n h i zero l =
    let e : i + 1 ≡ i + suc zero = omega arith in
    rw e at (lt_z_true (f i) (f (i + 1)) (h i (omega arith)))
rises f n h i (suc d) l =
    let e : i + suc d + 1 ≡ i + suc (suc d) = omega arith in
    let a = rises f n h i d (omega arith) in
    let b = rw e at (lt_z_true (f (i + suc d)) (f (i + suc d + 1)) (h (i + suc d) (omega arith))) in
    omega (arith, a, b)

follows : (f : ℕ → ℤ) (n : ℕ) → ((i : ℕ) → i + 1 < n → f (i + 1) ≡ f i +ℤ pos 1) → (i : ℕ) → i < n → f i ≡ f 0 +ℤ pos i
follows f n h zero l = ⇒eq (f 0) (f 0 +ℤ pos 0) (omega (arith, add_law (f 0) (pos 0)))
follows f n h (suc i) l =
    let e = follows f n h i (omega arith) in
    let g : f (suc i) ≡ f i +ℤ pos 1 = rw (add-one i) at (h i (omega arith)) in
    let x = add_law (f i) (pos 1) in
    let y = add_law (f 0) (pos i) in
    let z = add_law (f 0) (pos (suc i)) in
    g ∙ ⇒eq (f i +ℤ pos 1) (f 0 +ℤ pos (suc i)) (omega (arith, eq⇒ (f i) (f 0 +ℤ pos i) e, x, y, z))

-- the order of a place, as the layout that stands in it states it
ordered : (s : List ℕ) (o p : ℕ) → all_below 4 (order_right_rule places s o) ≡ true → p < 4 → (layout_of places s p).order ≡ o → (i : ℕ) → i + 1 < count_of_rule s p
    → steps o (field_at_rule places s p i 0) (field_at_rule places s p (i + 1) 0) ≡ true
unfolding order_right_rule step_right_rule
ordered s o p h l e i m =
    let a = below_each 4 p (order_right_rule places s o) l h in
    below_each (count_of_rule s p - 1) i (step_right_rule places s o p) (omega arith) (rw (eq-eqb (layout_of places s p).order o e) at a)

module _ (s : List ℕ) (h : refusal_of_rule s ≡ 0) where
  -- in a place whose layouts all state an order the first fields rise
  module _ (p : ℕ) (l : p < 4) (e : all_of has_an_order (layouts_in places p) ≡ true) where
    less : (i : ℕ) → i + 1 < count_of_rule s p → (c : Bool) → eqb (layout_of places s p).order rising ≡ c → lt_z (field_at_rule places s p i 0) (field_at_rule places s p (i + 1) 0) ≡ true
    less i m true q = sym (steps-rising _ _) ∙ ordered s rising p (accepted_ids today s h) l (eqb-true _ _ q) i m
    less i m false q =
        let a = field_at_rule places s p i 0 in
        let b = field_at_rule places s p (i + 1) 0 in
        let o : eqb (layout_of places s p).order consecutive ≡ true = rw q at (of_place s h p l has_an_order e) in
        let n = eq_z_true b (a +ℤ pos 1) (sym (steps-consecutive a b) ∙ ordered s consecutive p (accepted-days today s h) l (eqb-true _ _ o) i m) in
        lt_yes a b (omega (arith, eq⇒ b (a +ℤ pos 1) n, add_law a (pos 1)))

    pub first_rises : (i d : ℕ) → i + suc d < count_of_rule s p
        → pos_part (field_at_rule places s p i 0) + neg_part (field_at_rule places s p (i + suc d) 0) < pos_part (field_at_rule places s p (i + suc d) 0) + neg_part (field_at_rule places s p i 0)
    first_rises = rises (λ (i : ℕ). field_at_rule places s p i 0) (count_of_rule s p) (λ i m. less i m (eqb (layout_of places s p).order rising) refl)

  -- day i is the first day plus i
  pub day-plus : (i : ℕ) → i < count_of_rule s 2 → field_at_rule places s 2 i 0 ≡ field_at_rule places s 2 0 0 +ℤ pos i
  unfolding places
  day-plus =
      follows (λ (i : ℕ). field_at_rule places s 2 i 0) (count_of_rule s 2)
      (λ i l. eq_z_true _ _ (sym (steps-consecutive _ _) ∙ ordered s consecutive 2 (accepted-days today s h) (omega arith) (place-order s h 2 (omega arith) consecutive refl) i l))

  -- a record of kind 3 counts as marked 0
  pub day-unmarked : (i : ℕ) → kind_of s 2 ≡ 3 → (day_of_rule s i).mark ≡ pos 0
  unfolding day_of_rule day_from_rule layout_in_rule places
  day-unmarked i e = row_none places s 2 i 5 (rw e (omega arith))

  pub day-first : (i : ℕ) → (day_of_rule s i).mjd ≡ field_at_rule places s 2 i 0
  unfolding day_of_rule day_from_rule
  day-first i = first-number s h 2 (omega arith) i

  pub day-mjd : (i : ℕ) → i < count_of_rule s 2 → (day_of_rule s i).mjd ≡ (day_of_rule s 0).mjd +ℤ pos i
  day-mjd i l = rw (day-first i, day-first 0) (day-plus i l)

-- ---- what a look-up finds

module _ (s : List ℕ) (p : ℕ) (z : ℤ) where
  -- a record that is found has the id, or the day, that was asked for
  pub place_has : place_by_rule s p z < count_of_rule s p → field_at_rule places s p (place_by_rule s p z) 0 ≡ z
  unfolding place_by_rule
  place_has l = eq_z_true _ _ (not_not _ (first_fails (count_of_rule s p) _ l))
    where
      not_not : (b : Bool) → not b ≡ false → b ≡ true
      not_not true h = refl
      not_not false h = sym h

  other : (i : ℕ) → (field_at_rule places s p i 0 ≡ z → ⊥) → not (eq_z (field_at_rule places s p i 0) z) ≡ true
  other i f = test (eq_z (field_at_rule places s p i 0) z) refl
    where
      test : (b : Bool) → eq_z (field_at_rule places s p i 0) z ≡ b → not b ≡ true
      test true e = absurd (f (eq_z_true _ _ e))
      test false e = refl

  -- where no record has it, none is found
  pub place_none : ((i : ℕ) → i < count_of_rule s p → field_at_rule places s p i 0 ≡ z → ⊥) → place_by_rule s p z ≡ count_of_rule s p
  unfolding place_by_rule
  place_none f = all_none (count_of_rule s p) _ (below_all (count_of_rule s p) _ (λ i l. other i (f i l)))

  -- the first that has it is found
  pub place_is : (i : ℕ) → i < count_of_rule s p → field_at_rule places s p i 0 ≡ z → ((j : ℕ) → j < i → field_at_rule places s p j 0 ≡ z → ⊥) → place_by_rule s p z ≡ i
  unfolding place_by_rule
  place_is i l e f = first_hit (count_of_rule s p) i _ l (all_none i _ (below_all i _ (λ j m. other j (f j m)))) (ap not (eq_z_refl _ _ e))

-- the day's record by its MJD: day i is found, and no other MJD is
module _ (s : List ℕ) (h : refusal_of_rule s ≡ 0) where
  pub day-place : (z : ℤ) (i : ℕ) → i < count_of_rule s 2 → z ≡ field_at_rule places s 2 0 0 +ℤ pos i → place_by_rule s 2 z ≡ i
  day-place z i l e =
      place_is s 2 z i l (day-plus s h i l ∙ sym e)
      (λ j m f.
      let a = eq⇒ (field_at_rule places s 2 0 0 +ℤ pos j) (field_at_rule places s 2 0 0 +ℤ pos i) (sym (day-plus s h j (omega arith)) ∙ f ∙ e) in
      omega (arith, a, add_law (field_at_rule places s 2 0 0) (pos j), add_law (field_at_rule places s 2 0 0) (pos i)))

  pub day-before : (z : ℤ) → lt_z z (field_at_rule places s 2 0 0) ≡ true → place_by_rule s 2 z ≡ count_of_rule s 2
  day-before z e =
      place_none s 2 z
      (λ i l f.
      let a = eq⇒ (field_at_rule places s 2 0 0 +ℤ pos i) z (sym (day-plus s h i l) ∙ f) in
      omega (arith, a, add_law (field_at_rule places s 2 0 0) (pos i), lt_z_true z (field_at_rule places s 2 0 0) e))

  pub day_after : (z : ℤ) (n : ℕ) → count_of_rule s 2 ≤ n → z ≡ field_at_rule places s 2 0 0 +ℤ pos n → place_by_rule s 2 z ≡ count_of_rule s 2
  day_after z n l e =
      place_none s 2 z
      (λ i m f.
      let a = eq⇒ (field_at_rule places s 2 0 0 +ℤ pos i) (field_at_rule places s 2 0 0 +ℤ pos n) (sym (day-plus s h i m) ∙ f ∙ e) in
      omega (arith, a, add_law (field_at_rule places s 2 0 0) (pos i), add_law (field_at_rule places s 2 0 0) (pos n)))

-- how far a day is past the first
natural : (z : ℤ) → neg_part z ≤ 0 → z ≡ pos (pos_part z)
natural (pos n) h = refl
natural (negsuc n) h = absurd (omega arith)

pub first_past : (s : List ℕ) → refusal_of_rule s ≡ 0 → (z : ℤ) → SFits w64 z → lt_z z (field_at_rule places s 2 0 0) ≡ false → Past z (field_at_rule places s 2 0 0)
unfolding places
first_past s h z f l =
    let w = field_in s h 2 (omega arith) 0 (omega (arith, counts-one today s (accepted_contents today s h) 2 (omega arith))) 0 mjd refl in
    let e = natural (field_at_rule places s 2 0 0) w.n_lo in
    rw e (past z (pos_part (field_at_rule places s 2 0 0)) f (rw e at l))
