-- What every layout that may stand in a place has, the layout that stands there in an accepted file has too: its fields' ranges, its order, its counts.
-- Assumes nothing.
use mathlib.Core.Path.{◌≡◌, refl, sym, ap, ◌∙◌}
use Prim.Native.Nat.{ℕ, zero, suc, ◌+◌, ◌-◌, ◌*◌, ◌≤◌, ◌<◌}
use native.Mathlib.Nat.{add-zero}
use native.Mathlib.Omega.{arith}
use mathlib.Core.Bool.{Bool, true, false, not, ◌&&◌, ◌||◌}
use mathlib.Core.List.{List, ◌++◌}
use lib.ListN.{length, get_or, replicate}
use lib.Seq.{get_or-append-add}
use lib.IntN.{ℤ, pos}
use lib.Dec.{eqb, leb, ltb}
use borrow.Author.Tests.{eqb-true, leb-true, ltb-true}
use Rattle.whole.specs.Each.{first_not}
use Rattle.whole.specs.Values.{first_values}
use Rattle.whole.proofs.Linear.{and_true}
use Rattle.whole.proofs.Each.{below_each, first-same}
use Rattle.whole.proofs.Values.{values_long, sample_at_lem}
use Rattle.text.specs.Words.{number_at_rule}
use Rattle.fields.specs.declared.ranges.Range.{Range}
use Rattle.fields.specs.Ranges.{Holds, inside}
use Rattle.fields.specs.Records.{number_in}
use Rattle.fields.proofs.Inside.{inside_holds}
use Rattle.sections.specs.Layouts.{Layout, Table, places, layouts_in, rising, consecutive}
use Rattle.whole.specs.Ranges.{eq_z}
use Rattle.sections.specs.File.{present, kind_of, layout_of, size_of, range_of, first_byte, count_of_rule, record_byte_rule, field_at_rule, count_right_rule, ranges_right, section_right_rule, record_right, field_right, refusal_of_rule}
use Rattle.sections.specs.Rows.{row_of}
use Rattle.sections.specs.Code.{other_by}
use Rattle.sections.proofs.Shapes.{all_of, listed, today}
use Rattle.whole.proofs.Order.{eq_z_true}
use Rattle.sections.proofs.Sound.{kind-stands, count_is_right, size_one}
use Rattle.sections.proofs.Accepted.{accepted_contents, accepted-ranges}
use Rattle.session.specs.Records.{place_by_rule}

-- ---- tests of a layout, computed over the list of a place

-- it has a field k, of range r
abbrev pub has_field_lem : ℕ → Range → Layout → Bool
has_field_lem k r l = ltb k (length l.fields) && (eq_z (range_of l k).low r.low && eq_z (range_of l k).high r.high)

-- it has, or it has no field k and 0 lies in r
abbrev pub may_have : ℕ → Range → Layout → Bool
may_have k r l = has_field_lem k r l || (leb (length l.fields) k && inside r (pos 0))

-- its records keep the order o
abbrev pub has_order : ℕ → Layout → Bool
has_order o l = eqb l.order o

-- they keep an order, so no two have the same first field
abbrev pub has_an_order : Layout → Bool
has_an_order l = has_order rising l || has_order consecutive l

-- there are at most n of them
abbrev pub has_most : ℕ → Layout → Bool
has_most n l = leb l.most n

-- number k of a record's row is its field k
pub row_number : (t : Table) (s : List ℕ) (p i k : ℕ) → k < size_of t s p → number_in (row_of t s p i) k ≡ field_at_rule t s p i k
unfolding row_of
row_number t s p i k l = sample_at_lem (size_of t s p) (field_at_rule t s p i) _ k l

-- behind its fields the row has zeros
zeros_at : (n k : ℕ) → get_or (replicate n (pos 0)) k (pos 0) ≡ pos 0
zeros_at zero k = refl
zeros_at (suc n) zero = refl
zeros_at (suc n) (suc k) = zeros_at n k

pub row_none : (t : Table) (s : List ℕ) (p i k : ℕ) → size_of t s p ≤ k → number_in (row_of t s p i) k ≡ pos 0
unfolding row_of
row_none t s p i k l =
    let n = size_of t s p in
    let zs = first_values n (field_at_rule t s p i) in
    let e : k ≡ length zs + (k - n) = omega (arith, l, values_long n (field_at_rule t s p i)) in
    ap (number_in (zs ++ replicate (8 - n) (pos 0))) e ∙ get_or-append-add zs (replicate (8 - n) (pos 0)) (k - n) (pos 0) ∙ zeros_at (8 - n) (k - n)

module _ (s : List ℕ) (h : refusal_of_rule s ≡ 0) (p : ℕ) (a : p < 4) where
  pub of_place : (test : Layout → Bool) → all_of test (layouts_in places p) ≡ true → test (layout_of places s p) ≡ true
  of_place test e = listed test places p (kind_of s p) e (kind-stands today s (accepted_contents today s h) p a)

  pub place-order : (o : ℕ) → all_of (has_order o) (layouts_in places p) ≡ true → (layout_of places s p).order ≡ o
  place-order o e = eqb-true _ _ (of_place (has_order o) e)

  pub place-most : (n : ℕ) → all_of (has_most n) (layouts_in places p) ≡ true → count_of_rule s p ≤ n
  unfolding count_right_rule
  place-most n e =
      let l = layout_of places s p in
      let w = and_true (present s (3 * p + 3)) _ (count_is_right today s (accepted_contents today s h) p a) in
      let c = and_true (leb l.fewest (count_of_rule s p)) (leb (count_of_rule s p) l.most) w.1 in
      omega (arith, leb-true (count_of_rule s p) l.most c.1, leb-true l.most n (of_place (has_most n) e))

  -- the first number of a row, in any place
  pub first-number : (i : ℕ) → number_in (row_of places s p i) 0 ≡ field_at_rule places s p i 0
  first-number i = row_number places s p i 0 (size_one today s (accepted_contents today s h) p a)

  -- of a layout with a field k of range r that stands in the place
  module _ (i : ℕ) (b : i < count_of_rule s p) (k : ℕ) (r : Range) (e : has_field_lem k r (layout_of places s p) ≡ true) where
    has_field : (k < size_of places s p) × ((range_of (layout_of places s p) k).low ≡ r.low) × ((range_of (layout_of places s p) k).high ≡ r.high)
    has_field =
        let l = layout_of places s p in
        let w = and_true (ltb k (length l.fields)) _ e in
        let v = and_true (eq_z (range_of l k).low r.low) _ w.1 in
        (ltb-true _ _ w.0, eq_z_true _ _ v.0, eq_z_true _ _ v.1)

    inside-range : inside (range_of (layout_of places s p) k) (field_at_rule places s p i k) ≡ true
    unfolding ranges_right section_right_rule record_right field_right
    inside-range =
        below_each (size_of places s p) k (field_right places s p i) has_field.0
        (below_each (count_of_rule s p) i (record_right places s p) b (below_each 4 p (section_right_rule places s) a (accepted-ranges today s h)))

    -- field k of a record lies in r, and so does number k of its row
    its_field : Holds r (field_at_rule places s p i k)
    its_field =
        let w = inside_holds (range_of (layout_of places s p) k) (field_at_rule places s p i k) inside-range in
        rw (has_field.1, has_field.2) at w

    its_number : Holds r (number_in (row_of places s p i) k)
    its_number = rw (row_number places s p i k has_field.0) its_field

  module _ (i : ℕ) (b : i < count_of_rule s p) (k : ℕ) (r : Range) where
    pub field_in : all_of (has_field_lem k r) (layouts_in places p) ≡ true → Holds r (field_at_rule places s p i k)
    field_in e = its_field i b k r (of_place (has_field_lem k r) e)

    -- number k of a row is 0 where its kind has no field k
    pub number_in_lem : all_of (may_have k r) (layouts_in places p) ≡ true → Holds r (number_in (row_of places s p i) k)
    number_in_lem e = by (has_field_lem k r l) refl (of_place (may_have k r) e)
      where
        l : Layout
        l = layout_of places s p

        by : (c : Bool) → has_field_lem k r l ≡ c → (c || (leb (length l.fields) k && inside r (pos 0))) ≡ true → Holds r (number_in (row_of places s p i) k)
        by true q e = its_number i b k r q
        by false q e =
            let w = and_true (leb (length l.fields) k) (inside r (pos 0)) e in
            rw (row_none places s p i k (leb-true _ _ w.0)) (inside_holds r (pos 0) w.1)

-- the search for a record, over bytes
pub places_same : (s : List ℕ) (p : ℕ) (z : ℤ) → first_not (count_of_rule s p) (other_by s (first_byte s p) (size_of places s p) z) ≡ place_by_rule s p z
unfolding place_by_rule record_byte_rule
places_same s p z =
    first-same (count_of_rule s p) _ _ (λ i l. ap (λ (n : ℕ). not (eq_z (number_at_rule s n) z)) (sym (add-zero (first_byte s p + 8 * (size_of places s p * i)))))
