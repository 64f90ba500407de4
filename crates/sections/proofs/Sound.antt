-- What a contents table that is right says, and the same loops over bytes as over records. Assumes nothing.
use mathlib.Core.Path.{◌≡◌, sym, ap, ap₂, ◌∙◌}
use Prim.Native.Nat.{ℕ, zero, suc, ◌+◌, ◌-◌, ◌*◌, ◌≤◌, ◌<◌}
use native.Mathlib.Nat.{add-zero, add-suc, mul-le-mul_left}
use native.Mathlib.Numerals.{add-one-le}
use native.Mathlib.Omega.{arith}
use mathlib.Core.Bool.{true}
use mathlib.Core.List.{List, ◌++◌}
use lib.ListN.{length, get_or, replicate, get_or-append}
use lib.Seq.{get_or-take}
use lib.Dec.{leb}
use borrow.Author.Tests.{leb-true, ltb-true, eqb-true}
use Rattle.whole.specs.Each.{first_not}
use Rattle.text.specs.Words.{number_at_rule}
use Rattle.fields.specs.declared.ranges.Range.{Range}
use Rattle.fields.specs.Ranges.{range, inside}
use Rattle.sections.specs.Layouts.{Table, stands_in}
use Rattle.sections.specs.Code.{padded, shape_of, inside_by, record_by, step_by}
use Rattle.sections.specs.File.{present, layout_of, size_of, count_of_rule, kind_of, first_byte, start_of, sections_right_rule, kind_right_rule, offset_right_rule, count_right_rule, length_right_rule, kinds_right, counts_right, offsets_right, contents_right, record_byte_rule, field_at_rule, field_right, record_right, steps, step_right_rule}
use Rattle.whole.proofs.Linear.{and_true}
use Rattle.whole.proofs.Each.{below_each, first-same, all_same}
use Rattle.sections.proofs.Shapes.{size_small, stands-some, Good}
use Rattle.sections.proofs.Walk.{count-present, count_most, count-one}

module _ {t : Table} (g : Good t) where
  starts_rise : (s : List ℕ) (p d : ℕ) → start_of t s p ≤ start_of t s (p + d)
  unfolding start_of
  starts_rise s p zero = rw (add-zero p) (omega arith)
  starts_rise s p (suc d) = rw (add-suc p d) (omega (arith, starts_rise s p d))

  module _ (s : List ℕ) (h : contents_right t s ≡ true) where
    pub five : (sections_right_rule s ≡ true) × (kinds_right t s ≡ true) × (counts_right t s ≡ true) × (offsets_right t s ≡ true) × (length_right_rule t s ≡ true)
    unfolding contents_right
    five =
        let a = and_true (sections_right_rule s) _ h in
        let b = and_true (kinds_right t s) _ a.1 in
        let c = and_true (counts_right t s) _ b.1 in
        let d = and_true (offsets_right t s) (length_right_rule t s) c.1 in
        (a.0, b.0, c.0, d.0, d.1)

    pub length_is : length s ≡ start_of t s 4
    unfolding length_right_rule
    length_is = eqb-true _ _ (and_true (leb (length s) 65536) _ five.4).1

    pub length-short : length s ≤ 65536
    unfolding length_right_rule
    length-short = leb-true _ _ (and_true (leb (length s) 65536) _ five.4).0

    module _ (p : ℕ) (l : p < 4) where
      pub count_is_right : count_right_rule t s p ≡ true
      count_is_right = below_each 4 p (count_right_rule t s) l five.2

      pub kind-stands : stands_in t p (kind_of s p) ≡ true
      unfolding kind_right_rule
      kind-stands = (and_true (present s (3 * p + 1)) _ (below_each 4 p (kind_right_rule t s) l five.1)).1

      pub first_is : first_byte s p ≡ start_of t s p
      unfolding offset_right_rule
      first_is = eqb-true _ _ (and_true (present s (3 * p + 2)) _ (below_each 4 p (offset_right_rule t s) l five.3)).1

      pub table_long : 8 * (3 * p + 3) + 8 ≤ length s
      table_long = count-present g s p count_is_right

      pub counts-most : count_of_rule s p ≤ 256
      counts-most = count_most g s p count_is_right

      pub counts-one : 1 ≤ count_of_rule s p
      counts-one = count-one g s p count_is_right

      pub size_one : 1 ≤ size_of t s p
      size_one = ltb-true _ _ (sym (stands-some g p (kind_of s p)) ∙ kind-stands)

      pub size_most : size_of t s p ≤ 8
      size_most = size_small g p (kind_of s p)

      pub body_fits : first_byte s p + 8 * (size_of t s p * count_of_rule s p) ≤ length s
      unfolding start_of
      body_fits =
          let e : suc p + (3 - p) ≡ 4 = omega arith in
          omega (arith, first_is, length_is, rw e at (starts_rise s (suc p) (3 - p)))

      -- record i, and each of its numbers, lies in the file
      pub record_fits : (i : ℕ) → i < count_of_rule s p → record_byte_rule t s p i + 8 * size_of t s p ≤ length s
      unfolding record_byte_rule
      record_fits i k = omega (arith, body_fits, mul-le-mul_left (size_of t s p) (add-one-le k))

      pub steps-fit : first_byte s p + 8 * (size_of t s p * (count_of_rule s p - 1)) + 8 ≤ length s
      steps-fit =
          let e : count_of_rule s p - 1 + 1 ≡ count_of_rule s p = omega (arith, counts-one) in
          omega (arith, body_fits, size_one, ap (λ (n : ℕ). size_of t s p * n) e)

  -- ---- the ranges of a layout as the code holds them

  range_at : (rs : List Range) (k : ℕ) → k < length rs → length rs ≤ 8 → get_or (padded 8 rs) k (range 0 0) ≡ get_or rs k (range 0 0)
  range_at rs k h m =
      get_or-take 8 (rs ++ replicate 8 (range 0 0)) k (range 0 0) (omega arith)
      ∙ get_or-append rs (replicate 8 (range 0 0)) (range 0 0) k h

  module _ (s : List ℕ) (p : ℕ) where
    inside_is : (i k : ℕ) → k < size_of t s p → inside_by s (record_byte_rule t s p i) (shape_of (layout_of t s p)).fields k ≡ field_right t s p i k
    unfolding shape_of field_right
    inside_is i k l = ap (λ (r : Range). inside r (field_at_rule t s p i k)) (range_at (layout_of t s p).fields k l (size_small g p (kind_of s p)))

    pub record_is : (i : ℕ) → record_by s (first_byte s p) (shape_of (layout_of t s p)) i ≡ record_right t s p i
    unfolding shape_of record_byte_rule record_right
    record_is i = all_same (size_of t s p) _ (field_right t s p i) (inside_is i)

    pub records-same : (n : ℕ) → first_not n (record_by s (first_byte s p) (shape_of (layout_of t s p))) ≡ first_not n (record_right t s p)
    records-same n = first-same n _ (record_right t s p) (λ i l. record_is i)

    pub fields-same : (i : ℕ) → first_not (size_of t s p) (inside_by s (record_byte_rule t s p i) (shape_of (layout_of t s p)).fields) ≡ first_not (size_of t s p) (field_right t s p i)
    fields-same i = first-same (size_of t s p) _ (field_right t s p i) (inside_is i)

    step_is : (o i : ℕ) → step_by s (first_byte s p) (size_of t s p) o i ≡ step_right_rule t s o p i
    unfolding step_right_rule record_byte_rule
    step_is o i =
        ap₂ (λ (a b : ℕ). steps o (number_at_rule s a) (number_at_rule s b)) (sym (add-zero (first_byte s p + 8 * (size_of t s p * i)))) (sym (add-zero (first_byte s p + 8 * (size_of t s p * (i + 1)))))

    pub steps-same : (o n : ℕ) → first_not n (step_by s (first_byte s p) (size_of t s p) o) ≡ first_not n (step_right_rule t s o p)
    steps-same o n = first-same n _ (step_right_rule t s o p) (λ i l. step_is o i)
