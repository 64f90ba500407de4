-- `bulletin::days_among` meets its contract: the tests come in the order of their numbers. Assumes nothing.
use mathlib.Core.Path.{◌≡◌, sym, ◌∙◌}
use mathlib.Core.Bool.{Bool, true, false, ◌&&◌}
use mathlib.Core.List.{List}
use Prim.Native.Nat.{ℕ, ◌≤◌}
use native.Mathlib.Omega.{arith}
use borrow.Author.Tests.{le-leb}
use lib.ListN.{length}
use lib.IntN.{ℤ, pos, ◌+ℤ◌}
use lib.Dec.{leb, ltb}
use mir.Syntax.{w64}
use mir.Val.{SFits, to_z, of_z}
use Rattle.whole.specs.Whole.{pos_part}
use Rattle.whole.specs.Ranges.{eq_z}
use Rattle.whole.specs.Each.{all_below}
use Rattle.whole.proofs.Each.{below_all}
use Rattle.whole.proofs.Linear.{back}
use Rattle.fields.specs.Ranges.{inside, mjd}
use Rattle.bulletin.specs.Code.{Listed}
use Rattle.bulletin.specs.Rows.{rows_of, first_in_rule}
use Rattle.bulletin.specs.Reading.{all_dated, day_count, taken_filled_rule, days_there_rule, days_outcome, no_days_rule}
use Rattle.bulletin.proofs.TakingLaws.{listed-long, near, there_by}
use Rattle.bulletin.proofs.DaysLaws.{some_unfilled, some_missing, values_wrong, count_is, few_days, first_small, values_given}
use Rattle.bulletin.proofs.days_among.Goals as goal

-- what each test says, where b is its result by the numbers that the code has, and v what it turned out to be
module _ {first count : ℤ} (f : SFits w64 first) (g : SFits w64 count) {b v : Bool} where
  filled_is : (text : List ℕ) → b ≡ taken_filled_rule text (to_z w64 (of_z w64 first)) (to_z w64 (of_z w64 count)) → b ≡ v → taken_filled_rule text first count ≡ v
  filled_is text e z = sym (simp (back f, back g) at e) ∙ z

  there_is : {text : List ℕ} {dates : List ℤ} {starts : List ℕ} → Listed text dates starts
      → b ≡ all_below (pos_part (to_z w64 (of_z w64 count))) (λ (k : ℕ). ltb (first_in_rule dates (to_z w64 (of_z w64 first) +ℤ pos k)) (length dates)) → b ≡ v → days_there_rule text first count ≡ v
  there_is l e z = sym (simp (back f, back g) at e ∙ there_by l first count) ∙ z

  values_are : (tai : List ℤ) → b ≡ (inside mjd (to_z w64 (of_z w64 first)) && (inside day_count (to_z w64 (of_z w64 count)) && eq_z (pos (length tai)) (to_z w64 (of_z w64 count)))) → b ≡ v
      → (inside mjd first && (inside day_count count && eq_z (pos (length tai)) count)) ≡ v
  values_are tai e z = sym (simp (back f, back g) at e) ∙ z

-- each refusal, by the tests before it
module _ {text : List ℕ} {dates : List ℤ} {starts : List ℕ} (h : (length text ≤ 65536) × Listed text dates starts) (first count : ℤ) (tai : List ℤ) where
  short : leb (length text) 65536 ≡ true
  short = le-leb (length text) 65536 h.0

  dated : all_dated text ≡ true
  unfolding all_dated
  dated = below_all (length (rows_of text)) _ (λ i l. h.1.dated i (omega (arith, l, listed-long h.1)))

  unfilled : taken_filled_rule text first count ≡ false → no_days_rule 10 ≡ days_outcome text first count tai
  unfilled f = sym (some_unfilled text first count tai short dated f)

  missing : taken_filled_rule text first count ≡ true → days_there_rule text first count ≡ false → no_days_rule 11 ≡ days_outcome text first count tai
  missing f t = sym (some_missing text first count tai short dated f t)

  wrong : taken_filled_rule text first count ≡ true → days_there_rule text first count ≡ true → (inside mjd first && (inside day_count count && eq_z (pos (length tai)) count)) ≡ false
      → no_days_rule 2 ≡ days_outcome text first count tai
  wrong f t v = sym (values_wrong text first count tai short dated f t v)

pub returns-then-not-taken_filled : goal.returns-then-not-taken_filled
returns-then-not-taken_filled c =
    let a = c.args in
    let f = filled_is c.ranges.first c.ranges.count a.rows.text.now c.taken_filled.ensures c.if-not-taken_filled.true in
    unfilled (c.requires.0, a.rows.listed) a.first a.count a.tai.now f

pub days_there-requires : goal.days_there-requires
days_there-requires c = near c.args.rows.listed

pub returns-then-not-days_there : goal.returns-then-not-days_there
returns-then-not-days_there c =
    let a = c.args in
    let f = filled_is c.ranges.first c.ranges.count a.rows.text.now c.taken_filled.ensures c.if-not-taken_filled.false in
    let t = there_is c.ranges.first c.ranges.count a.rows.listed c.days_there.ensures c.if-not-days_there.true in
    missing (c.requires.0, a.rows.listed) a.first a.count a.tai.now f t

pub returns-then-not-values_in_range : goal.returns-then-not-values_in_range
returns-then-not-values_in_range c =
    let a = c.args in
    let f = filled_is c.ranges.first c.ranges.count a.rows.text.now c.taken_filled.ensures c.if-not-taken_filled.false in
    let t = there_is c.ranges.first c.ranges.count a.rows.listed c.days_there.ensures c.if-not-days_there.false in
    let v = values_are c.ranges.first c.ranges.count a.tai.now c.values_in_range.ensures c.if-not-values_in_range.true in
    wrong (c.requires.0, a.rows.listed) a.first a.count a.tai.now f t v

pub records_of-requires : goal.records_of-requires
records_of-requires c =
    let a = c.args in
    let s = short (c.requires.0, a.rows.listed) a.first a.count a.tai.now in
    let d = dated (c.requires.0, a.rows.listed) a.first a.count a.tai.now in
    let f = filled_is c.ranges.first c.ranges.count a.rows.text.now c.taken_filled.ensures c.if-not-taken_filled.false in
    let t = there_is c.ranges.first c.ranges.count a.rows.listed c.days_there.ensures c.if-not-days_there.false in
    let v = values_are c.ranges.first c.ranges.count a.tai.now c.values_in_range.ensures c.if-not-values_in_range.false in
    let e = count_is a.rows.text.now a.first a.count a.tai.now s d f t v in
    rw (back c.ranges.first) (
      record { filled = rw e f; there = rw e t },
      few_days a.rows.text.now a.first a.count a.tai.now s d f t v,
      first_small a.rows.text.now a.first a.count a.tai.now s d f t v,
      c.requires.1,
    )

pub returns : goal.returns
returns c =
    let a = c.args in
    let s = short (c.requires.0, a.rows.listed) a.first a.count a.tai.now in
    let d = dated (c.requires.0, a.rows.listed) a.first a.count a.tai.now in
    let f = filled_is c.ranges.first c.ranges.count a.rows.text.now c.taken_filled.ensures c.if-not-taken_filled.false in
    let t = there_is c.ranges.first c.ranges.count a.rows.listed c.days_there.ensures c.if-not-days_there.false in
    let v = values_are c.ranges.first c.ranges.count a.tai.now c.values_in_range.ensures c.if-not-values_in_range.false in
    (simp (back c.ranges.first) at c.records_of.ensures) ∙ sym (values_given a.rows.text.now a.first a.count a.tai.now s d f t v)
