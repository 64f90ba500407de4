-- `bulletin::records::records_of` meets its contract: the records before the one at hand are in their ranges, and stand in the array. Assumes nothing.
use borrow.Author.Rules.{rules}
use mathlib.Core.Path.{◌≡◌, refl, sym, ap, ap₂, ◌∙◌}
use mathlib.Core.Bool.{true, false}
use mathlib.Core.List.{List, ◌++◌}
use Prim.Native.Nat.{ℕ, ◌-◌, ◌*◌}
use native.Mathlib.Omega.{arith}
use lib.ListN.{length, get_or, replicate}
use lib.Seq.{sets}
use lib.IntN.{ℤ, pos, ◌+ℤ◌}
use mir.Syntax.{w64}
use mir.Val.{to_z, of_z, SFits}
use Rattle.whole.specs.Each.{all_below}
use Rattle.whole.specs.Values.{joined}
use Rattle.whole.proofs.Each.{below_all, below_next, below_fails}
use Rattle.whole.proofs.Linear.{back, ret}
use Rattle.fields.specs.declared.Day.{Day}
use Rattle.bulletin.specs.Reading.{in_ranges_rule, numbers_of_rule, record_for, record_of_rule, records, days, no_days_rule}
use Rattle.bulletin.specs.Code.{given_records}
use Rattle.bulletin.proofs.TakingLaws.{found, filled}
use Rattle.bulletin.proofs.Joining.{store_next}
use Rattle.bulletin.proofs.records.records_of.Goals as goal

module _ (text : List ℕ) (first : ℤ) (tai : List ℤ) where
  refuses : all_below (length tai) (λ (k : ℕ). in_ranges_rule (record_of_rule text first (pos (length tai)) tai k)) ≡ false → given_records text first tai ≡ no_days_rule 2
  unfolding given_records
  refuses e = rw e

  gives : all_below (length tai) (λ (k : ℕ). in_ranges_rule (record_of_rule text first (pos (length tai)) tai k)) ≡ true
      → given_records text first tai ≡ days (joined (length tai) (λ (k : ℕ). numbers_of_rule (record_of_rule text first (pos (length tai)) tai k)) ++ replicate (384 - 6 * length tai) (pos 0))
  unfolding given_records records
  gives e = rw e

-- day k, as the code has it, and its record
module _ {first z : ℤ} (k : ℕ) (f : SFits w64 first) (b : to_z w64 (of_z w64 z) ≡ z) (e : z ≡ to_z w64 (of_z w64 first) +ℤ pos k) where
  day_is : to_z w64 (of_z w64 z) ≡ first +ℤ pos k
  day_is = b ∙ e ∙ ap (λ (x : ℤ). x +ℤ pos k) (back f)

  record_is : (text : List ℕ) (tai : List ℤ) {d : Day} → SFits w64 (get_or tai k (pos 0)) → d ≡ record_for text (to_z w64 (of_z w64 z)) (to_z w64 (of_z w64 (get_or tai k (pos 0))))
      → d ≡ record_of_rule text first (pos (length tai)) tai k
  record_is text tai g r = r ∙ (λ i. record_for text (day_is i) (back g i))

pub loop-k-init : goal.loop-k-init
unfolding joined
loop-k-init c = (below_all 0 _ (λ i l. absurd (omega arith)), c.requires.3)

pub record_of-d-requires : goal.record_of-d-requires
record_of-d-requires c =
    let r = c.requires.0 in
    let h = c.loop-k-test.true in
    let d = day_is c.loop-k.k c.ranges.first (ret c.day_at.result c.day_at.type_inv) c.day_at.ensures in
    (rw d (found c.args.rows.listed r c.loop-k.k h), rw d (filled c.args.rows.listed r c.loop-k.k h))

pub returns-then-not-in_ranges : goal.returns-then-not-in_ranges
returns-then-not-in_ranges c =
    let g : SFits w64 (get_or c.args.tai.now c.loop-k.k (pos 0)) = search rules in
    let d = record_is c.loop-k.k c.ranges.first (ret c.day_at.result c.day_at.type_inv) c.day_at.ensures c.args.rows.text.now c.args.tai.now g c.record_of-d.ensures in
    sym (refuses c.args.rows.text.now c.args.first c.args.tai.now (below_fails (length c.args.tai.now) c.loop-k.k _ c.loop-k-test.true (sym (c.in_ranges.ensures ∙ ap in_ranges_rule d) ∙ c.if-not-in_ranges.true)))

pub loop-k-preserved : goal.loop-k-preserved
loop-k-preserved c =
    let n = pos (length c.args.tai.now) in
    let k = c.loop-k.k in
    let g : SFits w64 (get_or c.args.tai.now k (pos 0)) = search rules in
    let d = record_is c.loop-k.k c.ranges.first (ret c.day_at.result c.day_at.type_inv) c.day_at.ensures c.args.rows.text.now c.args.tai.now g c.record_of-d.ensures in
    let r = d ∙ ap (λ (z : ℤ). record_of_rule c.args.rows.text.now z n c.args.tai.now k) (sym (back c.ranges.first)) in (
      below_next k _ c.loop-k.invariant.0 (sym (c.in_ranges.ensures ∙ ap in_ranges_rule r) ∙ c.if-not-in_ranges.false),
      c.put_day.ensures
          ∙ ap₂ (λ (xs : List ℤ) (e : Day). sets xs (6 * k) (numbers_of_rule e)) c.loop-k.invariant.1 r
          ∙ store_next (λ (j : ℕ). numbers_of_rule (record_of_rule c.args.rows.text.now (to_z w64 (of_z w64 c.args.first)) n c.args.tai.now j)) (λ i. refl) k (omega (arith, c.loop-k-test.true, c.requires.1)),
    )

pub returns : goal.returns
returns c =
    let f = back c.ranges.first in
    let e : c.loop-k.k ≡ length c.args.tai.now = omega (arith, c.loop-k.auto.k-end, c.loop-k-test.false) in
    let a = rw (e, f) at c.loop-k.invariant.0 in
    let d = rw (e, f) at c.loop-k.invariant.1 in
    ap days d ∙ sym (gives c.args.rows.text.now c.args.first c.args.tai.now a)
