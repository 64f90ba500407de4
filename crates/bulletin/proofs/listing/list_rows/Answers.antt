-- `bulletin::listing::list_rows` meets its contract. Assumes nothing.
use mathlib.Core.Path.{◌≡◌, refl, sym, ap, subst, ◌∙◌}
use Prim.Native.Nat.{ℕ, ◌+◌, ◌-◌, ◌≤◌, ◌<◌}
use mathlib.Core.List.{List}
use native.Mathlib.Omega.{arith}
use mathlib.Core.Bool.{Bool, true, false}
use lib.ListN.{length, drop, set, take}
use lib.IntN.{ℤ}
use mir.Syntax.{w64}
use mir.Val.{to_z, of_z}
use Rattle.whole.proofs.Linear.{ret}
use Rattle.text.specs.Lines.{first_line}
use Rattle.text.proofs.LineFeeds.{end-most}
use Rattle.bulletin.specs.Reading.{all_dated}
use Rattle.bulletin.specs.Rows.{has_day_rule, day_in_rule, row_at_rule}
use Rattle.bulletin.specs.Code.{Listed}
use Rattle.bulletin.proofs.ListingLaws.{Listing, row_is, undated, fits, listing_next, rows_few, all_dated_lem, listed}
use Rattle.bulletin.proofs.listing.list_rows.Goals as goal

-- the row at hand, from `at` up to the line feed at `end`; t says whether it has a day
module _ {text : List ℕ} {at n end : ℕ} {dates : List ℤ} {starts : List ℕ} (l : Listing text at n dates starts) (e : end ≡ at + length (first_line (drop at text))) (k : end < length text) (b : length text ≤ 65536) {t : Bool}
    (d : t ≡ has_day_rule (take (end - at) (drop at text))) where
  without : t ≡ false → (n ≤ 4096) × (all_dated text ≡ false)
  without z = (rows_few l end e b, undated l end e k (ap has_day_rule (sym (row_is l end e k)) ∙ sym d ∙ z))

  module _ (z : t ≡ true) where
    dated : has_day_rule (row_at_rule text n) ≡ true
    dated = ap has_day_rule (sym (row_is l end e k)) ∙ sym d ∙ z

    few : n < 4096
    few = fits l end e k dated b

    next : (y : ℤ) → to_z w64 (of_z w64 y) ≡ day_in_rule (take (end - at) (drop at text)) → Listing text (end + 1) (n + 1) (set dates n (to_z w64 (of_z w64 y))) (set starts (n + 1) (end + 1))
    next y h = rw (h ∙ ap day_in_rule (row_is l end e k)) (listing_next l end e k dated few)

-- behind the last row
module _ {text : List ℕ} {at n end : ℕ} {dates : List ℤ} {starts : List ℕ} (l : Listing text at n dates starts) (e : end ≡ at + length (first_line (drop at text))) (k : length text ≤ end) (b : length text ≤ 65536) where
  all_listed : (n ≤ 4096) × (all_dated text ≡ true) × Listed text (take n dates) starts
  all_listed = let z : end ≡ length text = omega (arith, k, end-most text at end l.inside e) in (rows_few l end e b, all_dated_lem l end e z b, listed l end e z b)

-- where all places are filled the text has ended: 16 bytes or more are of each row
ended : {text : List ℕ} {at n : ℕ} {dates : List ℤ} {starts : List ℕ} (l : Listing text at n dates starts) → n ≡ 4096 → length text ≤ 65536 → length text ≤ at + length (first_line (drop at text))
ended l e b = omega (arith, l.few, e, b)

pub returns-then-end-text : goal.returns-then-end-text
returns-then-end-text c = let w = c.loop-n in all_listed w.invariant c.line_end-end.ensures (omega (arith, c.if-end-text.true)) c.requires.0

pub slice_bounds-row-end : goal.slice_bounds-row-end
slice_bounds-row-end c = let w = c.loop-n in end-most c.args.text.now w.at c.line_end-end.result w.invariant.inside c.line_end-end.ensures

-- the row does not end with the text
more : (text : List ℕ) (at end : ℕ) → at ≤ length text → end ≡ at + length (first_line (drop at text)) → (end ≡ length text → ⊥) → end < length text
more text at end h e f = omega (arith, end-most text at end h e, f)

pub returns-then-not-has_day : goal.returns-then-not-has_day
returns-then-not-has_day c =
    let w = c.loop-n in
    let e = c.line_end-end.ensures in
    without w.invariant e (more c.args.text.now w.at c.line_end-end.result w.invariant.inside e c.if-end-text.false) c.requires.0 c.has_day.ensures c.if-not-has_day.true

pub loop-n-preserved : goal.loop-n-preserved
loop-n-preserved c =
    let w = c.loop-n in
    let e = c.line_end-end.ensures in
    let k = more c.args.text.now w.at c.line_end-end.result w.invariant.inside e c.if-end-text.false in
    next w.invariant e k c.requires.0 c.has_day.ensures c.if-not-has_day.false c.day_in.result (ret c.day_in.result c.day_in.type_inv ∙ c.day_in.ensures)

pub returns : goal.returns
returns c =
    let w = c.loop-n in
    let e : w.n ≡ length w.dates = omega (arith, c.loop-n-test.false, w.auto.n-end, w.invariant.room, c.requires.1) in
    subst (λ (n : ℕ). (n ≤ 4096) × (all_dated c.args.text.now ≡ true) × Listed c.args.text.now (take n w.dates) w.starts) e
    (all_listed w.invariant refl (ended w.invariant (omega (arith, e, w.invariant.room)) c.requires.0) c.requires.0)
