-- `bulletin::taking::days_there` meets its contract: each day before the one at hand is found. Assumes nothing.
use mathlib.Core.Path.{◌≡◌, sym, ap, ◌∙◌}
use mathlib.Core.List.{List}
use Prim.Native.Nat.{ℕ, ◌+◌, ◌≤◌, ◌<◌}
use native.Mathlib.Omega.{arith}
use borrow.Author.Tests.{lt-ltb, le-ltb}
use lib.ListN.{length}
use lib.IntN.{ℤ, pos, ◌+ℤ◌}
use mir.Syntax.{w64}
use mir.Val.{to_z, of_z, SFits}
use Rattle.whole.specs.Whole.{pos_part, ∣◌∣}
use Rattle.whole.proofs.Each.{below_all, below_next, below_fails}
use Rattle.whole.proofs.Linear.{back, add_law, fits!, ⇒eq}
use Rattle.bulletin.specs.Code.{Near}
use Rattle.bulletin.specs.Rows.{first_in_rule}
use Rattle.bulletin.proofs.Finding.{first-most, first_is}
use Rattle.bulletin.proofs.taking.days_there.Goals as goal

plus_none : (z : ℤ) → z +ℤ pos 0 ≡ z
plus_none z = ⇒eq (z +ℤ pos 0) z (omega (arith, add_law z (pos 0)))

plus-next : (z : ℤ) (k : ℕ) → z +ℤ pos k +ℤ pos 1 ≡ z +ℤ pos (k + 1)
plus-next z k = ⇒eq (z +ℤ pos k +ℤ pos 1) (z +ℤ pos (k + 1)) (omega (arith, add_law z (pos k), add_law (z +ℤ pos k) (pos 1), add_law z (pos (k + 1))))

next_fits : (z : ℤ) → ∣ z ∣ ≤ 100_000 → SFits w64 (z +ℤ pos 1)
next_fits z h = fits! (z +ℤ pos 1) (omega (arith, h, add_law z (pos 1)))

-- the day at hand, and its place
module _ (dates : List ℤ) {first : ℤ} (b k : ℕ) (f : SFits w64 first) (e : to_z w64 b ≡ to_z w64 (of_z w64 first) +ℤ pos k) where
  day : to_z w64 b ≡ first +ℤ pos k
  day = e ∙ ap (λ (z : ℤ). z +ℤ pos k) (back f)

  module _ {n : ℕ} (p : n ≡ first_in_rule dates (to_z w64 b)) where
    place : n ≡ first_in_rule dates (first +ℤ pos k)
    place = p ∙ ap (first_in_rule dates) day

    -- it is found
    module _ (h : n ≡ length dates → ⊥) where
      found : first_in_rule dates (first +ℤ pos k) < length dates
      found = omega (arith, h, place, first-most dates (first +ℤ pos k))

      next : Near dates → SFits w64 (to_z w64 b +ℤ pos 1)
      next near = rw day (next_fits (first +ℤ pos k) (rw (first_is dates (first +ℤ pos k) found) at (near (first_in_rule dates (first +ℤ pos k)) found)))

pub loop-k-init : goal.loop-k-init
loop-k-init c = (sym (plus_none _), below_all 0 _ (λ i l. absurd (omega arith)))

pub returns-then-first_in-dates : goal.returns-then-first_in-dates
returns-then-first_in-dates c =
    let dates = c.args.dates.now in
    let p = place dates _ c.loop-k._k c.ranges.first c.loop-k.invariant.0 c.first_in.ensures in
    let n : length dates ≤ first_in_rule dates (c.args.first +ℤ pos c.loop-k._k) = omega (arith, c.if-first_in-dates.true, p) in
    let m : c.loop-k._k < pos_part c.args.count = omega (arith, c.loop-k-test.true, simp (back c.ranges.count) at c.above_zero-k-end.ensures) in
    sym (below_fails (pos_part c.args.count) c.loop-k._k _ m (le-ltb _ _ n))

pub overflow_add-d : goal.overflow_add-d
overflow_add-d c = next c.args.dates.now _ c.loop-k._k c.ranges.first c.loop-k.invariant.0 c.first_in.ensures c.if-first_in-dates.false c.requires

pub loop-k-preserved : goal.loop-k-preserved
loop-k-preserved c =
    let dates = c.args.dates.now in
    let f = c.ranges.first in
    let h = found dates _ c.loop-k._k f c.loop-k.invariant.0 c.first_in.ensures c.if-first_in-dates.false in
    let g = next dates _ c.loop-k._k f c.loop-k.invariant.0 c.first_in.ensures c.if-first_in-dates.false c.requires in (
      back g ∙ ap (λ (z : ℤ). z +ℤ pos 1) c.loop-k.invariant.0 ∙ plus-next (to_z w64 (of_z w64 c.args.first)) c.loop-k._k,
      below_next c.loop-k._k _ c.loop-k.invariant.1 (rw (back f) (lt-ltb _ _ h)),
    )
