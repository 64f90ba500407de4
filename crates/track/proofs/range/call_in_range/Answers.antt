use Rattle.std.proofs.Common.{◌≡◌, sym, ap, ◌∙◌, Bool, true, false, ◌&&◌, pos, length, arith, w64}
use mir.ValLaws.{to_z_pos}
use Rattle.fields.specs.Ranges.{inside, samples, tolerance}
use Rattle.whole.proofs.Linear.{back, no_ft}
use Rattle.whole.specs.Each.{all_below}
use Rattle.whole.proofs.Tests.{no_and, and_no}
use Rattle.track.specs.Answer.{small_at, in_range}
use Rattle.track.proofs.range.call_in_range.Goals as goal
use Rattle.track.proofs.range.call_in_range.Goals.{then-inside, else-inside}

-- three tests, of which the first two hold, or one of them fails
module _ (a b c : Bool) where
  last : a ≡ true → b ≡ true → c ≡ (a && b && c)
  last p q = cc

  at_a : a ≡ false → false ≡ (a && b && c)
  at_a h = sym (no_and (a && b) c (no_and a b h))

  at_b : b ≡ false → false ≡ (a && b && c)
  at_b h = sym (no_and (a && b) c (and_no a b h))

pub returns-then-inside-2 : goal.returns-then-inside-2
unfolding in_range
returns-then-inside-2 c =
    let s = c.args.samples.now in
    let t = c.args.tolerance in
    let a : c.inside.result ≡ inside samples (pos (length s)) = c.inside.ensures ∙ ap (inside samples) (to_z_pos w64 (length s) (omega (arith, c.well_formed))) in
    elim c.if-inside.branch [
      | then-inside w ↦
          let b : w.inside-then-inside.result ≡ inside tolerance t = w.inside-then-inside.ensures ∙ ap (inside tolerance) (back c.ranges.tolerance) in
          c.all_small.ensures ∙ last (inside samples (pos (length s))) (inside tolerance t) (all_below (length s) (small_at s)) (sym a ∙ w.if-inside.true) (sym b ∙ sym w.value-is ∙ c.if-inside-2.true)
      | else-inside w ↦ no_ft (sym w.if-inside.false ∙ sym w.value-is ∙ c.if-inside-2.true)
    ]

pub returns-else-inside-2 : goal.returns-else-inside-2
unfolding in_range
returns-else-inside-2 c =
    let s = c.args.samples.now in
    let t = c.args.tolerance in
    let a : c.inside.result ≡ inside samples (pos (length s)) = c.inside.ensures ∙ ap (inside samples) (to_z_pos w64 (length s) (omega (arith, c.well_formed))) in
    c.if-inside-2.false ∙ elim c.if-inside.branch [
      | then-inside w ↦
          let b : w.inside-then-inside.result ≡ inside tolerance t = w.inside-then-inside.ensures ∙ ap (inside tolerance) (back c.ranges.tolerance) in
          at_b (inside samples (pos (length s))) (inside tolerance t) (all_below (length s) (small_at s)) (sym b ∙ sym w.value-is ∙ c.if-inside-2.false)
      | else-inside w ↦ at_a (inside samples (pos (length s))) (inside tolerance t) (all_below (length s) (small_at s)) (sym a ∙ w.if-inside.false)
    ]
