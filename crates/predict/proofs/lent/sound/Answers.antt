use Rattle.std.proofs.Common.{◌≡◌, sym, ap, ◌∙◌, true, List, ℕ, ◌+◌, ◌*◌, drop, arith, ℤ}
use Rattle.whole.specs.Whole.{pos_part, ∣◌∣}
use Rattle.whole.proofs.Linear.{back}
use Rattle.whole.proofs.Tests.{no_and}
use Rattle.predict.specs.declared.segment.Lent.{Lent}
use Rattle.predict.specs.Lent.{lent_of, lent_at, segment_ok_rule, sound_from}
use Rattle.predict.proofs.Bools.{yes_and}
use Rattle.predict.proofs.Numbers.{lent_of_more, lent_of_none, good}
use Rattle.predict.proofs.lent.sound.Goals as goal

pub returns-then-not-segment_ok : goal.returns-then-not-segment_ok
unfolding sound_from
returns-then-not-segment_ok c =
    let s = c.args.track.now in
    let at = c.loop-i.at in
    let x = lent_at s c.loop-i.i in
    let read = c.loop-i.invariant.left ∙ ap (λ (l : List Lent). sound_from at l) (lent_of_more s c.loop-i.i (omega arith)) in
    let says : c.segment_ok.result ≡ segment_ok_rule at x = c.segment_ok.ensures ∙ ap (segment_ok_rule at) c.lent_at-x.ensures in
    sym (read ∙ no_and (segment_ok_rule at x) _ (sym says ∙ c.if-not-segment_ok.true))

pub loop-i-preserved : goal.loop-i-preserved
unfolding sound_from
loop-i-preserved c =
    let s = c.args.track.now in
    let at = c.loop-i.at in
    let x = lent_at s c.loop-i.i in
    let read = c.loop-i.invariant.left ∙ ap (λ (l : List Lent). sound_from at l) (lent_of_more s c.loop-i.i (omega arith)) in
    let r = c.lent_at-x.result in
    let says : c.segment_ok.result ≡ segment_ok_rule at x = c.segment_ok.ensures ∙ ap (segment_ok_rule at) c.lent_at-x.ensures in
    let ok : segment_ok_rule at x ≡ true = sym says ∙ c.if-not-segment_ok.false in
    let g = good at x ok in
    let sized : c.size-at.result ≡ pos_part x.count =
    c.size-at.ensures ∙ ap (λ (z : ℤ). ∣ z ∣) (back {z = r.count} (record { sfits = omega arith }) ∙ ap (λ (y : Lent). y.count) c.lent_at-x.ensures) ∙ g.size in
    record {
      samples = omega (arith, sized, g.room);
      left = read ∙ yes_and (segment_ok_rule at x) _ ok
          ∙ ap (λ (n : ℕ). sound_from (at + n) (lent_of (drop (4 * (c.loop-i.i + 1)) s))) (sym sized);
    }

pub returns : goal.returns
unfolding sound_from
returns c =
    let s = c.args.track.now in
    sym (c.loop-i.invariant.left ∙ ap (λ (l : List Lent). sound_from c.loop-i.at l) (lent_of_none s c.loop-i.i (omega arith)))
