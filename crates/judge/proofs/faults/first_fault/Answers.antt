use Rattle.std.proofs.Common.{◌≡◌, sym, ap, subst, ◌∙◌, true, List, ◌∷◌, ℕ, ◌+◌, ◌*◌, ◌<◌, length, drop, arith, ℤ}
use Rattle.whole.specs.Whole.{pos_part, ∣◌∣}
use Rattle.whole.proofs.Linear.{back, and_true}
use Rattle.predict.specs.declared.segment.Lent.{Lent}
use Rattle.predict.specs.Lent.{lent_of, lent_at, range_ok_rule}
use Rattle.predict.proofs.Numbers.{lent_of_more, lent_of_none}
use Rattle.judge.specs.Judgement.{fault_of_rule, verdict, judged_from, ranges_ok_rule}
use Rattle.judge.proofs.Judging.{number_some, fault_sound, sound_placed, judged_fault, judged_next, judged_early, judged_end}
use Rattle.judge.proofs.faults.first_fault.Goals as goal

-- the segment that is read, and what is left behind it
here : (s : List ℤ) (t : ℕ) (track : List ℤ) (at i : ℕ) (x : Lent) → 4 * i + 3 < length track → ranges_ok_rule (lent_of (drop (4 * i) track)) ≡ true
    → judged_from s t 0 0 (lent_of track) ≡ judged_from s t at i (lent_of (drop (4 * i) track)) → x ≡ lent_at track i
    → (range_ok_rule x ≡ true) × (ranges_ok_rule (lent_of (drop (4 * (i + 1)) track)) ≡ true)
    × (judged_from s t 0 0 (lent_of track) ≡ judged_from s t at i (x ∷ lent_of (drop (4 * (i + 1)) track)))
unfolding ranges_ok_rule
here s t track at i x h ranges left e =
    let rest = lent_of (drop (4 * (i + 1)) track) in
    let read : lent_of (drop (4 * i) track) ≡ x ∷ rest = lent_of_more track i h ∙ ap (λ (y : Lent). y ∷ rest) (sym e) in
    let both = and_true (range_ok_rule x) (ranges_ok_rule rest) (subst (λ (l : List Lent). ranges_ok_rule l ≡ true) read ranges) in
    (both.0, both.1, left ∙ ap (λ (l : List Lent). judged_from s t at i l) read)

pub fault_of-requires-clause-in_range : goal.fault_of-requires-clause-in_range
fault_of-requires-clause-in_range c =
    let x = c.lent_at-x.result in
    let inv = c.loop-i.invariant in
    (here c.args.samples.values.now c.args.samples.tolerance c.args.track.now c.loop-i.at c.loop-i.i x (omega arith) inv.ranges inv.left c.lent_at-x.ensures).0

pub returns-in-Some : goal.returns-in-Some
returns-in-Some c =
    let s = c.args.samples.values.now in
    let t = c.args.samples.tolerance in
    let x = c.lent_at-x.result in
    let inv = c.loop-i.invariant in
    let h = here s t c.args.track.now c.loop-i.at c.loop-i.i x (omega arith) inv.ranges inv.left c.lent_at-x.ensures in
    let e = c.in-Some.ensures in
    c.verdict.ensures
    ∙ ap (λ (n : ℕ). verdict n c.loop-i.i) e
    ∙ sym (h.2 ∙ judged_fault s t c.loop-i.at x c.loop-i.i (lent_of (drop (4 * (c.loop-i.i + 1)) c.args.track.now)) (λ z. number_some c.in-Some.fault (e ∙ z)))

pub loop-i-preserved : goal.loop-i-preserved
loop-i-preserved c =
    let s = c.args.samples.values.now in
    let t = c.args.samples.tolerance in
    let x = c.lent_at-x.result in
    let inv = c.loop-i.invariant in
    let h = here s t c.args.track.now c.loop-i.at c.loop-i.i x (omega arith) inv.ranges inv.left c.lent_at-x.ensures in
    let rest = lent_of (drop (4 * (c.loop-i.i + 1)) c.args.track.now) in
    let no_fault : fault_of_rule s t c.loop-i.at x ≡ 0 = sym c.in_default.ensures in
    let stands = sound_placed s t c.loop-i.at x (fault_sound s t c.loop-i.at x no_fault) in
    let sized : c.size-at.result ≡ pos_part x.count =
    c.size-at.ensures ∙ ap (λ (z : ℤ). ∣ z ∣) (back {z = x.count} (record { sfits = omega arith })) ∙ stands.size in
    record {
      samples = omega (arith, sized, stands.room);
      ranges = h.1;
      left = h.2 ∙ judged_next s t c.loop-i.at x c.loop-i.i rest no_fault
          ∙ ap (λ (n : ℕ). judged_from s t (c.loop-i.at + n) (c.loop-i.i + 1) rest) (sym sized);
    }

pub returns-then-at-samples : goal.returns-then-at-samples
returns-then-at-samples c =
    let s = c.args.samples.values.now in
    let t = c.args.samples.tolerance in
    let at_end = c.loop-i.invariant.left
    ∙ ap (λ (l : List Lent). judged_from s t c.loop-i.at c.loop-i.i l) (lent_of_none c.args.track.now c.loop-i.i (omega arith)) in
    c.verdict-then-at-samples.ensures
    ∙ ap (λ (n : ℕ). verdict 1 n) (omega arith)
    ∙ sym (at_end ∙ judged_early s t c.loop-i.at c.loop-i.i (λ e. omega (arith, c.if-at-samples.true, e)))

pub returns : goal.returns
returns c =
    let s = c.args.samples.values.now in
    let t = c.args.samples.tolerance in
    let at_end = c.loop-i.invariant.left
    ∙ ap (λ (l : List Lent). judged_from s t c.loop-i.at c.loop-i.i l) (lent_of_none c.args.track.now c.loop-i.i (omega arith)) in
    sym (at_end ∙ judged_end s t c.loop-i.at c.loop-i.i (omega arith))
