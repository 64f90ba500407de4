use Rattle.std.proofs.Common.{◌≡◌, sym, ap, ap₂, subst, ◌∙◌, true, List, ◌∷◌, ℕ, ◌+◌, ◌-◌, ◌*◌, ◌^◌, ◌≤◌, ◌<◌, length, drop, arith, ℤ, pos, ◌+ℤ◌, ◌*ℤ◌, w64, to_z, of_z}
use mir.Val.{SFits}
use mir.ValLaws.{to_z_pos}
use Rattle.whole.specs.Whole.{pos_part, ∣◌∣, R}
use Rattle.whole.specs.Answers.{number}
use Rattle.whole.proofs.Linear.{back, abs_fits, abs_sub}
use Rattle.whole.proofs.Quote.{⟨◌⟩, ◌⊕◌, ◌⊝◌, by≡}
use Rattle.predict.specs.declared.segment.Lent.{Lent}
use Rattle.predict.specs.Lent.{lent_of, lent_at, predicted, sound_from, answer_at}
use Rattle.predict.specs.Ends.{reach}
use Rattle.predict.proofs.Numbers.{Good, good, sound_head, lent_of_more, lent_of_none, covered, passed, nothing_left}
use Rattle.predict.proofs.lent.prediction_at.Goals as goal

-- the segment that is read: it is as it should be, and so is what is left of the track after it
here : (s : List ℤ) (at i : ℕ) (r : Lent) → 4 * i + 3 < length s → sound_from at (lent_of (drop (4 * i) s)) ≡ true → r ≡ lent_at s i
    → Good at r × (sound_from (at + pos_part r.count) (lent_of (drop (4 * (i + 1)) s)) ≡ true) × (lent_of (drop (4 * i) s) ≡ r ∷ lent_of (drop (4 * (i + 1)) s))
here s at i r h sound e =
    let rest = lent_of (drop (4 * (i + 1)) s) in
    let read : lent_of (drop (4 * i) s) ≡ r ∷ rest = lent_of_more s i h ∙ ap (λ (x : Lent). x ∷ rest) (sym e) in
    let head = sound_head at r rest (sym (ap (sound_from at) read) ∙ sound) in
    (good at r head.0, head.1, read)

-- A + r·j does not wrap at a sample of the segment, and what is rounded is the line itself
record Rounds (r : Lent) (j : ℕ) : Type 0 where
  product : SFits w64 (to_z w64 (of_z w64 r.rate) *ℤ to_z w64 j)
  sum : SFits w64 (to_z w64 (of_z w64 r.offset) +ℤ to_z w64 (of_z w64 (to_z w64 (of_z w64 r.rate) *ℤ to_z w64 j)))
  line : to_z w64 (of_z w64 (to_z w64 (of_z w64 r.offset) +ℤ to_z w64 (of_z w64 (to_z w64 (of_z w64 r.rate) *ℤ to_z w64 j)))) ≡ r.offset +ℤ r.rate *ℤ pos j

rounds : (at : ℕ) (r : Lent) → Good at r → SFits w64 r.offset → SFits w64 r.rate → (j : ℕ) → j < pos_part r.count → Rounds r j
rounds at r g fA fr j inside = record {
  product = subst (λ (z : ℤ). SFits w64 z) (sym product_is) product_fits;
  sum = subst (λ (z : ℤ). SFits w64 z) (sym sum_is) sum_fits;
  line = ap (λ (z : ℤ). to_z w64 (of_z w64 z)) sum_is ∙ back sum_fits;
}
  where
    hx : ∣ r.offset +ℤ r.rate *ℤ pos j ∣ ≤ reach
    hx = g.reached j inside

    product_is : to_z w64 (of_z w64 r.rate) *ℤ to_z w64 j ≡ r.rate *ℤ pos j
    product_is = ap₂ (λ (x y : ℤ). x *ℤ y) (back fr) (to_z_pos w64 j (omega (arith, g.cap)))

    product_fits : SFits w64 (r.rate *ℤ pos j)
    product_fits = abs_fits (omega (
      arith,
      hx,
      g.offset,
      abs_sub (r.offset +ℤ r.rate *ℤ pos j) r.offset,
      ap (λ (z : ℤ). ∣ z ∣) (by≡ (⟨ r.offset ⟩ ⊕ ⟨ r.rate *ℤ pos j ⟩ ⊝ ⟨ r.offset ⟩) ⟨ r.rate *ℤ pos j ⟩ (omega arith)),
    ))

    sum_is : to_z w64 (of_z w64 r.offset) +ℤ to_z w64 (of_z w64 (to_z w64 (of_z w64 r.rate) *ℤ to_z w64 j)) ≡ r.offset +ℤ r.rate *ℤ pos j
    sum_is = ap₂ (λ (x y : ℤ). x +ℤ y) (back fA) (ap (λ (z : ℤ). to_z w64 (of_z w64 z)) product_is ∙ back product_fits)

    sum_fits : SFits w64 (r.offset +ℤ r.rate *ℤ pos j)
    sum_fits = abs_fits (omega (arith, hx))

pub overflow_mul-x : goal.overflow_mul-x
overflow_mul-x c =
    let r = c.lent_at-x.result in
    let inv = c.loop-i.invariant in
    let h = here c.args.track.now c.loop-i.at c.loop-i.i r (omega arith) inv.sound c.lent_at-x.ensures in
    let sized : c.size.result ≡ pos_part r.count =
    c.size.ensures ∙ ap (λ (z : ℤ). ∣ z ∣) (back {z = r.count} (record { sfits = omega arith })) ∙ h.0.size in
    let j = c.args.sample - c.loop-i.at in
    let inside : j < pos_part r.count = omega arith in
    let q = rounds c.loop-i.at r h.0 (record { sfits = omega arith }) (record { sfits = omega arith }) j inside in
    q.product

pub overflow_add-x : goal.overflow_add-x
overflow_add-x c =
    let r = c.lent_at-x.result in
    let inv = c.loop-i.invariant in
    let h = here c.args.track.now c.loop-i.at c.loop-i.i r (omega arith) inv.sound c.lent_at-x.ensures in
    let sized : c.size.result ≡ pos_part r.count =
    c.size.ensures ∙ ap (λ (z : ℤ). ∣ z ∣) (back {z = r.count} (record { sfits = omega arith })) ∙ h.0.size in
    let j = c.args.sample - c.loop-i.at in
    let inside : j < pos_part r.count = omega arith in
    let q = rounds c.loop-i.at r h.0 (record { sfits = omega arith }) (record { sfits = omega arith }) j inside in
    q.sum

-- Nothing wraps,
-- so that what is rounded is the line itself.
pub round_div-requires : goal.round_div-requires
round_div-requires c =
    let r = c.lent_at-x.result in
    let inv = c.loop-i.invariant in
    let h = here c.args.track.now c.loop-i.at c.loop-i.i r (omega arith) inv.sound c.lent_at-x.ensures in
    let sized : c.size.result ≡ pos_part r.count =
    c.size.ensures ∙ ap (λ (z : ℤ). ∣ z ∣) (back {z = r.count} (record { sfits = omega arith })) ∙ h.0.size in
    let j = c.args.sample - c.loop-i.at in
    let inside : j < pos_part r.count = omega arith in
    let q = rounds c.loop-i.at r h.0 (record { sfits = omega arith }) (record { sfits = omega arith }) j inside in
    (subst (λ (z : ℤ). ∣ z ∣ < 2 ^ 63) (sym q.line) (omega (arith, h.0.reached j inside)), omega arith, omega arith)

pub returns-then-sample-end : goal.returns-then-sample-end
returns-then-sample-end c =
    let r = c.lent_at-x.result in
    let inv = c.loop-i.invariant in
    let h = here c.args.track.now c.loop-i.at c.loop-i.i r (omega arith) inv.sound c.lent_at-x.ensures in
    let sized : c.size.result ≡ pos_part r.count =
    c.size.ensures ∙ ap (λ (z : ℤ). ∣ z ∣) (back {z = r.count} (record { sfits = omega arith })) ∙ h.0.size in
    let j = c.args.sample - c.loop-i.at in
    let inside : j < pos_part r.count = omega arith in
    let q = rounds c.loop-i.at r h.0 (record { sfits = omega arith }) (record { sfits = omega arith }) j inside in
    let v : c.round_div.result ≡ predicted r (pos j) = c.round_div.ensures ∙ ap (λ (z : ℤ). R z 65536) q.line in
    ap number (ap (λ (z : ℤ). to_z w64 (of_z w64 z)) v ∙ back {z = predicted r (pos j)} (abs_fits (omega (arith, h.0.predictions j inside))))
    ∙ sym (covered c.loop-i.at r h.0 (lent_of (drop (4 * (c.loop-i.i + 1)) c.args.track.now)) c.args.sample inv.before (omega arith))
    ∙ sym (inv.left ∙ ap (λ (l : List Lent). answer_at l c.args.sample) h.2)

pub loop-i-preserved : goal.loop-i-preserved
loop-i-preserved c =
    let s = c.args.track.now in
    let r = c.lent_at-x.result in
    let inv = c.loop-i.invariant in
    let h = here s c.loop-i.at c.loop-i.i r (omega arith) inv.sound c.lent_at-x.ensures in
    let g = h.0 in
    let sized : c.size.result ≡ pos_part r.count =
    c.size.ensures ∙ ap (λ (z : ℤ). ∣ z ∣) (back {z = r.count} (record { sfits = omega arith })) ∙ g.size in
    let rest = lent_of (drop (4 * (c.loop-i.i + 1)) s) in
    record {
      samples = omega (arith, g.room);
      before = c.if-sample-end.false;
      sound = subst (λ (n : ℕ). sound_from (c.loop-i.at + n) rest ≡ true) (sym sized) h.1;
      left = inv.left ∙ ap (λ (l : List Lent). answer_at l c.args.sample) h.2
          ∙ passed c.loop-i.at r g rest c.args.sample inv.before (omega arith);
    }

pub returns : goal.returns
returns c =
    let s = c.args.track.now in
    sym (c.loop-i.invariant.left ∙ ap (λ (l : List Lent). answer_at l c.args.sample) (lent_of_none s c.loop-i.i (omega arith)) ∙ nothing_left c.args.sample)
