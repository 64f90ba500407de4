-- `text::decimal::put_decimal` meets its contract. Assumes nothing.
use Rattle.std.proofs.Common.{◌≡◌, ◌≤◌, length, ℕ, ℤ, List, ◌∷◌, sym, ap, ◌∙◌, subst, arith, of_z, to_z, length-set}
use Rattle.std.specs.Int.{w64}
use lib.IntN.{nat_abs}
use mir.Val.{SFits}
use Rattle.text.specs.Decimal.{digits_of}
use Rattle.text.specs.Put.{Put}
use Rattle.text.proofs.Digits.{below_zero, from_zero, nineteen}
use Rattle.text.proofs.Puts.{put_one, put_then}
use Rattle.whole.proofs.Linear.{back}
use Rattle.text.proofs.decimal.put_decimal.Goals as goal

few-digits : (z : ℤ) (n : ℕ) → SFits w64 z → n ≡ nat_abs (to_z w64 (of_z w64 z)) → length (digits_of n) ≤ 19
few-digits z n f e = rw (e, back f) (nineteen z f)

pub put_natural-requires : goal.put_natural-requires
put_natural-requires c = simp length-set (omega (arith, few-digits c.args.z c.unsigned_abs-n.result c.ranges.z c.unsigned_abs-n.ensures.value, c.requires))

pub returns-then-z-lt0 : goal.returns-then-z-lt0
returns-then-z-lt0 c =
    let z = c.args.z in
    let d = c.args.room.now in
    let n = c.unsigned_abs-n in
    let p = c.put_natural in
    let e = below_zero z (rw (back c.ranges.z) at c.if-z-lt0.true) ∙ ap (λ (y : ℤ). 45 ∷ digits_of (nat_abs y)) (sym (back c.ranges.z)) ∙ ap (λ (k : ℕ). 45 ∷ digits_of k) (sym n.ensures.value) in
    let q = put_then (put_one d c.args.at _ (omega arith)) (omega arith) p.ensures in
    (subst (λ (bs : List ℕ). Put d c.args.at bs p.new.room p.result) (sym e) q, omega (arith, p.ensures.place, few-digits z n.result c.ranges.z n.ensures.value))

pub put_natural-requires-else-z-lt0 : goal.put_natural-requires-else-z-lt0
put_natural-requires-else-z-lt0 c = omega (arith, few-digits c.args.z c.unsigned_abs-n.result c.ranges.z c.unsigned_abs-n.ensures.value, c.requires)

pub returns-else-z-lt0 : goal.returns-else-z-lt0
returns-else-z-lt0 c =
    let z = c.args.z in
    let d = c.args.room.now in
    let n = c.unsigned_abs-n in
    let p = c.put_natural-else-z-lt0 in
    let e = from_zero z (rw (back c.ranges.z) at c.if-z-lt0.false) ∙ ap (λ (y : ℤ). digits_of (nat_abs y)) (sym (back c.ranges.z)) ∙ ap digits_of (sym n.ensures.value) in
    (subst (λ (bs : List ℕ). Put d c.args.at bs p.new.room p.result) (sym e) p.ensures, omega (arith, p.ensures.place, few-digits z n.result c.ranges.z n.ensures.value))
