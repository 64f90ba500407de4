use Rattle.std.proofs.Common.{◌≡◌, refl, sym, ap, ap₂, ◌∙◌, List, ◌*◌, ◌/◌, ◌+◌, length, take, set, length-set, add-one, arith, ℤ, pos, get_or}
use lib.Seq.{take_at}
use Rattle.whole.proofs.Linear.{back}
use Rattle.whole.proofs.Values.{values_long, value-next}
use Rattle.whole.specs.Values.{first_values}
use Rattle.writer.proofs.WithoutMarks.{kept_at, kept, kept_long}
use Rattle.writer.proofs.marks.put_unmarked.Goals as goal

pub loop-i-init : goal.loop-i-init
unfolding first_values
loop-i-init c = record { all = refl; enough = c.requires; same = refl; so_far = refl }

pub loop-i-preserved : goal.loop-i-preserved
loop-i-preserved c =
    let i = c.loop-i.i in
    let inv = c.loop-i.invariant in
    let f = kept_at c.args.days.now in
    let e = ap₂ (λ (x : List ℤ) (z : ℤ). set x i z) inv.so_far (back {z = get_or c.args.days.now (i + i / 5) (pos 0)} (record { sfits = omega arith })) in
    record {
      all = refl;
      enough = c.requires;
      same = simp length-set inv.same;
      so_far = rw (add-one i) (e ∙ value-next i f c.args.room.now (omega arith));
    }

pub returns : goal.returns
returns c =
    let days = c.args.days.now in
    let n = 5 * (length days / 6) in
    let e : c.loop-i.i ≡ n = omega (arith, c.loop-i.auto.i-end, c.loop-i.invariant.all) in
    (sym (kept_long days), ap (take n) (rw e at c.loop-i.invariant.so_far) ∙ take_at (first_values n (kept_at days)) _ n (values_long n (kept_at days)) ∙ sym (kept days))
