use Rattle.std.proofs.Common.{◌≡◌, sym, ap, ◌∙◌, ◌≤◌, arith, ℤ, pos, ◌+ℤ◌, ◌-ℤ◌, ◌*ℤ◌, w64, to_z, of_z}
use borrow.Author.Tests.{le-leb}
use lib.Dec.{leb}
use Rattle.whole.specs.Whole.{∣◌∣}
use Rattle.whole.proofs.Linear.{back, abs_fits}
use Rattle.predict.specs.Ends.{reach, in_reach}
use Rattle.predict.proofs.Bools.{yes_and, counted, less_none}
use Rattle.predict.proofs.segment.ends_ok.Goals as goal

pub returns-then-size-le8585216000032767 : goal.returns-then-size-le8585216000032767
returns-then-size-le8585216000032767 c =
    let x = c.args.x in
    let offset : to_z w64 (of_z w64 x.offset) ≡ x.offset = back {z = x.offset} (abs_fits (omega (arith, c.requires.offset_bound))) in
    let rate : to_z w64 (of_z w64 x.rate) ≡ x.rate = back {z = x.rate} (abs_fits (omega (arith, c.requires.offset_bound))) in
    let n = counted x.count c.requires.count_bound.0 c.requires.count_bound.1 in
    let last : to_z w64 (of_z w64 (to_z w64 (of_z w64 x.count) -ℤ pos 1)) ≡ x.count -ℤ pos 1 =
    ap (λ (z : ℤ). to_z w64 (of_z w64 (z -ℤ pos 1))) (back {z = x.count} (abs_fits (omega (arith, n)))) ∙ back {z = x.count -ℤ pos 1} (abs_fits (omega (arith, n))) in
    let first : ∣ x.offset ∣ ≤ reach = omega (arith, c.if-size-le8585216000032767.true, c.size.ensures, ap (λ (z : ℤ). ∣ z ∣) offset) in
    c.within.ensures
    ∙ (λ i. leb ∣ offset i +ℤ rate i *ℤ last i -ℤ pos 0 ∣ reach)
    ∙ ap (λ (z : ℤ). leb ∣ z ∣ reach) (less_none (x.offset +ℤ x.rate *ℤ (x.count -ℤ pos 1)))
    ∙ sym (yes_and (leb ∣ x.offset ∣ reach) (in_reach x.offset x.rate (x.count -ℤ pos 1)) (le-leb ∣ x.offset ∣ reach first))
