use Rattle.std.proofs.Common.{◌≡◌, refl, sym, ap, subst, ◌∙◌, ℕ, ◌+◌, ◌*◌, ◌≤◌, length, arith, ℤ, pos, ◌+ℤ◌, ◌-ℤ◌, ◌*ℤ◌, w64, to_z, of_z}
use borrow.Author.Tests.{lt-leb, le-leb}
use mir.Val.{SFits}
use Rattle.whole.specs.Whole.{pos_part, ∣◌∣}
use Rattle.whole.specs.Each.{all_below}
use Rattle.whole.proofs.Each.{below_next, below_fails}
use Rattle.whole.proofs.Linear.{back, abs_add}
use Rattle.whole.proofs.Machine.{lit, var, ◌⊞◌, ◌⊟◌, ◌⊠◌, ok, is}
use Rattle.whole.proofs.Quote.{⟨◌⟩, #, ◌⊕◌, ◌⊗◌, by≡}
use Rattle.fit.specs.Line.{sample, apart}
use Rattle.predict.proofs.Numbers.{placed, in_bounds}
use Rattle.predict.proofs.Own.{near_size}
use Rattle.predict.proofs.Reach.{line_start}
use Rattle.judge.specs.Judgement.{near_at, samples_ok_rule}
use Rattle.judge.proofs.near.samples_ok.Goals as goal

-- one sample on
more : (A r : ℤ) (j : ℕ) → A +ℤ r *ℤ pos j +ℤ r ≡ A +ℤ r *ℤ pos (j + 1)
more A r j = by≡ (⟨ A ⟩ ⊕ ⟨ r ⟩ ⊗ # j ⊕ ⟨ r ⟩) (⟨ A ⟩ ⊕ ⟨ r ⟩ ⊗ # (j + 1)) (omega arith)

-- the sums of a step at the sample v, where the line, as the word w, is z
module _ (z r v : ℤ) (w : ℕ) (z_is : to_z w64 w ≡ z) (size : ∣ z ∣ ≤ 29_000_000_000_000_000) (rate : ∣ r ∣ ≤ 20_000_000_000_000_000) (small : ∣ v ∣ ≤ 130_000_000_000) where
  line_is : to_z w64 w ≡ to_z w64 (of_z w64 z)
  line_is = z_is ∙ sym (is (var z 29_000_000_000_000_000 size) tt)

  difference : SFits w64 (to_z w64 w -ℤ to_z w64 (of_z w64 (pos 65536 *ℤ to_z w64 (of_z w64 v))))
  difference = subst (λ (y : ℤ). SFits w64 (y -ℤ to_z w64 (of_z w64 (pos 65536 *ℤ to_z w64 (of_z w64 v))))) (sym line_is) (ok (var z 29_000_000_000_000_000 size ⊟ (lit (pos 65536) ⊠ var v 130_000_000_000 small)) tt)

  off : ∣ to_z w64 (of_z w64 (to_z w64 w -ℤ to_z w64 (of_z w64 (pos 65536 *ℤ to_z w64 (of_z w64 v))))) ∣ ≡ ∣ z -ℤ pos 65536 *ℤ v ∣
  off = ap (λ (y : ℤ). ∣ to_z w64 (of_z w64 (y -ℤ to_z w64 (of_z w64 (pos 65536 *ℤ to_z w64 (of_z w64 v))))) ∣) line_is
      ∙ ap (λ (y : ℤ). ∣ y ∣) (is (var z 29_000_000_000_000_000 size ⊟ (lit (pos 65536) ⊠ var v 130_000_000_000 small)) tt)

  sum : SFits w64 (to_z w64 w +ℤ to_z w64 (of_z w64 r))
  sum = subst (λ (y : ℤ). SFits w64 (y +ℤ to_z w64 (of_z w64 r))) (sym line_is) (ok (var z 29_000_000_000_000_000 size ⊞ var r 20_000_000_000_000_000 rate) tt)

  sum_is : to_z w64 (of_z w64 (to_z w64 w +ℤ to_z w64 (of_z w64 r))) ≡ z +ℤ r
  sum_is = ap (λ (y : ℤ). to_z w64 (of_z w64 (y +ℤ to_z w64 (of_z w64 r)))) line_is ∙ is (var z 29_000_000_000_000_000 size ⊞ var r 20_000_000_000_000_000 rate) tt

pub loop-j-init : goal.loop-j-init
unfolding all_below
loop-j-init c =
    let x = c.args.x in
    let stands = placed (length c.args.samples.values.now) c.args.at x c.requires.0 c.requires.1 in
    let starts = line_start x.offset x.rate in
    record {
      count = c.size-n.ensures ∙ ap (λ (y : ℤ). ∣ y ∣) (back {z = x.count} (record { sfits = omega arith })) ∙ stands.size;
      line_is = back {z = x.offset} (record { sfits = omega arith }) ∙ sym starts;
      size = omega (arith, in_bounds x c.requires.2, ap (λ (y : ℤ). ∣ y ∣) starts);
      near = refl;
    }

pub overflow_mul-s : goal.overflow_mul-s
overflow_mul-s c =
    let v = sample c.args.samples.values.now (c.args.at + c.loop-j.j) in
    ok (lit (pos 65536) ⊠ var v 130_000_000_000 (c.args.samples.small (c.args.at + c.loop-j.j))) tt

pub overflow_sub-line : goal.overflow_sub-line
overflow_sub-line c =
    let x = c.args.x in
    let inv = c.loop-j.invariant in
    difference (x.offset +ℤ x.rate *ℤ pos c.loop-j.j) x.rate (sample c.args.samples.values.now (c.args.at + c.loop-j.j)) _ inv.line_is inv.size (in_bounds x c.requires.2).1 (c.args.samples.small (c.args.at + c.loop-j.j))

pub returns-then-most-size : goal.returns-then-most-size
unfolding samples_ok_rule
returns-then-most-size c =
    let x = c.args.x in
    let s = c.args.samples.values.now in
    let most = 65536 * c.args.samples.tolerance in
    let j = c.loop-j.j in
    let inv = c.loop-j.invariant in
    let says : c.size.result ≡ ∣ apart s x.offset x.rate c.args.at j ∣ =
    c.size.ensures ∙ off (x.offset +ℤ x.rate *ℤ pos j) x.rate (sample s (c.args.at + j)) _ inv.line_is inv.size (in_bounds x c.requires.2).1 (c.args.samples.small (c.args.at + j)) in
    sym (below_fails (pos_part x.count) j (near_at s most x c.args.at) (omega arith) (lt-leb ∣ apart s x.offset x.rate c.args.at j ∣ most (omega (arith, says))))

pub overflow_add-line : goal.overflow_add-line
overflow_add-line c =
    let x = c.args.x in
    let inv = c.loop-j.invariant in
    sum (x.offset +ℤ x.rate *ℤ pos c.loop-j.j) x.rate (sample c.args.samples.values.now (c.args.at + c.loop-j.j)) _ inv.line_is inv.size (in_bounds x c.requires.2).1 (c.args.samples.small (c.args.at + c.loop-j.j))

pub loop-j-preserved : goal.loop-j-preserved
loop-j-preserved c =
    let x = c.args.x in
    let s = c.args.samples.values.now in
    let t = c.args.samples.tolerance in
    let j = c.loop-j.j in
    let inv = c.loop-j.invariant in
    let v = sample s (c.args.at + j) in
    let z = x.offset +ℤ x.rate *ℤ pos j in
    let rate = (in_bounds x c.requires.2).1 in
    let small = c.args.samples.small (c.args.at + j) in
    let says : c.size.result ≡ ∣ apart s x.offset x.rate c.args.at j ∣ = c.size.ensures ∙ off z x.rate v _ inv.line_is inv.size rate small in
    let near : ∣ apart s x.offset x.rate c.args.at j ∣ ≤ 65536 * t = omega (arith, says) in
    let step = more x.offset x.rate j in
    record {
      count = inv.count;
      line_is = sum_is z x.rate v _ inv.line_is inv.size rate small ∙ step;
      size = omega (arith, near_size z v t near small c.args.samples.near, abs_add z x.rate, rate, ap (λ (y : ℤ). ∣ y ∣) step);
      near = below_next j (near_at s (65536 * t) x c.args.at) inv.near (le-leb _ _ near);
    }

pub returns : goal.returns
unfolding samples_ok_rule
returns c =
    let inv = c.loop-j.invariant in
    let e : c.loop-j.j ≡ pos_part c.args.x.count = omega arith in
    sym (ap (λ (n : ℕ). all_below n (near_at c.args.samples.values.now (65536 * c.args.samples.tolerance) c.args.x c.args.at)) (sym e) ∙ inv.near)
