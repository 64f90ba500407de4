-- `sections::session::row_at` meets its contract: the row holds the first k numbers, and zeros behind them.
use mathlib.Core.Path.{◌≡◌, refl, sym, ap, ap₂, ◌∙◌}
use mathlib.Core.List.{List, ◌++◌}
use Prim.Native.Nat.{ℕ, zero, suc, ◌+◌, ◌-◌, ◌*◌}
use native.Mathlib.Numerals.{add-one}
use native.Mathlib.Omega.{arith}
use lib.ListN.{drop, set, replicate}
use lib.IntN.{ℤ, pos}
use mir.Syntax.{w64}
use mir.Val.{to_z, of_z}
use Rattle.whole.specs.Values.{first_values}
use Rattle.whole.proofs.Linear.{ret}
use Rattle.whole.proofs.Values.{value_none, value-next}
use Rattle.text.specs.Words.{number_at_rule}
use borrow.Author.Rules.{rules}
use Rattle.sections.proofs.session.row_at.Goals as goal

abbrev value : List ℕ → ℕ → ℕ → ℤ
value s at k = number_at_rule s (at + 8 * k)

abbrev zeros : List ℤ
zeros = replicate 8 (pos 0)

drop-zeros : (m n : ℕ) → drop n (replicate m (pos 0)) ≡ replicate (m - n) (pos 0)
drop-zeros zero zero = refl
drop-zeros (suc m) zero = let e : suc m - zero ≡ suc m = omega arith in rw e
drop-zeros zero (suc n) = let e : zero - suc n ≡ 0 = omega arith in rw e
drop-zeros (suc m) (suc n) = let e : suc m - suc n ≡ m - n = omega arith in rw e (drop-zeros m n)

pub loop-k-init : goal.loop-k-init
loop-k-init c = value_none _ _

pub loop-k-preserved : goal.loop-k-preserved
loop-k-preserved c =
    let k = c.loop-k.k in
    let f = value c.args.s.now c.args.at in
    let v : to_z w64 (of_z w64 c.number_at.result) ≡ f k = ret c.number_at.result c.number_at.type_inv ∙ c.number_at.ensures in
    let r : set (first_values k f ++ drop k zeros) k (f k) ≡ first_values (suc k) f ++ drop (suc k) zeros = value-next k f zeros (search rules) in
    ap₂ (λ (x : List ℤ) (z : ℤ). set x k z) c.loop-k.invariant v ∙ r ∙ ap (λ (n : ℕ). first_values n f ++ drop n zeros) (sym (add-one k))

pub returns : goal.returns
returns c =
    let f = value c.args.s.now c.args.at in
    let e : c.loop-k.k ≡ c.args.size = omega (arith, c.loop-k.auto.k-end) in
    c.loop-k.invariant ∙ ap (λ (n : ℕ). first_values n f ++ drop n zeros) e ∙ ap (λ (z : List ℤ). first_values c.args.size f ++ z) (drop-zeros 8 c.args.size)
