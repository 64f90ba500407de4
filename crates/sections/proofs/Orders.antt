-- The order of a layout, as the code holds it. Assumes nothing.
use mathlib.Core.Path.{◌≡◌, refl, sym, ◌∙◌}
use mathlib.Core.List.{List}
use Prim.Native.Nat.{ℕ, zero, suc, ◌-◌, ◌≤◌}
use mathlib.Core.Bool.{Bool, true, false, not}
use native.Mathlib.Omega.{arith}
use lib.Dec.{eqb, leb}
use borrow.Author.Tests.{leb-true, ne_eqb}
use denote.Enum.Bare.{sameb}
use Rattle.sections.specs.contracts.layouts.Order.{the_type}
use Rattle.sections.specs.declared.layouts.Order.{Order}
use Rattle.sections.specs.declared.layouts.Order.TheVariants.{Any, Rising, Consecutive}
use Rattle.sections.specs.Code.{order_of, order_number, shape_of}
use lib.IntN.{ℤ}
use Rattle.whole.specs.Each.{implies, all_below}
use Rattle.whole.proofs.Each.{below_all}
use Rattle.sections.specs.File.{kind_of, count_of_rule, layout_of, steps, step_right_rule, order_right_rule}
use Rattle.sections.specs.Layouts.{Layout, places, no_layout, layout_in_rule}
use Rattle.sections.proofs.Shapes.{any_kind}

known : Layout → Bool
known l = leb l.order 2

-- today's kinds have one of the three orders
order_known : (p k : ℕ) → (layout_in_rule places p k).order ≤ 2
unfolding known places no_layout
order_known p k = leb-true _ _ (any_kind known places p k refl refl)

tests : (n : ℕ) → n ≤ 2 → (o : Order) → sameb the_type (order_of n) o ≡ eqb n (order_number o)
tests zero h Any = refl
tests zero h Rising = refl
tests zero h Consecutive = refl
tests (suc zero) h Any = refl
tests (suc zero) h Rising = refl
tests (suc zero) h Consecutive = refl
tests (suc (suc zero)) h Any = refl
tests (suc (suc zero)) h Rising = refl
tests (suc (suc zero)) h Consecutive = refl
tests (suc (suc (suc n))) h o = absurd (omega (arith, h))

-- that a layout has an order, as the code tests it
pub same_order : (p k : ℕ) (o : Order) → sameb the_type (shape_of (layout_in_rule places p k)).order o ≡ eqb (layout_in_rule places p k).order (order_number o)
unfolding shape_of
same_order p k o = tests _ (order_known p k) o

pub denied : (b : Bool) → not b ≡ true → b ≡ false
denied true e = sym e
denied false e = refl

pub affirmed : (b : Bool) → not b ≡ false → b ≡ true
affirmed true e = refl
affirmed false e = sym e

-- an order made of a number asks what that number asks, of two records and of a section: from 3 on that is nothing
pub order_kept : (n : ℕ) (a b : ℤ) → steps (order_number (order_of n)) a b ≡ steps n a b
unfolding steps
order_kept zero a b = refl
order_kept (suc zero) a b = refl
order_kept (suc (suc zero)) a b = refl
order_kept (suc (suc (suc n))) a b =
    let m = suc (suc (suc n)) in
    rw (ne_eqb m 1 (λ z. omega (arith, z)), ne_eqb m 2 (λ z. omega (arith, z))) refl

-- no order is kept by any records
none_kept : (s : List ℕ) (p : ℕ) (b : Bool) → implies b (all_below (count_of_rule s p - 1) (step_right_rule places s 0 p)) ≡ true
unfolding steps step_right_rule
none_kept s p true = below_all (count_of_rule s p - 1) _ (λ i l. refl)
none_kept s p false = refl

pub section_kept : (s : List ℕ) (n p : ℕ) → order_right_rule places s (order_number (order_of n)) p ≡ order_right_rule places s n p
unfolding order_right_rule
section_kept s zero p = refl
section_kept s (suc zero) p = refl
section_kept s (suc (suc zero)) p = refl
section_kept s (suc (suc (suc n))) p =
    let m = suc (suc (suc n)) in
    let e : eqb (layout_of places s p).order m ≡ false = ne_eqb (layout_of places s p).order m (λ z. omega (arith, z, order_known p (kind_of s p))) in
    none_kept s p (eqb (layout_of places s p).order 0) ∙ sym (rw e refl)
