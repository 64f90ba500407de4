-- `whole::long::rounded` meets its contract.
use mathlib.Core.Path.{◌≡◌, ap, ◌∙◌}
use Prim.Native.Nat.{◌^◌}
use native.Mathlib.Omega.{arith}
use lib.IntN.{ℤ, pos, ◌+ℤ◌}
use Rattle.whole.specs.Steps.{half_for}
use Rattle.whole.specs.Whole.{floor_z}
use Rattle.whole.proofs.Linear.{back, ret}
use Rattle.whole.proofs.Machine.{M, var, ◌⊞◌, val, bounded, ok, is}
use Rattle.whole.proofs.Rounding.{floor_abs, half_abs, R_steps}
use Rattle.whole.proofs.long.rounded.Goals as goal
use Rattle.whole.proofs.long.rounded.Goals.{After-half, After-upper, After-upper-2, Start}

module _ (s : Start) where
  abbrev high : M
  high = var s.args.high (2 ^ 60) s.requires.0

  abbrev low : M
  low = var s.args.low (2 ^ 60) s.requires.1

floor_of_low : (c : After-upper) → c.upper.result ≡ floor_z c.args.low 32768
floor_of_low c = rw (back c.ranges.low) at c.upper.ensures

abbrev sign : After-upper → M
sign c = high c.before ⊞ var c.upper.result (2 ^ 45) (rw (floor_of_low c) (floor_abs c.args.low 32768 (2 ^ 45) (omega arith) (omega arith)))

half_of_sign : (c : After-half) → c.half.result ≡ half_for (val (sign c.before)) (pos 536870912)
half_of_sign c = c.half.ensures ∙ ap (λ (z : ℤ). half_for z (pos 536870912)) (is (sign c.before) tt)

abbrev raised : After-half → M
raised c = low c.before.before ⊞ var c.half.result 536870912 (rw (half_of_sign c) (half_abs (val (sign c.before)) 536870912 (omega arith)))

floor_of_raised : (c : After-upper-2) → c.upper-2.result ≡ floor_z (val (raised c.before)) 32768
floor_of_raised c = rw (is (raised c.before) tt) at c.upper-2.ensures

abbrev total : After-upper-2 → M
total c =
    high c.before.before.before
    ⊞ var c.upper-2.result (2 ^ 46) (rw (floor_of_raised c) (floor_abs (val (raised c.before)) 32768 (2 ^ 46) (omega arith) (omega (arith, bounded (raised c.before)))))

pub overflow_add-high : goal.overflow_add-high
overflow_add-high c = ok (total c) tt

pub upper-requires-3 : goal.upper-requires-3
upper-requires-3 c = rw (is (total c) tt) (omega (arith, bounded (total c)))

pub returns : goal.returns
returns c =
    let h = c.args.high in
    let l = c.args.low in
    ret c.upper-3.result c.upper-3.type_inv
    ∙ rw (is (total c.before) tt) at c.upper-3.ensures
    ∙ ap (λ (z : ℤ). floor_z (h +ℤ z) 32768) (floor_of_raised c.before)
    ∙ ap (λ (z : ℤ). floor_z (h +ℤ floor_z (l +ℤ z) 32768) 32768) (half_of_sign c.before.before)
    ∙ ap (λ (z : ℤ). floor_z (h +ℤ floor_z (l +ℤ half_for (h +ℤ z) (pos 536870912)) 32768) 32768) (floor_of_low c.before.before.before)
    ∙ R_steps h l
