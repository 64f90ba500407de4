-- `whole::long::turned` meets its contract.
use mathlib.Core.Path.{◌≡◌, ap, ◌∙◌}
use Prim.Native.Nat.{◌^◌}
use native.Mathlib.Omega.{arith}
use lib.IntN.{ℤ, pos, ◌+ℤ◌, ◌*ℤ◌}
use Rattle.whole.specs.Whole.{R, floor_z, mod_z}
use Rattle.whole.proofs.Linear.{back, ret}
use Rattle.whole.proofs.Machine.{M, var, ◌⊞◌, ◌⊠◌, bounded, ok, is}
use Rattle.whole.proofs.Quote.{⟨◌⟩, #, ◌⊕◌, ◌⊗◌, by≡}
use Rattle.whole.proofs.Rounding.{floor_abs, floor_mod, mod_below}
use Rattle.whole.proofs.long.turned.Goals as goal
use Rattle.whole.proofs.long.turned.Goals.{After-lower, After-lower-2, After-upper, After-upper-2, Start}

module _ (s : Start) where
  abbrev cos : M
  cos = var s.args.c (2 ^ 30) s.requires.2

  abbrev sin : M
  sin = var s.args.d (2 ^ 30) s.requires.3

-- the four parts that the calls give
x_high : (c : After-upper) → c.upper.result ≡ floor_z c.args.x 32768
x_high c = rw (back c.ranges.x) at c.upper.ensures

y_high : (c : After-upper-2) → c.upper-2.result ≡ floor_z c.args.y 32768
y_high c = rw (back c.ranges.y) at c.upper-2.ensures

x_low : (c : After-lower) → c.lower.result ≡ pos (mod_z c.args.x 32768)
x_low c = rw (back c.ranges.x) at c.lower.ensures

y_low : (c : After-lower-2) → c.lower-2.result ≡ pos (mod_z c.args.y 32768)
y_low c = rw (back c.ranges.y) at c.lower-2.ensures

-- the code's products and sums
abbrev high_x : After-upper → M
high_x c =
    var c.upper.result (2 ^ 21) (rw (x_high c) (floor_abs c.args.x 32768 (2 ^ 21) (omega arith) (omega arith)))
    ⊠ cos c.before

abbrev high : After-upper-2 → M
high c =
    high_x c.before
    ⊞ var c.upper-2.result (2 ^ 21) (rw (y_high c) (floor_abs c.args.y 32768 (2 ^ 21) (omega arith) (omega arith)))
    ⊠ sin c.before.before

abbrev low_x : After-lower → M
low_x c =
    var c.lower.result (2 ^ 15) (rw (x_low c) (omega (arith, mod_below c.args.x 32768 (omega arith)))) ⊠ cos c.before.before.before

abbrev low_y : After-lower-2 → M
low_y c =
    var c.lower-2.result (2 ^ 15) (rw (y_low c) (omega (arith, mod_below c.args.y 32768 (omega arith)))) ⊠ sin c.before.before.before.before

abbrev low : After-lower-2 → M
low c = low_x c.before ⊞ low_y c

pub overflow_add-high : goal.overflow_add-high
overflow_add-high c = ok (high c) tt

pub overflow_mul-low : goal.overflow_mul-low
overflow_mul-low c = ok (low_x c) tt

pub overflow_mul-low-2 : goal.overflow_mul-low-2
overflow_mul-low-2 c = ok (low_y c) tt

pub overflow_add-low : goal.overflow_add-low
overflow_add-low c = ok (low c) tt

pub rounded-requires : goal.rounded-requires
rounded-requires c =
    simp (is (high c.before.before) tt, is (low c) tt)
    (omega (arith, bounded (high c.before.before)), omega (arith, bounded (low c)))

-- the parts put together again
whole : (x y c d : ℤ) → pos 32768 *ℤ (floor_z x 32768 *ℤ c +ℤ floor_z y 32768 *ℤ d) +ℤ (pos (mod_z x 32768) *ℤ c +ℤ pos (mod_z y 32768) *ℤ d) ≡ x *ℤ c +ℤ y *ℤ d
whole x y c d =
    let f = floor_z x 32768 in
    let g = floor_z y 32768 in
    let m = mod_z x 32768 in
    let n = mod_z y 32768 in
    by≡
    (# 32768 ⊗ (⟨ f ⟩ ⊗ ⟨ c ⟩ ⊕ ⟨ g ⟩ ⊗ ⟨ d ⟩) ⊕ (# m ⊗ ⟨ c ⟩ ⊕ # n ⊗ ⟨ d ⟩))
    ((⟨ f ⟩ ⊗ # 32768 ⊕ # m) ⊗ ⟨ c ⟩ ⊕ (⟨ g ⟩ ⊗ # 32768 ⊕ # n) ⊗ ⟨ d ⟩)
    (omega arith)
    ∙ ap (λ (z : ℤ). z *ℤ c +ℤ (g *ℤ pos 32768 +ℤ pos n) *ℤ d) (floor_mod x 32768 (omega arith))
    ∙ ap (λ (z : ℤ). x *ℤ c +ℤ z *ℤ d) (floor_mod y 32768 (omega arith))

pub returns : goal.returns
returns c =
    let k = c.before in
    let e = simp (is (high k.before.before) tt, is (low k) tt) at c.rounded.ensures in
    ret c.rounded.result c.rounded.type_inv
    ∙ e
    ∙ simp (x_high k.before.before.before, y_high k.before.before, x_low k.before, y_low k)
    (ap (λ (z : ℤ). R z 1073741824) (whole c.args.x c.args.y c.args.c c.args.d))
