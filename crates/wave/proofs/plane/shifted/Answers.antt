-- `wave::plane::shifted` meets its contract.
use Rattle.std.proofs.Common.{ℤ, ◌+ℤ◌, ◌-ℤ◌, ap, ◌∙◌}
use Rattle.whole.proofs.Machine.{M, var, ◌⊞◌, ◌⊟◌, val, bounded, ok, is}
use Rattle.earth.proofs.Floors.{leaf}
use Rattle.wave.specs.declared.plane.Baseline.{Baseline}
use Rattle.wave.specs.Values.{Short}
use Rattle.wave.specs.PlaneWave.{shift_of, shifted_of}
use Rattle.wave.proofs.plane.shifted.Goals as goal

module _ (b : Baseline) (k : Short b) where
  abbrev bx : M
  bx = var b.x 12800000000 k.x_size

  abbrev by : M
  by = var b.y 12800000000 k.y_size

  abbrev bz : M
  bz = var b.z 12800000000 k.z_size

pub overflow_sub-result : goal.overflow_sub-result
overflow_sub-result c = ok (bx c.args.b c.requires.0 ⊟ var c.shift-zx.result 62057 c.shift-zx.ensures.1) tt

pub overflow_add-result : goal.overflow_add-result
overflow_add-result c = ok (by c.args.b c.requires.0 ⊞ var c.shift-zy.result 62057 c.shift-zy.ensures.1) tt

pub overflow_add-result-2 : goal.overflow_add-result-2
overflow_add-result-2 c = ok (bz c.args.b c.requires.0 ⊞ var c.shift-xx.result 62057 c.shift-xx.ensures.1) tt

pub overflow_sub-result-2 : goal.overflow_sub-result-2
overflow_sub-result-2 c =
    ok (bz c.args.b c.requires.0 ⊞ var c.shift-xx.result 62057 c.shift-xx.ensures.1 ⊟ var c.shift-yy.result 62057 c.shift-yy.ensures.1) tt

pub returns : goal.returns
unfolding shifted_of
returns c =
    let b = c.args.b in
    let x : M = bx b c.requires.0 in
    let y : M = by b c.requires.0 in
    let z : M = bz b c.requires.0 in
    let px : M = leaf c.args.x c.requires.1 in
    let py : M = leaf c.args.y c.requires.2 in
    let yy : M = var c.shift-yy.result 62057 c.shift-yy.ensures.1 in
    let x' : M = x ⊟ var c.shift-zx.result 62057 c.shift-zx.ensures.1 in
    let y' : M = y ⊞ var c.shift-zy.result 62057 c.shift-zy.ensures.1 in
    let z' : M = z ⊞ var c.shift-xx.result 62057 c.shift-xx.ensures.1 ⊟ yy in
    let ex = is x' tt ∙ ap (λ (i : ℤ). b.x -ℤ i) (simp (is z tt, is px tt) at c.shift-zx.ensures.0) in
    let ey = is y' tt ∙ ap (λ (i : ℤ). b.y +ℤ i) (simp (is z tt, is py tt) at c.shift-zy.ensures.0) in
    let ez =
    is z' tt
    ∙ ap (λ (i : ℤ). b.z +ℤ i -ℤ val yy) (simp (is x tt, is px tt) at c.shift-xx.ensures.0)
    ∙ ap (λ (i : ℤ). b.z +ℤ shift_of b.x c.args.x -ℤ i) (simp (is y tt, is py tt) at c.shift-yy.ensures.0) in (
      (λ i. record { x = ex i; y = ey i; z = ez i }),
      record { x_size = rw (is x' tt) (bounded x'); y_size = rw (is y' tt) (bounded y'); z_size = rw (is z' tt) (bounded z') },
    )
