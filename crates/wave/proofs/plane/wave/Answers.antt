-- `wave::plane::wave` meets its contract.
use Rattle.std.proofs.Common.{◌≡◌, ℕ, ◌^◌, ℤ, pos, ◌+ℤ◌, ◌-ℤ◌, ◌*ℤ◌, neg_ℤ, ap, ◌∙◌, le_trans, arith, lit≤}
use lib.IntN.{+ℤ_idl}
use Rattle.whole.specs.Whole.{R}
use Rattle.whole.proofs.Linear.{ret}
use Rattle.whole.proofs.Machine.{M, lit, var, ◌⊟◌, bounded, ok, is}
use Rattle.whole.proofs.Quote.{⟨◌⟩, #, ◌⊕◌, ◌⊝◌, ◌⊗◌, by≡}
use Rattle.sine.specs.Sine.{sine_of, cosine_of}
use Rattle.wave.specs.declared.plane.Baseline.{Baseline}
use Rattle.wave.specs.declared.plane.Turn.{Turn}
use Rattle.wave.specs.contracts.plane.Turn.{the_view}
use Rattle.wave.specs.Bounds.{Shifted}
use Rattle.wave.specs.Values.{Turned}
use Rattle.wave.specs.PlaneWave.{turn_of, equatorial, along_source, wave_of}
use Rattle.wave.proofs.Sizes.{equatorial_size, along_size}
use Rattle.wave.proofs.plane.wave.Goals as goal

-- what a baseline holds
module _ (b : Baseline) (k : Shifted b) where
  abbrev bx : M
  bx = var b.x 12800062057 k.x_size

  abbrev by : M
  by = var b.y 12800062057 k.y_size

  abbrev bz : M
  bz = var b.z 12800124114 k.z_size

-- what a turn holds
module _ (t : Turn) (k : Turned t) where
  abbrev cos : M
  cos = var t.cos (2 ^ 30) k.cos_size

  abbrev sin : M
  sin = var t.sin (2 ^ 30) k.sin_size

-- P of document 01
p-is : (b : Baseline) (h : ℕ) (t : Turn) (p : ℤ) → t ≡ turn_of h → p ≡ R (b.x *ℤ t.cos +ℤ (pos 0 -ℤ b.y) *ℤ t.sin) (2 ^ 30) → p ≡ equatorial b h
unfolding equatorial turn_of
p-is b h t p et e =
    let f = e ∙ ap (λ (t : Turn). R (b.x *ℤ t.cos +ℤ (pos 0 -ℤ b.y) *ℤ t.sin) (2 ^ 30)) et in
    f ∙ ap (λ (z : ℤ). R z (2 ^ 30)) (by≡ (⟨ b.x ⟩ ⊗ ⟨ cosine_of h ⟩ ⊕ (# 0 ⊝ ⟨ b.y ⟩) ⊗ ⟨ sine_of h ⟩) (⟨ b.x ⟩ ⊗ ⟨ cosine_of h ⟩ ⊝ ⟨ b.y ⟩ ⊗ ⟨ sine_of h ⟩) (omega arith))

-- P with its bound
abbrev big_p : (b : Baseline) (h : ℕ) (p : ℤ) → Shifted b → p ≡ equatorial b h → M
big_p b h p k e = var p 25600124114 (rw e (equatorial_size b h k))

-- G of document 01
g-is : (b : Baseline) (h : ℕ) (d : Turn) (p g : ℤ) → p ≡ equatorial b h → g ≡ R (p *ℤ d.cos +ℤ b.z *ℤ d.sin) (2 ^ 30) → g ≡ along_source b h d
unfolding along_source
g-is b h d p g e f = f ∙ simp e

-- -G with the bound of G
abbrev big_g : (b : Baseline) (h : ℕ) (d : Turn) (g : ℤ) → Shifted b → Turned d → g ≡ along_source b h d → M
big_g b h d g k l e = lit (pos 0) ⊟ var g 38400248228 (rw e (along_size b h d k l))

-- G is taken from P
pub turned-g-requires : goal.turned-g-requires
turned-g-requires c =
    let b = c.args.b in
    let d = the_view c.d.inside in
    let t = the_view c.t.inside in
    let e = simp (is (bx b c.requires) tt, is (lit (pos 0) ⊟ by b c.requires) tt, is (cos t c.t.invariant) tt, is (sin t c.t.invariant) tt) at c.turned-p.ensures in
    let p = big_p b c.args.h c.turned-p.result c.requires (p-is b c.args.h t c.turned-p.result (c.t.view_is ∙ c.turn_by-t.ensures) e) in
    let z = bz b c.requires in
    let u = cos d c.d.invariant in
    let v = sin d c.d.invariant in
    simp (is p tt, is z tt, is u tt, is v tt) (le_trans (bounded p) (lit≤ tt), le_trans (bounded z) (lit≤ tt), bounded u, bounded v)

-- what the two calls gave is the G of the baseline
along-is : (c : goal.After-turned-g) → c.turned-g.result ≡ along_source c.args.b c.args.h (the_view c.d.inside)
along-is c =
    let k = c.requires in
    let l = c.d.invariant in
    let n = the_view c.d.inside in
    let s = the_view c.t.inside in
    let f = simp (is (bx c.args.b k) tt, is (lit (pos 0) ⊟ by c.args.b k) tt, is (cos s c.t.invariant) tt, is (sin s c.t.invariant) tt) at c.turned-p.ensures in
    let ep = p-is c.args.b c.args.h s c.turned-p.result (c.t.view_is ∙ c.turn_by-t.ensures) f in
    let m = big_p c.args.b c.args.h c.turned-p.result k ep in
    let z = bz c.args.b k in
    let u = cos n l in
    let v = sin n l in
    let eg = simp (is m tt, is z tt, is u tt, is v tt) at c.turned-g.ensures in
    g-is c.args.b c.args.h n c.turned-p.result c.turned-g.result ep eg

abbrev g : goal.After-turned-g → M
g c = big_g c.args.b c.args.h (the_view c.d.inside) c.turned-g.result c.requires c.d.invariant (along-is c)

-- the goals behind G
pub overflow_sub-g : goal.overflow_sub-g
overflow_sub-g c = ok (g c) tt

pub light_time-requires : goal.light_time-requires
light_time-requires c = rw (is (g c) tt) (le_trans (bounded (g c)) (lit≤ tt))

pub returns : goal.returns
unfolding wave_of
returns c =
    let k = c.before in
    ret c.light_time.result c.light_time.type_inv
    ∙ rw (is (g k) tt) at c.light_time.ensures
    ∙ ap (λ (z : ℤ). R (z *ℤ pos 1000000000) 299792458)
    (ap (λ (z : ℤ). pos 0 -ℤ z) (along-is k) ∙ +ℤ_idl (neg_ℤ (along_source c.args.b c.args.h (the_view c.d.inside))))
    ∙ ap (λ (t : Turn). wave_of c.args.b c.args.h t) c.d.view_is
