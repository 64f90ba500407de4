-- Exchanging the two stations negates every delay, exactly: every rounding of document 01 is symmetric. Assumes nothing.
use Rattle.std.proofs.Common.{◌≡◌, ℕ, ◌^◌, ℤ, pos, ◌+ℤ◌, ◌-ℤ◌, ◌*ℤ◌, neg_ℤ, ap, ◌∙◌, arith}
use Rattle.whole.specs.Whole.{R}
use Rattle.whole.proofs.Linear.{zarith, pos_part-neg, neg_part-neg}
use Rattle.whole.proofs.Quote.{⟨◌⟩, #, ◌⊕◌, ◌⊝◌, ◌⊗◌, ⊖, by≡}
use Rattle.whole.proofs.Rounding.{R_neg}
use Rattle.fields.specs.declared.Station.{Station}
use Rattle.fields.specs.declared.Source.{Source}
use Rattle.sine.specs.Sine.{sine_of, cosine_of}
use Rattle.wave.specs.declared.plane.Baseline.{Baseline}
use Rattle.wave.specs.declared.plane.Turn.{Turn}
use Rattle.wave.specs.declared.values.Earth.{Earth}
use Rattle.wave.specs.PlaneWave.{shift_of, shifted_of, hour_angle, tick_of, turn_of, equatorial, along_source, wave_of}
use Rattle.wave.specs.Delays.{baseline_of, angle_for_rule, delay_between}

-- a baseline turned round
abbrev pub reversed : Baseline → Baseline
reversed b = record { x = neg_ℤ b.x; y = neg_ℤ b.y; z = neg_ℤ b.z }

pub shift_neg : (c p : ℤ) → shift_of (neg_ℤ c) p ≡ neg_ℤ (shift_of c p)
unfolding shift_of
shift_neg c p =
    ap (λ (z : ℤ). R (R z 1000000 *ℤ pos 4848137) 1000000000000) (by≡ (⊖ ⟨ c ⟩ ⊗ ⟨ p ⟩) (⊖ (⟨ c ⟩ ⊗ ⟨ p ⟩)) (omega arith))
    ∙ ap (λ (z : ℤ). R (z *ℤ pos 4848137) 1000000000000) (R_neg (c *ℤ p) 1000000 (omega arith))
    ∙ ap (λ (z : ℤ). R z 1000000000000) (by≡ (⊖ ⟨ R (c *ℤ p) 1000000 ⟩ ⊗ # 4848137) (⊖ (⟨ R (c *ℤ p) 1000000 ⟩ ⊗ # 4848137)) (omega arith))
    ∙ R_neg (R (c *ℤ p) 1000000 *ℤ pos 4848137) 1000000000000 (omega arith)

shifted_neg : (b : Baseline) (x y : ℤ) → shifted_of (reversed b) x y ≡ reversed (shifted_of b x y)
unfolding shifted_of
shifted_neg b x y =
    let zx = shift_of b.z x in
    let zy = shift_of b.z y in
    let xx = shift_of b.x x in
    let yy = shift_of b.y y in
    let ex : neg_ℤ b.x -ℤ shift_of (neg_ℤ b.z) x ≡ neg_ℤ (b.x -ℤ zx) =
    ap (λ (z : ℤ). neg_ℤ b.x -ℤ z) (shift_neg b.z x) ∙ by≡ (⊖ ⟨ b.x ⟩ ⊝ ⊖ ⟨ zx ⟩) (⊖ (⟨ b.x ⟩ ⊝ ⟨ zx ⟩)) (omega arith) in
    let ey : neg_ℤ b.y +ℤ shift_of (neg_ℤ b.z) y ≡ neg_ℤ (b.y +ℤ zy) =
    ap (λ (z : ℤ). neg_ℤ b.y +ℤ z) (shift_neg b.z y) ∙ by≡ (⊖ ⟨ b.y ⟩ ⊕ ⊖ ⟨ zy ⟩) (⊖ (⟨ b.y ⟩ ⊕ ⟨ zy ⟩)) (omega arith) in
    let ez : neg_ℤ b.z +ℤ shift_of (neg_ℤ b.x) x -ℤ shift_of (neg_ℤ b.y) y ≡ neg_ℤ (b.z +ℤ xx -ℤ yy) =
    ap (λ (z : ℤ). neg_ℤ b.z +ℤ z -ℤ shift_of (neg_ℤ b.y) y) (shift_neg b.x x)
    ∙ ap (λ (z : ℤ). neg_ℤ b.z +ℤ neg_ℤ xx -ℤ z) (shift_neg b.y y)
    ∙ by≡ (⊖ ⟨ b.z ⟩ ⊕ ⊖ ⟨ xx ⟩ ⊝ ⊖ ⟨ yy ⟩) (⊖ (⟨ b.z ⟩ ⊕ ⟨ xx ⟩ ⊝ ⟨ yy ⟩)) (omega arith) in
    λ i. record { x = ex i; y = ey i; z = ez i }

equatorial-neg : (b : Baseline) (h : ℕ) → equatorial (reversed b) h ≡ neg_ℤ (equatorial b h)
unfolding equatorial
equatorial-neg b h =
    ap (λ (z : ℤ). R z (2 ^ 30)) (by≡ (⊖ ⟨ b.x ⟩ ⊗ ⟨ cosine_of h ⟩ ⊝ ⊖ ⟨ b.y ⟩ ⊗ ⟨ sine_of h ⟩) (⊖ (⟨ b.x ⟩ ⊗ ⟨ cosine_of h ⟩ ⊝ ⟨ b.y ⟩ ⊗ ⟨ sine_of h ⟩)) (omega arith))
    ∙ R_neg (b.x *ℤ cosine_of h -ℤ b.y *ℤ sine_of h) (2 ^ 30) (omega arith)

along_neg : (b : Baseline) (h : ℕ) (d : Turn) → along_source (reversed b) h d ≡ neg_ℤ (along_source b h d)
unfolding along_source
along_neg b h d =
    let e = equatorial b h in
    let c = d.cos in
    let s = d.sin in
    ap (λ (z : ℤ). R (z *ℤ c +ℤ neg_ℤ b.z *ℤ s) (2 ^ 30)) (equatorial-neg b h)
    ∙ ap (λ (z : ℤ). R z (2 ^ 30)) (by≡ (⊖ ⟨ e ⟩ ⊗ ⟨ c ⟩ ⊕ ⊖ ⟨ b.z ⟩ ⊗ ⟨ s ⟩) (⊖ (⟨ e ⟩ ⊗ ⟨ c ⟩ ⊕ ⟨ b.z ⟩ ⊗ ⟨ s ⟩)) (omega arith))
    ∙ R_neg (e *ℤ c +ℤ b.z *ℤ s) (2 ^ 30) (omega arith)

wave_neg : (b : Baseline) (h : ℕ) (d : Turn) → wave_of (reversed b) h d ≡ neg_ℤ (wave_of b h d)
unfolding wave_of
wave_neg b h d =
    let g = along_source b h d in
    ap (λ (z : ℤ). R (neg_ℤ z *ℤ pos 1000000000) 299792458) (along_neg b h d)
    ∙ ap (λ (z : ℤ). R z 299792458) (by≡ (⊖ (⊖ ⟨ g ⟩) ⊗ # 1000000000) (⊖ (⊖ ⟨ g ⟩ ⊗ # 1000000000)) (omega arith))
    ∙ R_neg (neg_ℤ g *ℤ pos 1000000000) 299792458 (omega arith)

baseline_neg : (p q : Station) → baseline_of q p ≡ reversed (baseline_of p q)
unfolding baseline_of
baseline_neg p q =
    let ex = by≡ (⟨ p.x ⟩ ⊝ ⟨ q.x ⟩) (⊖ (⟨ q.x ⟩ ⊝ ⟨ p.x ⟩)) (omega arith) in
    let ey = by≡ (⟨ p.y ⟩ ⊝ ⟨ q.y ⟩) (⊖ (⟨ q.y ⟩ ⊝ ⟨ p.y ⟩)) (omega arith) in
    let ez = by≡ (⟨ p.z ⟩ ⊝ ⟨ q.z ⟩) (⊖ (⟨ q.z ⟩ ⊝ ⟨ p.z ⟩)) (omega arith) in
    λ i. record { x = ex i; y = ey i; z = ez i }

-- of any two station records, a source record and the earth at an epoch
pub between-neg : (p q : Station) (r : Source) (e : Earth) → delay_between q p r e ≡ neg_ℤ (delay_between p q r e)
unfolding delay_between
between-neg p q r e =
    let h = hour_angle (angle_for_rule r e) (tick_of r.right_ascension) in
    let d = turn_of (tick_of r.declination) in
    ap (λ (b : Baseline). wave_of (shifted_of b e.x e.y) h d) (baseline_neg p q)
    ∙ ap (λ (b : Baseline). wave_of b h d) (shifted_neg (baseline_of p q) e.x e.y)
    ∙ wave_neg (shifted_of (baseline_of p q) e.x e.y) h d

-- what is its own negative is 0
self_neg : (z : ℤ) → z ≡ neg_ℤ z → z ≡ pos 0
self_neg z e = omega (zarith, pos_part-neg z, neg_part-neg z)

pub between-same : (p : Station) (r : Source) (e : Earth) → delay_between p p r e ≡ pos 0
between-same p r e = self_neg (delay_between p p r e) (between-neg p p r e)
