-- `wave::delay_seen` meets its contract.
use Rattle.std.proofs.Common.{rules, ◌≡◌, ℕ, ◌+◌, ◌-◌, ◌/◌, ◌%◌, ◌^◌, ◌<◌, pos, ◌-ℤ◌, sym, ap, ◌∙◌, arith}
use Rattle.whole.proofs.Linear.{ret}
use Rattle.whole.proofs.Machine.{is}
use Rattle.whole.proofs.Quote.{#, ◌⊕◌, ◌⊝◌, ◌⊗◌, by≡}
use Rattle.whole.proofs.Rounding.{mod_unique}
use Rattle.earth.proofs.Floors.{leaf}
use Rattle.wave.specs.declared.Sight.{Sight}
use Rattle.wave.specs.declared.values.Earth.{Earth}
use Rattle.wave.specs.Delays.{angle_for_rule}
use Rattle.wave.specs.Keeping.{delay_seen_rule}
use Rattle.wave.specs.PlaneWave.{shifted_of, hour_angle, wave_of}
use Rattle.wave.proofs.delay_seen.Goals as goal

-- the wrapping difference is the difference modulo 2^32
wrapped : (a b : ℕ) → b < 2 ^ 32 → (a + (2 ^ 32 - b)) % 2 ^ 32 ≡ hour_angle a b
unfolding hour_angle
wrapped a b h =
    let q = (a + (4294967296 - b)) / 4294967296 in
    let r = (a + (4294967296 - b)) % 4294967296 in
    sym (mod_unique (pos a -ℤ pos b) (pos q -ℤ pos 1) (2 ^ 32) r (omega arith) (by≡ ((# q ⊝ # 1) ⊗ # 4294967296 ⊕ # r) (# a ⊝ # b) (omega (arith, h))))

pub returns : goal.returns
unfolding delay_seen_rule
returns c =
    let v = c.v.inside in
    let e = c.e.inside in
    let h = wrapped (angle_for_rule v.source c.args.e) v.right_ascension (search rules) in
    ret c.delay_at.result c.delay_at.type_inv
    ∙ simp (c.angle_for.ensures, h, is (leaf e.x c.e.invariant.x) tt, is (leaf e.y c.e.invariant.y) tt) at c.delay_at.ensures
    ∙ ap (λ (t : Earth). wave_of (shifted_of v.baseline t.x t.y) (hour_angle (angle_for_rule v.source c.args.e) v.right_ascension) v.declination) c.e.view_is
    ∙ ap (λ (w : Sight). delay_seen_rule w c.args.e) c.v.view_is
