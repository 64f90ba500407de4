-- `wave::values::earth_at` meets its contract.
use Rattle.std.proofs.Common.{◌≡◌, ℤ, ◌+ℤ◌, sym, ap, ◌∙◌, subst, arith, w64, to_z, of_z}
use Rattle.whole.proofs.Linear.{abs_sub, back, ret}
use Rattle.whole.proofs.Machine.{is}
use Rattle.earth.specs.Angle.{era_of}
use Rattle.earth.specs.TideInUT1.{tide_of}
use Rattle.earth.specs.declared.time.Epoch.{Epoch}
use Rattle.earth.specs.contracts.time.Epoch.{the_view}
use Rattle.earth.proofs.Floors.{leaf}
use Rattle.fields.specs.Ranges.{Holds, pole, millisecond}
use Rattle.fields.specs.declared.Day.{Day}
use Rattle.wave.specs.declared.values.Earth.{Earth}
use Rattle.wave.specs.Values.{InEarth}
use Rattle.wave.specs.DayValues.{ut1_line, ut1_used_rule, f_of, earth_of}
use Rattle.wave.proofs.DayLaws.{tide_size, ut1_used_size, earth_size}
use Rattle.wave.proofs.values.earth_at.Goals as goal

ms-back : (z : ℤ) → Holds millisecond z → to_z w64 (of_z w64 z) ≡ z
ms-back z h = is (leaf z h) tt

pole-back : (z : ℤ) → Holds pole z → to_z w64 (of_z w64 z) ≡ z
pole-back z h = is (leaf z h) tt

-- UT1-UTC used, of the epoch e and of its fields i
used-is : (r0 r1 : Day) {i e : Epoch} (t v : ℤ) → i ≡ e → t ≡ tide_of e r0.tai_utc → v ≡ ut1_line r0 r1 i.ms +ℤ t → v ≡ ut1_used_rule r0 r1 i
unfolding ut1_used_rule
used-is r0 r1 {i} {e} t v p h k = k ∙ ap (λ (z : ℤ). ut1_line r0 r1 i.ms +ℤ z) (h ∙ ap (λ (x : Epoch). tide_of x r0.tai_utc) (sym p))

pub line_at-y-requires-clause-v0_bound : goal.line_at-y-requires-clause-v0_bound
line_at-y-requires-clause-v0_bound c =
    let q = c.requires.in_record in
    simp (pole-back c.args.r0.y q.0.y, pole-back c.args.r1.y q.1.y) (omega (arith, q.0.y, q.1.y, abs_sub c.args.r1.y c.args.r0.y))

pub ut1_used-ut1_used-requires : goal.ut1_used-ut1_used-requires
ut1_used-ut1_used-requires c =
    let q = c.requires.in_record in
    simp (ms-back c.e.inside.ms c.e.invariant, back c.ranges.tide) (q.0, q.1, c.e.invariant, rw c.requires.tide_value (tide_size c.args.e c.args.r0.tai_utc))

pub era_at-tick-requires : goal.era_at-tick-requires
era_at-tick-requires c =
    let q = c.requires.in_record in
    let e = c.e.inside in
    let u = c.ut1_used-ut1_used in
    let used = used-is c.args.r0 c.args.r1 c.args.tide u.result c.e.view_is c.requires.tide_value (simp (ms-back e.ms c.e.invariant, back c.ranges.tide) at u.ensures) in
    simp (ret u.result u.type_inv) (q.2, rw used (ut1_used_size c.args.r0 c.args.r1 (the_view e) q.0 q.1 c.e.invariant))

-- what the calls gave is the earth at the epoch
earth_is : (c : goal.After-era_at-tick)
    → ◌≡◌ {A = Earth} (record { x = to_z w64 (of_z w64 c.line_at-x.result); y = to_z w64 (of_z w64 c.line_at-y.result); ut1_used = to_z w64 (of_z w64 c.ut1_used-ut1_used.result); tick = c.era_at-tick.result }) (earth_of c.args.r0 c.args.r1 (the_view c.e.inside))
unfolding earth_of
earth_is c =
    let q = c.requires.in_record in
    let r0 = c.args.r0 in
    let r1 = c.args.r1 in
    let e = c.e.inside in
    let m = ms-back e.ms c.e.invariant in
    let u = c.ut1_used-ut1_used in
    let ex = ret c.line_at-x.result c.line_at-x.type_inv ∙ simp (pole-back r0.x q.0.x, pole-back r1.x q.1.x, m) at c.line_at-x.ensures in
    let ey = ret c.line_at-y.result c.line_at-y.type_inv ∙ simp (pole-back r0.y q.0.y, pole-back r1.y q.1.y, m) at c.line_at-y.ensures in
    let used = used-is r0 r1 c.args.tide u.result c.e.view_is c.requires.tide_value (simp (m, back c.ranges.tide) at u.ensures) in
    let eu = ret u.result u.type_inv ∙ used in
    let g = simp (ret u.result u.type_inv) at c.era_at-tick.ensures in
    let et = g ∙ ap (λ (x : Epoch). era_of x.day (f_of x.ms u.result)) (sym c.e.view_is) ∙ ap (λ (z : ℤ). era_of e.day (f_of e.ms z)) used in
    λ i. record { x = ex i; y = ey i; ut1_used = eu i; tick = et i }

pub invariant_of-result : goal.invariant_of-result
invariant_of-result c =
    let q = c.requires.in_record in
    subst InEarth (sym (earth_is c)) (earth_size c.args.r0 c.args.r1 (the_view c.e.inside) q.0 q.1 c.e.invariant)

pub returns : goal.returns
returns c = earth_is c ∙ ap (earth_of c.args.r0 c.args.r1) c.e.view_is
