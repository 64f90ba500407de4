-- `earth::angle_at` meets its contract.
use Rattle.std.proofs.Common.{◌≡◌, ℕ, ◌*◌, ◌/◌, ◌^◌, ◌<◌, Bool, true, pos, sym, ap, ◌∙◌, arith, w64}
use mir.Facts.{to_z_pos}
use Rattle.whole.proofs.Linear.{back}
use Rattle.whole.specs.Answers.{given}
use Rattle.earth.specs.Angle.{e_of, era_of}
use Rattle.earth.specs.Calls.{angle_inside, only_two, turn_answer, no_turn, angle_outcome}
use Rattle.earth.proofs.Angle.{e_below}
use Rattle.earth.proofs.angle_at.Goals as goal
use Rattle.earth.proofs.angle_at.Goals.{After-angle_ok, Then-angle_ok, After-turn_of-e}

ok_is : (c : After-angle_ok) → c.angle_ok.result ≡ angle_inside c.args.day c.args.f
ok_is c = simp (back, c.ranges.day, c.ranges.f) at c.angle_ok.ensures

accepted : (c : Then-angle_ok) → angle_inside c.args.day c.args.f ≡ true
accepted c = sym (ok_is c.before) ∙ c.if-angle_ok.true

e_is : (c : After-turn_of-e) → c.turn_of-e.result ≡ e_of c.args.day c.args.f
e_is c = simp (back, c.ranges.day, c.ranges.f) at c.turn_of-e.ensures

below : (c : After-turn_of-e) → c.turn_of-e.result < 10 ^ 17
below c = rw (e_is c) (e_below c.args.day c.args.f)

pub overflow_cast-result : goal.overflow_cast-result
overflow_cast-result c = record { sfits = omega (arith, below (goal.at.overflow_cast-result c).After-turn_of-e) }

pub rotation_ticks-requires : goal.rotation_ticks-requires
rotation_ticks-requires c = below (goal.at.rotation_ticks-requires c).After-turn_of-e

pub returns-then-angle_ok : goal.returns-then-angle_ok
unfolding given angle_outcome era_of
returns-then-angle_ok c =
    let d = (goal.at.returns-then-angle_ok c).After-turn_of-e in
    let e = e_is d in
    let t = c.rotation_ticks.ensures ∙ ap (λ (n : ℕ). 2 ^ 32 * n / 10 ^ 17) e in
    let h : c.turn_of-e.result < 2 ^ 63 = omega (arith, below d) in
    let v = to_z_pos w64 h ∙ ap pos e in
    (λ i. record { refusal = pos 0; e = v i; tick = t i })
    ∙ ap (λ (b : Bool). given (only_two b) (turn_answer (e_of c.args.day c.args.f) (era_of c.args.day c.args.f)) no_turn) (sym (accepted d.before))

pub returns : goal.returns
unfolding given angle_outcome
returns c = simp (sym (ok_is (goal.at.returns c).After-angle_ok) ∙ c.if-angle_ok.false, c.number.ensures)
