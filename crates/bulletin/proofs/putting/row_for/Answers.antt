-- `bulletin::putting::row_for` meets its contract: each decimal is put into the row that the one before it left. Assumes nothing.
use borrow.Author.Rules.{rules}
use mathlib.Core.Path.{◌≡◌, ap, ap₂, ◌∙◌}
use mathlib.Core.Bool.{true}
use native.Mathlib.Omega.{arith}
use lib.Dec.{lit≤}
use lib.IntN.{ℤ, pos, ◌*ℤ◌}
use mir.Syntax.{w64}
use mir.Val.{SFits, to_z, of_z}
use Rattle.whole.specs.Whole.{floor_z}
use Rattle.whole.proofs.Linear.{ret, back, abs_fits, abs_of, abs_mul≤}
use Rattle.fields.specs.declared.Day.{Day}
use Rattle.bulletin.specs.Columns.{mjd_columns, x_columns, y_columns, ut1_columns, with_decimal}
use Rattle.bulletin.specs.Writing.{blank_row, row_for_rule, can_stand_rule}
use Rattle.bulletin.proofs.Standing.{stands_in_lem, mjd-narrow, pole-narrow, ut1-narrow}
use Rattle.bulletin.proofs.putting.row_for.Goals as goal

-- ---- the numbers that the code reads back

mjd-fits : (d : Day) → can_stand_rule d ≡ true → SFits w64 (pos 100 *ℤ d.mjd)
mjd-fits d h =
    let m = (stands_in_lem d h).mjd in
    abs_fits (omega (arith, abs_mul≤ (pos 100) d.mjd 100 69_806 (omega arith) (abs_of d.mjd 69_806 m.p_hi (omega (arith, m.n_lo)))))

mjd_back : (d : Day) → can_stand_rule d ≡ true → SFits w64 d.mjd → to_z w64 (of_z w64 (pos 100 *ℤ to_z w64 (of_z w64 d.mjd))) ≡ pos 100 *ℤ d.mjd
mjd_back d h f = ap (λ (z : ℤ). to_z w64 (of_z w64 (pos 100 *ℤ z))) (back f) ∙ back (mjd-fits d h)

-- ---- the goals

pub overflow_mul-d : goal.overflow_mul-d
overflow_mul-d c =
    let f : SFits w64 c.args.d.mjd = search rules in
    rw (back f) (mjd-fits c.args.d c.requires)

pub put_in-requires : goal.put_in-requires
put_in-requires c =
    let f : SFits w64 c.args.d.mjd = search rules in
    let e = mjd_back c.args.d c.requires f in
    (lit≤ tt, rw e (omega (arith, mjd-narrow c.args.d.mjd (stands_in_lem c.args.d c.requires).mjd)))

pub put_in-requires-2 : goal.put_in-requires-2
put_in-requires-2 c =
    let f : SFits w64 c.args.d.x = search rules in
    (omega (arith, c.put_in.auto.row), rw (back f) (omega (arith, pole-narrow c.args.d.x (stands_in_lem c.args.d c.requires).x)))

pub put_in-requires-3 : goal.put_in-requires-3
put_in-requires-3 c =
    let f : SFits w64 c.args.d.y = search rules in
    (omega (arith, c.put_in-2.auto.row, c.put_in.auto.row), rw (back f) (omega (arith, pole-narrow c.args.d.y (stands_in_lem c.args.d c.requires).y)))

pub put_in-requires-4 : goal.put_in-requires-4
put_in-requires-4 c =
    let f : SFits w64 c.args.d.ut1_utc = search rules in
    let e = ret c.floor_div.result c.floor_div.type_inv ∙ c.floor_div.ensures ∙ ap (λ (z : ℤ). floor_z z 100) (back f) in
    (omega (arith, c.put_in-3.auto.row, c.put_in-2.auto.row, c.put_in.auto.row), rw e (omega (arith, ut1-narrow c.args.d.ut1_utc (stands_in_lem c.args.d c.requires).ut1_utc)))

pub returns : goal.returns
unfolding row_for_rule
returns c =
    let d = c.args.d in
    let m : SFits w64 d.mjd = search rules in
    let x : SFits w64 d.x = search rules in
    let y : SFits w64 d.y = search rules in
    let u : SFits w64 d.ut1_utc = search rules in
    let first = c.put_in.ensures ∙ ap (with_decimal mjd_columns blank_row) (mjd_back d c.requires m) in
    let second = c.put_in-2.ensures ∙ ap₂ (with_decimal x_columns) first (back x) in
    let third = c.put_in-3.ensures ∙ ap₂ (with_decimal y_columns) second (back y) in
    let e = ret c.floor_div.result c.floor_div.type_inv ∙ c.floor_div.ensures ∙ ap (λ (z : ℤ). floor_z z 100) (back u) in
    c.put_in-4.ensures ∙ ap₂ (with_decimal ut1_columns) third e
