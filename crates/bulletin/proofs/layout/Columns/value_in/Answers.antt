-- `bulletin::layout::Columns::value_in` meets its contract. Assumes nothing.
use mathlib.Core.Path.{ap, ◌∙◌}
use native.Mathlib.Omega.{arith}
use Rattle.whole.proofs.Linear.{ret}
use Rattle.bulletin.specs.Decimals.{is_decimal_rule, units_of_rule}
use Rattle.bulletin.specs.Columns.{value_in_rule}
use Rattle.bulletin.proofs.ColumnLaws.{apt, bytes_are, bytes-long, bytes-wide, reaches, decimal-there}
use Rattle.bulletin.proofs.layout.Columns.value_in.Goals as goal

pub slice_bounds-units_of-end : goal.slice_bounds-units_of-end
slice_bounds-units_of-end c =
    let k = c.args.self in
    let a = apt k.counted k.wide k.narrow in
    reaches a c.args.row.now c.requires

pub units_of-requires : goal.units_of-requires
units_of-requires c =
    let k = c.args.self in
    let a = apt k.counted k.wide k.narrow in
    let row = c.args.row.now in
    let r = reaches a row c.requires in
    let e = bytes_are a row in
    (rw e (bytes-wide a row r), rw e (omega (arith, bytes-long a row r, k.narrow)), ap (is_decimal_rule k.decimals) e ∙ decimal-there a row c.requires)

pub returns : goal.returns
unfolding value_in_rule
returns c =
    let k = c.args.self in
    let a = apt k.counted k.wide k.narrow in
    ret c.units_of.result c.units_of.type_inv ∙ c.units_of.ensures ∙ ap (units_of_rule k.decimals) (bytes_are a c.args.row.now)
