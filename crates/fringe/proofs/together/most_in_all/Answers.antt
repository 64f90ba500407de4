-- `fringe::together::most_in_all` meets its contract: a pass may have 2,048 segments at most, and there are 64 passes at most.
use Rattle.std.proofs.Common.{◌≡◌, ◌∙◌, ap, refl, ◌-◌, ◌<◌, arith}
use Rattle.sections.specs.File.{count_of_rule}
use Rattle.fringe.specs.Sharing.{most_of, most_from_rule}
use Rattle.fringe.proofs.Sharing.{from_all, most-next}
use Rattle.fringe.proofs.together.most_in_all.Goals as goal

pub loop-i-preserved : goal.loop-i-preserved
loop-i-preserved c =
    let f = c.args.session.file.now in
    let e = c.most_segments-most.ensures.0 ∙ ap most_of c.at.ensures.1 in
    let l : c.loop-i.i < count_of_rule f 3 = omega arith in
    (omega arith, omega (arith, e, most-next f (count_of_rule f 3) c.loop-i.i l))

pub returns : goal.returns
unfolding most_from_rule
returns c =
    let f = c.args.session.file.now in
    let z : most_from_rule f (count_of_rule f 3 - c.loop-i.i) c.loop-i.i ≡ 0 = rw (from_all (count_of_rule f 3) c.loop-i.i (omega arith)) refl in
    omega (arith, c.loop-i.invariant.1, z)
