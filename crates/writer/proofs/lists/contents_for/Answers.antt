use Rattle.std.proofs.Common.{[], ◌∷◌, ◌+◌, ◌*◌, length, arith}
use Rattle.sections.proofs.Shapes.{today}
use Rattle.whole.specs.Values.{joined}
use Rattle.writer.specs.Writing.{start_for, contents_for_rule}
use Rattle.writer.proofs.Counts.{lists_right_lem}
use Rattle.writer.proofs.Longest.{lists_short}
use Rattle.writer.proofs.lists.contents_for.Goals as goal

pub count_in-n1-requires : goal.count_in-n1-requires
count_in-n1-requires c = (lists_right_lem today _ _ c.requires 0 (omega arith)).size

pub count_in-n2-requires : goal.count_in-n2-requires
count_in-n2-requires c = (lists_right_lem today _ _ c.requires 1 (omega arith)).size

pub count_in-n3-requires : goal.count_in-n3-requires
count_in-n3-requires c = (lists_right_lem today _ _ c.requires 2 (omega arith)).size

pub count_in-n4-requires : goal.count_in-n4-requires
count_in-n4-requires c = (lists_right_lem today _ _ c.requires 3 (omega arith)).size

pub overflow_add-s3 : goal.overflow_add-s3
unfolding start_for
overflow_add-s3 c = omega (arith, lists_short _ _ c.requires)

pub overflow_add-s4 : goal.overflow_add-s4
unfolding start_for
overflow_add-s4 c = omega (arith, lists_short _ _ c.requires)

pub returns : goal.returns
unfolding contents_for_rule joined start_for
returns c =
    let a = c.args.l in
    let s2 = 104 + 8 * length a.stations.now in
    let s3 = s2 + 8 * length a.sources.now in
    λ j. 4 ∷ a.kinds.first ∷ 104 ∷ c.count_in-n1.ensures j ∷ a.kinds.second ∷ s2 ∷ c.count_in-n2.ensures j ∷ a.kinds.third ∷ s3 ∷ c.count_in-n3.ensures j ∷ a.kinds.fourth ∷ (s3 + 8 * length a.days.now) ∷ c.count_in-n4.ensures j ∷ []
