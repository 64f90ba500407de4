-- `write` by the kind of the days: 3, 5, and any other, which is refused.
use Rattle.std.proofs.Common.{◌≡◌, sym, ◌∙◌, pos, length, arith}
use Rattle.whole.proofs.Linear.{bits_eq}
use Rattle.writer.proofs.DayKinds.{refused_by, as_standing, other_by_lem, other_lists, other_kind, number_five}
use Rattle.writer.proofs.write.Goals as goal

pub returns-then-day_kind-eq5 : goal.returns-then-day_kind-eq5
returns-then-day_kind-eq5 c =
    let a = c.args in
    let e : a.day_kind ≡ pos 5 = bits_eq c.ranges.day_kind (record { sfits = omega arith }) c.if-day_kind-eq5.true in
    rw (e, c.into-then-day_kind-eq5.ensures)
    (as_standing (pos 5) a.stations.now a.sources.now a.days.now a.passes.now a.room.now
    (number_five a.stations.now a.sources.now a.days.now a.passes.now (length a.room.now)) _ _ (rw c.kinds_with.ensures at c.written.ensures))

pub returns-then-not-others_right : goal.returns-then-not-others_right
returns-then-not-others_right c =
    let a = c.args in
    refused_by a.day_kind _ _ _ _ a.room.now 0 c.from.ensures
    (other_lists a.day_kind _ _ _ _ _ (other_by_lem a.day_kind c.if-day_kind-eq3.false c.if-day_kind-eq5.false) (sym c.others_right.ensures ∙ c.if-not-others_right.true))

pub returns : goal.returns
returns c =
    let a = c.args in
    refused_by a.day_kind _ _ _ _ a.room.now 1 c.from-2.ensures
    (other_kind a.day_kind _ _ _ _ _ (other_by_lem a.day_kind c.if-day_kind-eq3.false c.if-day_kind-eq5.false) (sym c.others_right.ensures ∙ c.if-not-others_right.false))
