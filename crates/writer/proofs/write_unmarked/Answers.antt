-- `write_unmarked` by its three ends: wrong lists, a mark, and the file of the lists without the marks.
use Rattle.std.proofs.Common.{◌≡◌, refl, sym, ◌∙◌, [], ◌∷◌, pos, arith, false}
use Rattle.sections.specs.Layouts.{places}
use Rattle.writer.specs.Writing.{kinds_with_rule, lists_right_rule}
use Rattle.writer.proofs.DayKinds.{refused_by, as_standing}
use Rattle.writer.proofs.KindThree.{days-most, three_lists, three_marks, three_file}
use Rattle.writer.proofs.write_unmarked.Goals as goal

pub returns-then-not-lists_right : goal.returns-then-not-lists_right
returns-then-not-lists_right c =
    let a = c.args.marked in
    let s : lists_right_rule places (kinds_with_rule 5) (a.stations.now ∷ a.sources.now ∷ a.days.now ∷ a.passes.now ∷ []) ≡ false = cc in
    refused_by (pos 3) _ _ _ _ c.args.room.now 0 refl (three_lists a.stations.now a.sources.now a.days.now a.passes.now _ s)

pub returns-then-not-unmarked : goal.returns-then-not-unmarked
returns-then-not-unmarked c =
    let a = c.args.marked in
    let s = sym (rw c.requires at c.lists_right.ensures) ∙ c.if-not-lists_right.false in
    refused_by (pos 3) _ _ _ _ c.args.room.now 1 refl
    (three_marks a.stations.now a.sources.now a.days.now a.passes.now _ s (sym c.unmarked.ensures ∙ c.if-not-unmarked.true))

pub put_unmarked-n-requires : goal.put_unmarked-n-requires
put_unmarked-n-requires c =
    let a = c.args.marked in
    let s = sym (rw c.requires at c.lists_right.ensures) ∙ c.if-not-lists_right.false in
    omega (arith, days-most a.stations.now a.sources.now a.days.now a.passes.now s)

pub returns : goal.returns
returns c =
    let a = c.args.marked in
    let p = a.stations.now in
    let q = a.sources.now in
    let r = a.days.now in
    let t = a.passes.now in
    let s = sym (rw c.requires at c.lists_right.ensures) ∙ c.if-not-lists_right.false in
    let u = sym c.unmarked.ensures ∙ c.if-not-unmarked.false in
    as_standing (pos 3) p q r t c.args.room.now (three_file p q r t _ s u) _ _ (rw (c.kinds_with.ensures, c.put_unmarked-n.ensures.1) at c.written.ensures)
