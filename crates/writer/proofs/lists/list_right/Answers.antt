use Rattle.std.proofs.Common.{sym, ◌∙◌, rules}
use Rattle.sections.proofs.Shapes.{today}
use Rattle.writer.proofs.Counts.{size_held, fewest_held, most_held, list_none, list_broken, list_counted, positive}
use Rattle.writer.proofs.lists.list_right.Goals as goal

pub returns-then-l-eq0 : goal.returns-then-l-eq0
returns-then-l-eq0 c = sym (list_none today _ _ _ (sym (size_held _ c.layout_in-l.ensures) ∙ c.if-l-eq0.true))

pub returns-then-l-count : goal.returns-then-l-count
returns-then-l-count c =
    let e = c.layout_in-l.ensures in
    let z = size_held _ e in
    let a = positive _ (λ f. c.if-l-eq0.false (z ∙ f)) in
    let t = list_counted today c.args.place c.args.kind c.args.n a (rw z at c.if-l-count.true) in
    rw (t, ← fewest_held _ e, ← most_held _ e, ← z) (search rules)

pub returns-else-l-count : goal.returns-else-l-count
returns-else-l-count c =
    let z = size_held _ c.layout_in-l.ensures in
    let a = positive _ (λ f. c.if-l-eq0.false (z ∙ f)) in
    rw (list_broken today c.args.place c.args.kind c.args.n a (λ f. c.if-l-count.false (rw z f))) (search rules)
