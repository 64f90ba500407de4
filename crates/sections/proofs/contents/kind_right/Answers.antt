use mathlib.Core.Path.{sym, ap, ◌∙◌}
use lib.Dec.{ltb}
use Rattle.sections.specs.Code.{shape_of}
use Rattle.sections.specs.File.{kind_right_rule}
use Rattle.sections.specs.declared.layouts.Shape.{Shape}
use Rattle.sections.proofs.Shapes.{today, stands-some}
use Rattle.sections.proofs.contents.kind_right.Goals as goal

pub returns-then-present : goal.returns-then-present
unfolding kind_right_rule shape_of
returns-then-present c = rw (sym c.present.ensures ∙ c.if-present.true) (ap (λ (l : Shape). ltb 0 l.size) c.layout_of.ensures ∙ sym (stands-some today _ _))

pub returns-else-present : goal.returns-else-present
unfolding kind_right_rule
returns-else-present c = rw (sym c.present.ensures ∙ c.if-present.false) c.if-present.false
