use mathlib.Core.Path.{ap₂, sym, ◌∙◌}
use lib.Dec.{eqb}
use Rattle.whole.proofs.Each.{all_first}
use Rattle.sections.specs.File.{section_right_rule}
use Rattle.sections.proofs.ranges.section_right.Goals as goal

pub returns : goal.returns
unfolding section_right_rule
returns c = ap₂ eqb c.wrong_record.ensures c.count.ensures.0 ∙ sym (all_first _ _)
