use mathlib.Core.Path.{◌≡◌, ap, ◌∙◌}
use Rattle.sections.specs.Code.{shape_of}
use Rattle.sections.specs.File.{count_of_rule, size_of}
use Rattle.sections.specs.Layouts.{places}
use Rattle.sections.specs.declared.layouts.Shape.{Shape}
use Rattle.sections.proofs.Shapes.{today}
use Rattle.sections.proofs.Sound.{body_fits, size_most, records-same}
use Rattle.sections.proofs.ranges.wrong_record.Goals as goal

pub first_record-requires : goal.first_record-requires
unfolding shape_of
first_record-requires c =
    let s = c.args.c.file.now in
    let z : c.layout-l.result.size ≡ size_of places s c.args.p = ap (λ (l : Shape). l.size) c.layout-l.ensures in
    rw (z, c.first_byte.ensures, c.count.ensures.0) (body_fits today s c.args.c.right _ c.requires, size_most today s c.args.c.right _ c.requires)

pub returns : goal.returns
returns c =
    let s = c.args.c.file.now in
    c.first_record.ensures ∙ rw (c.first_byte.ensures, c.count.ensures.0, c.layout-l.ensures) (records-same today s c.args.p (count_of_rule s c.args.p))
