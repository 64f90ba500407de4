use mathlib.Core.Path.{◌≡◌, ap, ◌∙◌}
use native.Mathlib.Omega.{arith}
use Rattle.whole.specs.Each.{first_not}
use Rattle.whole.proofs.Each.{first-most}
use Rattle.sections.specs.Code.{shape_of}
use Rattle.sections.specs.File.{size_of, field_right}
use Rattle.sections.specs.Layouts.{places}
use Rattle.sections.specs.declared.layouts.Shape.{Shape}
use Rattle.sections.proofs.Shapes.{today}
use Rattle.sections.proofs.Sound.{size_most, fields-same}
use Rattle.session.proofs.faults.wrong_field.Goals as goal

pub first_outside-requires : goal.first_outside-requires
unfolding shape_of
first_outside-requires c =
    let s = c.args.c.file.now in
    let e : c.layout.result.size ≡ size_of places s c.args.p = ap (λ (l : Shape). l.size) c.layout.ensures in
    rw e (c.record_byte.ensures.1, size_most today s c.args.c.right c.args.p c.requires.0)

pub returns : goal.returns
unfolding shape_of
returns c =
    let s = c.args.c.file.now in
    let p = c.args.p in
    let e : c.first_outside.result ≡ first_not (size_of places s p) (field_right places s p c.args.i) = c.first_outside.ensures ∙ rw (c.layout.ensures, c.record_byte.ensures.0) (fields-same today s p c.args.i) in
    (e, omega (arith, e, first-most (size_of places s p) (field_right places s p c.args.i), size_most today s c.args.c.right p c.requires.0))
