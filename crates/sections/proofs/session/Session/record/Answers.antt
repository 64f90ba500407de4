use mathlib.Core.Path.{◌≡◌, ap, ap₂, ◌∙◌}
use Prim.Native.Nat.{ℕ, ◌+◌, ◌*◌}
use native.Mathlib.Omega.{arith}
use mathlib.Core.List.{List}
use Rattle.sections.specs.Code.{shape_of}
use Rattle.sections.specs.File.{layout_of, size_of, record_byte_rule}
use Rattle.sections.specs.Layouts.{places}
use Rattle.sections.specs.Rows.{row_of, in_row}
use Rattle.sections.specs.declared.layouts.Shape.{Shape}
use Rattle.text.specs.Words.{number_at_rule}
use Rattle.sections.proofs.Accepted.{accepted_contents}
use Rattle.sections.proofs.Shapes.{today}
use Rattle.sections.proofs.Sound.{size_most}
use Rattle.sections.proofs.session.Session.record.Goals as goal

-- the layout is that of the session's file
size_is : {s t : List ℕ} (p : ℕ) {l : Shape} → l ≡ shape_of (layout_of places t p) → t ≡ s → l.size ≡ size_of places s p
unfolding shape_of
size_is p e f = ap (λ (l : Shape). l.size) e ∙ ap (λ (t : List ℕ). size_of places t p) f

pub row_at-requires : goal.row_at-requires
row_at-requires c =
    let s = c.args.self.file.now in
    let e = size_is c.args.p c.layout.ensures c.contents-c.ensures in
    let b = rw c.contents-c.ensures at c.record_byte.ensures.1 in
    (omega (arith, e, b), omega (arith, e, size_most today s (accepted_contents today s c.args.self.accepted) c.args.p c.requires.0))

pub returns : goal.returns
unfolding row_of
returns c =
    let s = c.args.self.file.now in
    let b = c.record_byte.ensures.0 ∙ ap (λ (t : List ℕ). record_byte_rule places t c.args.p c.args.i) c.contents-c.ensures in
    c.row_at.ensures ∙ ap₂ (λ (n b : ℕ). in_row n (λ (k : ℕ). number_at_rule s (b + 8 * k))) (size_is c.args.p c.layout.ensures c.contents-c.ensures) b
