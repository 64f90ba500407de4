use mathlib.Core.Path.{◌≡◌, ap, ◌∙◌}
use mathlib.Core.List.{List}
use Prim.Native.Nat.{ℕ}
use mir.Facts.{to_z-of_z}
use Rattle.sections.specs.Code.{shape_of}
use Rattle.sections.specs.File.{layout_of, size_of, first_byte, count_of_rule}
use Rattle.sections.specs.Layouts.{places}
use Rattle.sections.specs.declared.layouts.Shape.{Shape}
use Rattle.sections.proofs.Accepted.{accepted_contents}
use Rattle.sections.proofs.Shapes.{today}
use Rattle.sections.proofs.Sound.{body_fits, size_one}
use Rattle.session.proofs.Fields.{places_same}
use Rattle.session.proofs.records.place_by.Goals as goal

-- the layout is that of the session's file
size_is : {s t : List ℕ} (p : ℕ) {l : Shape} → l ≡ shape_of (layout_of places t p) → t ≡ s → l.size ≡ size_of places s p
unfolding shape_of
size_is p e f = ap (λ (l : Shape). l.size) e ∙ ap (λ (t : List ℕ). size_of places t p) f

pub first_with-requires : goal.first_with-requires
first_with-requires c =
    let s = c.args.s.file.now in
    let p = c.args.p in
    let h = accepted_contents today s c.args.s.accepted in
    let e = c.contents-c.ensures in
    let b = c.first_byte.ensures ∙ ap (λ (t : List ℕ). first_byte t p) e in
    let n = c.count.ensures.0 ∙ ap (λ (t : List ℕ). count_of_rule t p) e in
    rw (size_is p c.layout.ensures e, b, n) (body_fits today s h p c.requires, size_one today s h p c.requires)

pub returns : goal.returns
returns c =
    let s = c.args.s.file.now in
    let p = c.args.p in
    let e = c.contents-c.ensures in
    let b = c.first_byte.ensures ∙ ap (λ (t : List ℕ). first_byte t p) e in
    let n = c.count.ensures.0 ∙ ap (λ (t : List ℕ). count_of_rule t p) e in
    c.first_with.ensures ∙ rw (size_is p c.layout.ensures e, b, n, to_z-of_z c.ranges.z) (places_same s p c.args.z)
