use native.Mathlib.Omega.{arith}
use mathlib.Core.Path.{◌≡◌, ap}
use mathlib.Core.List.{List}
use Prim.Native.Nat.{ℕ, ◌+◌, ◌*◌}
use Rattle.sections.specs.Code.{shape_of}
use Rattle.sections.specs.File.{layout_of, size_of, record_byte_rule}
use Rattle.sections.specs.Layouts.{places}
use Rattle.sections.specs.declared.layouts.Shape.{Shape}
use Rattle.sections.proofs.Sound.{record_fits, length-short}
use Rattle.sections.proofs.Shapes.{today}
use Rattle.sections.proofs.contents.Contents.record_byte.Goals as goal

size_is : (s : List ℕ) (p i : ℕ) {l : Shape} → l ≡ shape_of (layout_of places s p) → l.size * i ≡ size_of places s p * i
unfolding shape_of
size_is s p i e = ap (λ (l : Shape). l.size * i) e

pub overflow_mul-result : goal.overflow_mul-result
unfolding record_byte_rule
overflow_mul-result c =
    let s = c.args.self.file.now in
    omega (arith, size_is c.args.self.file.now c.args.p c.args.i c.layout.ensures, record_fits today s c.args.self.right c.args.p c.requires.0 c.args.i c.requires.1, length-short today s c.args.self.right)

pub overflow_mul-result-2 : goal.overflow_mul-result-2
unfolding record_byte_rule
overflow_mul-result-2 c =
    let s = c.args.self.file.now in
    omega (arith, size_is c.args.self.file.now c.args.p c.args.i c.layout.ensures, record_fits today s c.args.self.right c.args.p c.requires.0 c.args.i c.requires.1, length-short today s c.args.self.right)

pub overflow_add-result : goal.overflow_add-result
unfolding record_byte_rule
overflow_add-result c =
    let s = c.args.self.file.now in
    omega (arith, size_is c.args.self.file.now c.args.p c.args.i c.layout.ensures, c.first_byte.ensures, record_fits today s c.args.self.right c.args.p c.requires.0 c.args.i c.requires.1, length-short today s c.args.self.right)

pub returns : goal.returns
unfolding record_byte_rule
returns c =
    let s = c.args.self.file.now in
    let g : c.first_byte.result + 8 * (c.layout.result.size * c.args.i) ≡ record_byte_rule places s c.args.p c.args.i = omega (arith, size_is c.args.self.file.now c.args.p c.args.i c.layout.ensures, c.first_byte.ensures) in
    (g, omega (arith, g, record_fits today s c.args.self.right c.args.p c.requires.0 c.args.i c.requires.1))
