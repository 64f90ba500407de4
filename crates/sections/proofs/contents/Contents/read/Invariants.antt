use mathlib.Core.Path.{◌≡◌}
use Prim.Native.Nat.{◌+◌, ◌*◌, ◌≤◌}
use Rattle.whole.specs.Each.{first_not}
use Rattle.sections.specs.Layouts.{places}
use Rattle.sections.specs.File.{start_of}
use Rattle.sections.specs.Table.{word_right}
use Rattle.sections.proofs.contents.Contents.read.Given as goal

abbrev pub invariant-loop-p : goal.invariant-loop-p
invariant-loop-p l = (l.start ≡ start_of places l.file l.p) × (l.start ≤ 104 + 16384 * l.p) × (first_not (3 * l.p + 1) (word_right places l.file) ≡ 3 * l.p + 1)
