use mathlib.Core.Path.{◌≡◌}
use Prim.Native.Nat.{◌≤◌}
use lib.ListN.{length}
use Rattle.explain.specs.Numbers.{Numbers}
use Rattle.program.proofs.print_passes.Given as goal

abbrev pub invariant-loop-i : goal.invariant-loop-i
invariant-loop-i l = (l.written ≤ l.i) × (length l.room ≡ length l.initial.room) × Numbers l.s.file.now l.i l.numbers
