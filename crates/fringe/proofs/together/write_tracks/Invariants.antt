use mathlib.Core.Path.{◌≡◌}
use Prim.Native.Nat.{◌≤◌}
use lib.ListN.{length}
use Rattle.sections.specs.File.{count_of_rule}
use Rattle.fringe.proofs.Written.{WrittenTo}
use Rattle.fringe.proofs.together.write_tracks.Given as goal

abbrev pub invariant-loop-i : goal.invariant-loop-i
invariant-loop-i l =
    (l.at ≤ length l.room)
    × (length l.room ≡ length l.initial.room)
    × (length l.counts ≡ 64)
    × WrittenTo l.session.file.now (count_of_rule l.session.file.now 3) l.initial.room l.room l.counts l.at l.i
