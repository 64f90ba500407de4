use mathlib.Core.Path.{◌≡◌}
use Prim.Native.Nat.{◌+◌, ◌*◌, ◌-◌, ◌≤◌}
use Rattle.sections.specs.File.{count_of_rule}
use Rattle.fringe.specs.Sharing.{most_from_rule}
use Rattle.fringe.proofs.together.most_in_all.Given as goal

abbrev pub invariant-loop-i : goal.invariant-loop-i
invariant-loop-i l =
    let n = count_of_rule l.session.file.now 3 in
    (l.most ≤ 2048 * l.i) × (l.most + most_from_rule l.session.file.now (n - l.i) l.i ≡ most_from_rule l.session.file.now n 0)
