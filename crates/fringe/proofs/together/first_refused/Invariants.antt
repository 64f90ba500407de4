use mathlib.Core.Path.{◌≡◌}
use Prim.Native.Nat.{◌-◌}
use Rattle.sections.specs.File.{count_of_rule}
use Rattle.fringe.specs.Sharing.{most_from_rule, number_from_rule}
use Rattle.fringe.proofs.together.first_refused.Given as goal

abbrev pub invariant-loop-i : goal.invariant-loop-i
invariant-loop-i l =
    let n = count_of_rule l.session.file.now 3 in
    (l.most ≡ most_from_rule l.session.file.now (n - l.i) l.i) × (number_from_rule l.session.file.now (n - l.i) l.i l.left ≡ number_from_rule l.session.file.now n 0 l.room)
