use mathlib.Core.Path.{◌≡◌}
use mathlib.Core.List.{◌++◌}
use Prim.Native.Nat.{ℕ, ◌+◌, ◌*◌}
use lib.ListN.{drop, replicate}
use lib.IntN.{pos}
use Rattle.whole.specs.Values.{first_values}
use Rattle.text.specs.Words.{number_at_rule}
use Rattle.sections.proofs.session.row_at.Given as goal

abbrev pub invariant-loop-k : goal.invariant-loop-k
invariant-loop-k l = l.row ≡ first_values l.k (λ (k : ℕ). number_at_rule l.s (l.at + 8 * k)) ++ drop l.k (replicate 8 (pos 0))
