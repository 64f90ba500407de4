use mathlib.Core.Path.{◌≡◌}
use mathlib.Core.Bool.{true}
use Prim.Native.Nat.{ℕ}
use lib.Dec.{ltb}
use lib.ListN.{length}
use lib.IntN.{pos, ◌+ℤ◌}
use Rattle.whole.specs.Each.{all_below}
use Rattle.bulletin.specs.Rows.{first_in_rule}
use Rattle.bulletin.proofs.taking.days_there.Given as goal

abbrev pub invariant-loop-k : goal.invariant-loop-k
invariant-loop-k l = (l.d ≡ l.first +ℤ pos l._k) × (all_below l._k (λ (j : ℕ). ltb (first_in_rule l.dates (l.first +ℤ pos j)) (length l.dates)) ≡ true)
