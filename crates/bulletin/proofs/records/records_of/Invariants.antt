use mathlib.Core.Path.{◌≡◌}
use mathlib.Core.Bool.{true}
use mathlib.Core.List.{◌++◌}
use Prim.Native.Nat.{ℕ, ◌-◌, ◌*◌}
use lib.ListN.{length, replicate}
use lib.IntN.{pos}
use Rattle.whole.specs.Each.{all_below}
use Rattle.whole.specs.Values.{joined}
use Rattle.bulletin.specs.Reading.{in_ranges_rule, numbers_of_rule, record_of_rule}
use Rattle.bulletin.proofs.records.records_of.Given as goal

abbrev pub invariant-loop-k : goal.invariant-loop-k
invariant-loop-k l = (all_below l.k (λ (j : ℕ). in_ranges_rule (record_of_rule l.rows.text.now l.first (pos (length l.tai)) l.tai j)) ≡ true)
    × (l.days ≡ joined l.k (λ (j : ℕ). numbers_of_rule (record_of_rule l.rows.text.now l.first (pos (length l.tai)) l.tai j)) ++ replicate (384 - 6 * l.k) (pos 0))
