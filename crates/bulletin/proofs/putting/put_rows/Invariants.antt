use mathlib.Core.Path.{◌≡◌}
use Prim.Native.Nat.{ℕ}
use lib.ListN.{length}
use Rattle.whole.specs.Values.{joined}
use Rattle.text.specs.Bytes.{pasted}
use Rattle.bulletin.specs.Writing.{row_for_rule, record_at_rule}
use Rattle.bulletin.proofs.putting.put_rows.Given as goal

abbrev pub invariant-loop-i : goal.invariant-loop-i
invariant-loop-i l = (l.room ≡ pasted l.initial.room 0 (joined l.i (λ (k : ℕ). row_for_rule (record_at_rule l.numbers k)))) × (length l.room ≡ length l.initial.room)
