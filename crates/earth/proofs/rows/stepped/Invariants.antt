-- The invariant: whatever the steps lead to, the sum is what so many of them lead to.
use Rattle.std.proofs.Common.{◌≡◌, ℕ, ◌+◌}
use Rattle.earth.proofs.rows.stepped.Given as goal

abbrev pub invariant-loop : goal.invariant-loop
invariant-loop g l = (at : ℕ → ℕ) → at 0 ≡ l.fn.sum → ((i next : ℕ) → goal.F-post g l.step (at i) next → next ≡ at (i + 1)) → l.sum ≡ at l.counter
