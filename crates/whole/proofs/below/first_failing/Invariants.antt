use Rattle.std.proofs.Common.{◌≡◌, ℕ, Bool, ◌<◌}
use Rattle.whole.specs.Each.{first_not}
use Rattle.whole.proofs.below.first_failing.Given as goal

abbrev pub invariant-loop-i : goal.invariant-loop-i
invariant-loop-i g l = (p : ℕ → Bool) → ((i : ℕ) (b : Bool) → i < l.n → goal.F-post g l.passes i b → b ≡ p i) → first_not l.i p ≡ l.i
