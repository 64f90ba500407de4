-- What the promise of `run` fixes: two results with as many bytes read, something lost or nothing, and the same buffer after the call, are one. Assumes nothing.
use mathlib.Core.Path.{◌≡◌, sym, ap, ◌∙◌}
use mathlib.Core.Bool.{Bool}
use mathlib.Core.List.{List}
use Prim.Native.Nat.{ℕ}
use lib.ListN.{take}
use Rattle.session.specs.Records.{check_of}
use Rattle.program.specs.declared.Ran.{Ran}
use Rattle.program.specs.Endings.{status_of_rule}
use Rattle.program.specs.Promises.{RunPromise}

pub run_one : (after : List ℕ) (r q : Ran) → r.bytes ≡ q.bytes → r.lost ≡ q.lost → RunPromise r after → RunPromise q after → r ≡ q
run_one after r q e l f g =
    let n = f.1 ∙ ap (λ (n : ℕ). (check_of (take n after)).refusal) e ∙ sym g.1 in
    let s = f.2 ∙ ap (λ (n : ℕ). status_of_rule (take n after) r.lost) e ∙ ap (λ (b : Bool). status_of_rule (take q.bytes after) b) l ∙ sym g.2 in
    λ i. record { bytes = e i; refusal = n i; lost = l i; status = s i }
