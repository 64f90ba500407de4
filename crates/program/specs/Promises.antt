-- What `run` promises: of its result, and of the buffer after the call, which holds what was read. What that is, and whether a read or a write failed, no
-- contract says.
use Rattle.std.specs.Prelude.{ℕ, ◌≤◌, ◌≡◌, List, length, take}
use Rattle.session.specs.Records.{check_of}
use Rattle.program.specs.declared.Ran.{Ran}
use Rattle.program.specs.Endings.{status_of_rule}

abbrev pub RunPromise : Ran → List ℕ → Type 0
RunPromise r after =
    let file = take r.bytes after in
    (r.bytes ≤ length after) × (r.refusal ≡ (check_of file).refusal) × (r.status ≡ status_of_rule file r.lost)
