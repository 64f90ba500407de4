-- What a run of `days` keeps: of its result, and of the buffer behind it, which holds what was read. What that is, and whether a read or a write failed, no
-- contract says.
use Rattle.std.specs.Prelude.{ℕ, ◌≤◌, ◌≡◌, List, ℤ, pos, length, take}
use Rattle.whole.specs.Ranges.{eq_z}
use Rattle.console.specs.Status.{status_by}
use Rattle.bulletin.specs.Reading.{days_outcome}
use Rattle.days.specs.declared.Ran.{Ran}

abbrev pub RunPromise : Ran → List ℕ → ℤ → ℤ → List ℤ → Type 0
RunPromise r after first count tai =
    let n = (days_outcome (take r.bytes after) first count tai).refusal in
    (r.bytes ≤ length after) × (r.refusal ≡ n) × (r.status ≡ status_by r.lost (eq_z n (pos 0)))
