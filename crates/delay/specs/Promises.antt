-- What the three public calls promise: arguments as on entry, then the result, then the room after the call.
use Rattle.std.specs.Prelude.{◌≡◌, List, ℕ, ℤ, length}
use Rattle.whole.specs.declared.Number.{Number}
use Rattle.delay.specs.declared.EarthAnswer.{EarthAnswer}
use Rattle.delay.specs.Calls.{orientation_outcome, delay_outcome, samples_outcome, samples_room}

abbrev pub OrientationPromise : List ℕ → ℤ → ℤ → EarthAnswer → Type 0
OrientationPromise file day ms r = r ≡ orientation_outcome file day ms

abbrev pub DelayPromise : List ℕ → ℤ → ℤ → ℤ → ℤ → ℤ → Number → Type 0
DelayPromise file station1 station2 source day ms r = r ≡ delay_outcome file station1 station2 source day ms

abbrev pub SamplesPromise : List ℕ → ℕ → List ℤ → Number → List ℤ → Type 0
SamplesPromise file pass room r after = (r ≡ samples_outcome file pass (length room)) × (after ≡ samples_room file pass room)
