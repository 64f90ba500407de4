-- What the public calls of this crate promise: arguments as they stand on entry, then the result, then the lent room after the call.
use Rattle.std.specs.Prelude.{ℕ, ◌≡◌, List, ℤ}
use Rattle.whole.specs.declared.Number.{Number}
use Rattle.track.specs.Answer.{Outcome}
use Rattle.fringe.specs.PassTrack.{pass_outcome}
use Rattle.fringe.specs.AllTracks.{AllOutcome, all_outcome}
use Rattle.fringe.specs.declared.Tracks.{Tracks}

abbrev pub PassTrackPromise : List ℕ → ℕ → List ℤ → Number → List ℤ → Type 0
PassTrackPromise file pass room r after = ◌≡◌ {A = Outcome} (record { answer = r; room = after }) (pass_outcome file pass room)

abbrev pub AllTracksPromise : List ℕ → List ℤ → Tracks → List ℤ → Type 0
AllTracksPromise file room r after = ◌≡◌ {A = AllOutcome} (record { answer = r; room = after }) (all_outcome file room)
