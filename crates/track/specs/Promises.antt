-- What `track` promises, named once: its `ensures` and the theorem that any two results are equal both cite it.
use Rattle.std.specs.Prelude.{◌≡◌, List, ℤ}
use Rattle.whole.specs.declared.Number.{Number}
use Rattle.track.specs.Answer.{Outcome, outcome}

-- the samples, the tolerance and the room as they are lent; then the answer and the room after the call
abbrev pub TrackPromise : List ℤ → ℤ → List ℤ → Number → List ℤ → Type 0
TrackPromise s t room r after = ◌≡◌ {A = Outcome} (record { answer = r; room = after }) (outcome s t room)
