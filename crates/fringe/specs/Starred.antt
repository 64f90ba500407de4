-- Document 01, 'Numbers to meet': the starred cases, as one table of calls and their whole answers: refusal, values, zeros, and the room after the call.
-- The rows stand with each call's own crate, in its specs/Starred.antt; proofs/Starred.antt shows that every row holds.
use Rattle.std.specs.Prelude.{ℕ, List, ◌++◌, map, ℤ}
use Rattle.whole.specs.Cases.{Case, case}
use Rattle.sine.specs.Starred.{sine_answer, sine_cases}
use Rattle.earth.specs.Starred.{DayMsTai, arguments_answer, arguments_cases, DayF, angle_answer, angle_cases}
use Rattle.track.specs.Starred.{Lent, track_answer, track_cases}
use Rattle.predict.specs.Starred.{Asked, predict_answer, predict_cases}

-- a public call with its arguments
pub data Call : Type 0 where
  sine : ℕ → Call
  arguments : DayMsTai → Call
  angle_at_rule : DayF → Call
  track : Lent → Call
  predict : Asked → Call

-- its whole answer as numbers, by the definition that the call's promise names
unfoldable pub answer : Call → List ℤ
answer (sine i) = sine_answer i
answer (arguments i) = arguments_answer i
answer (angle_at_rule i) = angle_answer i
answer (track i) = track_answer i
answer (predict i) = predict_answer i

-- the cases of one call
abbrev of : {A : Type 0} → (A → Call) → List (Case A) → List (Case Call)
of {A = A} call cases = map (λ (c : Case A). case (call c.input) c.wanted) cases

unfoldable pub starred : List (Case Call)
starred = of sine sine_cases ++ of arguments arguments_cases ++ of angle_at_rule angle_cases ++ of track track_cases ++ of predict predict_cases
