-- For the code: the track of a pass by its record, which is read of the file once. proofs/Passes.antt shows that it is that of specs/PassTrack.antt, so no
-- reader need believe this file to believe an answer.
use Rattle.std.specs.Prelude.{ℕ, ◌≡◌, List, ℤ}
use Rattle.whole.specs.declared.Number.{Number}
use Rattle.whole.specs.Answers.{given}
use Rattle.whole.specs.Values.{first_values}
use Rattle.fields.specs.declared.Pass.{Pass}
use Rattle.delay.specs.Calls.{samples_of, sample_in}
use Rattle.delay.specs.Keeping.{lacks_of}
use Rattle.track.specs.Answer.{Outcome, outcome, refused}

abbrev pub samples_by : List ℕ → Pass → List ℤ
samples_by s p = first_values (samples_of p) (sample_in s p)

unfoldable pub outcome_by : List ℕ → Pass → List ℤ → Outcome
outcome_by s p room = given (lacks_of s p 4096) (outcome (samples_by s p) p.tolerance room) (λ n. refused n room)

abbrev pub TrackBy : List ℕ → Pass → List ℤ → Number → List ℤ → Type 0
TrackBy file p room r after = ◌≡◌ {A = Outcome} (record { answer = r; room = after }) (outcome_by file p room)
