-- Document 02, L6: the track of a pass of a file in one step, which is what `samples` and then `track` answer.
use Rattle.std.specs.Prelude.{ℕ, List, ℤ, pos, nat_abs, take, replicate}
use Rattle.whole.specs.Answers.{given}
use Rattle.session.specs.Records.{pass_of_rule}
use Rattle.delay.specs.Calls.{samples_number, samples_outcome, samples_room}
use Rattle.track.specs.Answer.{Outcome, outcome, refused}

-- first `samples`, with room for 4,096, as many as a pass may have: its refusal, and the samples that it says it has written
abbrev pub pass_number : List ℕ → ℕ → ℕ
pass_number s i = samples_number s i 4096

unfoldable pub pass_samples_rule : List ℕ → ℕ → List ℤ
pass_samples_rule s i = take (nat_abs (samples_outcome s i 4096).value) (samples_room s i (replicate 4096 (pos 0)))

-- then `track`, for these samples and the tolerance of the pass; where `samples` is refused, so is the pass, and its room is as it was
unfoldable pub pass_outcome : List ℕ → ℕ → List ℤ → Outcome
pass_outcome s i room =
    given (pass_number s i) (outcome (pass_samples_rule s i) (pass_of_rule s i).tolerance room) (λ n. refused n room)
