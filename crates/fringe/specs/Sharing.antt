-- For the code: the number of the first refused pass by the segments that are left, and how many segments a pass takes of them. proofs/Sharing.antt shows that
-- this is the number of specs/AllTracks.antt, so no reader need believe this file to believe an answer.
use Rattle.std.specs.Prelude.{ℕ, zero, suc, ◌+◌, ◌-◌, ◌/◌, Bool, cond, List, [], ◌∷◌, leb, length}
use Rattle.whole.specs.Whole.{pos_part}
use Rattle.whole.specs.Refusals.{unless, first_of}
use Rattle.fields.specs.declared.Pass.{Pass}
use Rattle.session.specs.Records.{pass_of_rule}
use Rattle.delay.specs.Calls.{samples_of}
use Rattle.track.specs.Made.{track_of}
use Rattle.fringe.specs.OfRecord.{samples_by}
use Rattle.fringe.specs.PassTrack.{pass_samples_rule, pass_number}

-- how many segments the track of pass i has, and how many that of a pass may have: half its samples, rounded up
unfoldable pub segments_in : List ℕ → ℕ → ℕ
segments_in s i = length (track_of (pass_samples_rule s i) (pos_part (pass_of_rule s i).tolerance))

abbrev pub most_of : Pass → ℕ
most_of p = (samples_of p + 1) / 2

-- the latter of m passes from pass i on
unfoldable pub most_from_rule : List ℕ → ℕ → ℕ → ℕ
most_from_rule s zero i = 0
most_from_rule s (suc m) i = most_of (pass_of_rule s i) + most_from_rule s m (suc i)

-- what pass i takes of the segments that are left, of which there may be enough for all that may come
abbrev pub taken_by_rule : List ℕ → ℕ → Bool → ℕ
taken_by_rule s i ample = cond ample (most_of (pass_of_rule s i)) (segments_in s i)

-- the same by the record of a pass
abbrev pub taken_of : List ℕ → Pass → Bool → ℕ
taken_of s p ample = cond ample (most_of p) (length (track_of (samples_by s p) (pos_part p.tolerance)))

-- the number of the first that is refused of m passes from pass i on, with so many segments left
unfoldable pub number_from_rule : List ℕ → ℕ → ℕ → ℕ → ℕ
number_from_rule s zero i left = 0
number_from_rule s (suc m) i left =
    first_of (pass_number s i ∷ unless (leb (segments_in s i) left) 8 ∷ number_from_rule s m (suc i) (left - segments_in s i) ∷ [])
