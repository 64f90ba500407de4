-- What the call `track` answers, and what it leaves in the lent room: document 01, 'Track' and 'Refusal numbers' 2 and 8.
use Rattle.std.specs.Prelude.{ℕ, ◌*◌, ◌/◌, Bool, ◌&&◌, List, [], ◌∷◌, ◌++◌, leb, length, drop, ℤ, pos}
use Rattle.whole.specs.Whole.{pos_part, ∣◌∣}
use Rattle.whole.specs.Each.{all_below}
use Rattle.fit.specs.Line.{sample}
use Rattle.whole.specs.declared.Number.{Number}
use Rattle.whole.specs.Answers.{given, number, no_number_rule}
use Rattle.whole.specs.Refusals.{unless, lowest}
use Rattle.fields.specs.Ranges.{inside, samples, tolerance}
use Rattle.track.specs.Segments.{Segment, flat}
use Rattle.track.specs.Made.{track_of}

-- what refusal 2 leaves: as many samples as a pass may have, a tolerance that it may have, and each sample within ±130,000,000,000
abbrev pub small_at : List ℤ → ℕ → Bool
small_at s i = leb ∣ sample s i ∣ 130_000_000_000

unfoldable pub in_range : List ℤ → ℤ → Bool
in_range s t = inside samples (pos (length s)) && inside tolerance t && all_below (length s) (small_at s)

-- the answer, with the room after the call
pub record Outcome : Type 0 where
  pub answer : Number
  pub room : List ℤ

-- refused, a call gives its number and zero, and leaves the room as it was
abbrev pub refused : ℕ → List ℤ → Outcome
refused n room = record { answer = no_number_rule n; room = room }

-- the segments from the start of the room, and behind them the room as it was
abbrev pub written : List Segment → List ℤ → Outcome
written xs room = record { answer = number (pos (length xs)); room = flat xs ++ drop (4 * length xs) room }

-- The number of a call, for a room of so many numbers, of which only whole segments count. That no other track of the samples fits a room that is too short for
-- this one is proved in proofs/Answers.antt.
unfoldable pub track_number : List ℤ → ℤ → ℕ → ℕ
track_number s t room = lowest (unless (in_range s t) 2 ∷ unless (leb (length (track_of s (pos_part t))) (room / 4)) 8 ∷ [])

unfoldable pub outcome : List ℤ → ℤ → List ℤ → Outcome
outcome s t room = given (track_number s t (length room)) (written (track_of s (pos_part t)) room) (λ n. refused n room)
