-- Demand 3, said of a call of `track`: of the samples, the tolerance and the room as they are lent, and of the answer and the room after the call.
use Rattle.std.specs.Prelude.{◌*◌, ◌/◌, ◌≤◌, ◌<◌, ◌≡◌, List, ◌++◌, ◌↔◌, length, drop, ℤ, pos}
use Rattle.whole.specs.Whole.{pos_part}
use Rattle.whole.specs.declared.Number.{Number}
use Rattle.track.specs.Segments.{Segment, IsTrack, flat}
use Rattle.track.specs.Rule.{Ruled}
use Rattle.track.specs.Answer.{Outcome, refused, written}

-- a list of segments decides the outcome: it is written if it fits the room; and 8 is given, with the room as it was, exactly if it does not
pub record Decides (xs : List Segment) (room : List ℤ) (r : Number) (after : List ℤ) : Type 0 where
  pub written_if : length xs ≤ length room / 4 → ◌≡◌ {A = Outcome} (record { answer = r; room = after }) (written xs room)
  pub refused_if : length room / 4 < length xs → ◌≡◌ {A = Outcome} (record { answer = r; room = after }) (refused 8 room)
  pub eight_exactly : (r.refusal ≡ pos 8) ↔ (length room / 4 < length xs)

-- every list that the rule of specs/Rule.antt allows does
abbrev pub RuleDecides : List ℤ → ℤ → List ℤ → Number → List ℤ → Type 0
RuleDecides s t room r after = (xs : List Segment) → Ruled s (pos_part t) xs → Decides xs room r after

-- the room starts with a track of the samples and goes on as it was, the value is the number of its segments, and no track of the samples has fewer
pub record FewestOfAll (s : List ℤ) (t : ℤ) (room : List ℤ) (r : Number) (after : List ℤ) : Type 0 where
  pub segments : List Segment
  pub fits : length segments ≤ length room / 4
  pub room_after : after ≡ flat segments ++ drop (4 * length segments) room
  pub value : r.value ≡ pos (length segments)
  pub is_track : IsTrack s (pos_part t) segments
  pub fewest : (ys : List Segment) → IsTrack s (pos_part t) ys → length segments ≤ length ys
