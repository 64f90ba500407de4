-- What it takes to be accepted, said by `IsTrack`, the definition that demand 3 goes by; and what it takes to be refused with 9.
use Rattle.std.specs.Prelude.{ℕ, ◌/◌, ◌<◌, ◌≡◌, true, false, List, map, length, ℤ}
use Rattle.whole.specs.Whole.{pos_part}
use Rattle.track.specs.Segments.{Segment, IsTrack}
use Rattle.track.specs.Answer.{in_range}
use Rattle.predict.specs.Lent.{lent_of, lent_at, as_lent, range_ok_rule}
use Rattle.judge.specs.Judgement.{ranges_ok_rule}

-- samples and tolerance that `track` takes, offsets and rates in their ranges, and whole segments that are those of a track of the samples
pub record Right (s : List ℤ) (t : ℤ) (numbers : List ℤ) : Type 0 where
  pub call : in_range s t ≡ true
  pub ranges : ranges_ok_rule (lent_of numbers) ≡ true
  pub segments : List Segment
  pub same : lent_of numbers ≡ map as_lent segments
  pub is_track : IsTrack s (pos_part t) segments

-- a whole segment whose offset or rate is out of its range
pub record OutOfRange (numbers : List ℤ) : Type 0 where
  pub segment : ℕ
  pub whole : segment < length numbers / 4
  pub out : range_ok_rule (lent_at numbers segment) ≡ false
