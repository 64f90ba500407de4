-- How large the numbers of a delay can be: what the code asks of its inputs, by the ranges of document 01's fields.
use Rattle.std.specs.Prelude.{◌≡◌, ◌≤◌, pos}
use Rattle.whole.specs.Whole.{∣◌∣}
use Rattle.fields.specs.Ranges.{Holds, pole, taiutc}
use Rattle.fields.specs.declared.Day.{Day}
use Rattle.wave.specs.DayValues.{ut1r_of}
use Rattle.wave.specs.declared.plane.Baseline.{Baseline}

-- the difference of two stations after the pole shift; before it, it is `Short`
pub record Shifted (b : Baseline) : Type 0 where
  pub x_size : ∣ b.x ∣ ≤ 12_800_062_057
  pub y_size : ∣ b.y ∣ ≤ 12_800_062_057
  pub z_size : ∣ b.z ∣ ≤ 12_800_124_114

-- an orientation record that holds UT1R
pub record InRecord (r : Day) : Type 0 where
  pub x : Holds pole r.x
  pub y : Holds pole r.y
  pub ut1_size : ∣ ut1r_of r ∣ ≤ 902_723_000
  pub tai : Holds taiutc r.tai_utc
  pub unmarked : r.mark ≡ pos 0
