-- What a clause sees of the structs of src/ that keep a fact, and the fact that each keeps. The definitions make these values of any numbers.
use Rattle.std.specs.Prelude.{◌≡◌, ◌^◌, ◌≤◌, ℕ, ℤ}
use Rattle.whole.specs.Whole.{∣◌∣}
use Rattle.fields.specs.Ranges.{Holds, pole}
use Rattle.fields.specs.declared.Source.{Source}
use Rattle.earth.specs.TideInUT1.{tide_at}
use Rattle.wave.specs.declared.plane.Baseline.{Baseline}

-- Turn: a cosine and a sine
pub record CosSin : Type 0 where
  pub cos : ℤ
  pub sin : ℤ

pub record Turned (t : CosSin) : Type 0 where
  pub cos_size : ∣ t.cos ∣ ≤ 2 ^ 30
  pub sin_size : ∣ t.sin ∣ ≤ 2 ^ 30

-- the difference of two stations
pub record Short (b : Baseline) : Type 0 where
  pub x_size : ∣ b.x ∣ ≤ 12_800_000_000
  pub y_size : ∣ b.y ∣ ≤ 12_800_000_000
  pub z_size : ∣ b.z ∣ ≤ 12_800_000_000

-- Sight: what is fixed in a pass
pub record Fixed : Type 0 where
  pub baseline : Baseline
  pub source : Source
  pub right_ascension : ℕ
  pub declination : CosSin

-- Earth: the earth at an epoch, of which the pole is bounded
pub record Oriented : Type 0 where
  pub x : ℤ
  pub y : ℤ
  pub ut1_used : ℤ
  pub tick : ℕ

pub record InEarth (e : Oriented) : Type 0 where
  pub x : Holds pole e.x
  pub y : Holds pole e.y

-- Minute: a tide that is that of its minute
pub record Tide : Type 0 where
  pub n : ℤ
  pub tide : ℤ

pub record TrueMinute (m : Tide) : Type 0 where
  pub tide_is : m.tide ≡ tide_at m.n
