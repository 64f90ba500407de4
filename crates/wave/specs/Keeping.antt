-- What the code keeps from one epoch to the next: what is fixed in a pass, a day's record with its tide taken away, and the tide of a minute of TT.
use Rattle.std.specs.Prelude.{ℤ, pos}
use Rattle.earth.specs.TideInUT1.{tide_at}
use Rattle.fields.specs.declared.Station.{Station}
use Rattle.fields.specs.declared.Source.{Source}
use Rattle.fields.specs.declared.Day.{Day}
use Rattle.wave.specs.declared.Sight.{Sight}
use Rattle.wave.specs.declared.values.Earth.{Earth}
use Rattle.wave.specs.declared.values.Minute.{Minute}
use Rattle.wave.specs.DayValues.{ut1r_of}
use Rattle.wave.specs.Delays.{baseline_of, angle_for_rule}
use Rattle.wave.specs.PlaneWave.{shifted_of, hour_angle, tick_of, turn_of, wave_of}

-- the record marked 0 that gives the same UT1R
abbrev pub reduced_of : Day → Day
reduced_of r = record { mjd = r.mjd; x = r.x; y = r.y; ut1_utc = ut1r_of r; tai_utc = r.tai_utc; mark = pos 0 }

abbrev pub minute_of : ℤ → Minute
minute_of n = record { n = n; tide = tide_at n }

-- what is fixed in a pass
unfoldable pub sight_of : Station → Station → Source → Sight
sight_of a b r =
    record { baseline = baseline_of a b; source = r; right_ascension = tick_of r.right_ascension; declination = turn_of (tick_of r.declination) }

-- the delay by what is fixed
unfoldable pub delay_seen_rule : Sight → Earth → ℤ
delay_seen_rule v e = wave_of (shifted_of v.baseline e.x e.y) (hour_angle (angle_for_rule v.source e) v.right_ascension) v.declination
