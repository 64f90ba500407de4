-- Document 01, 'Delay': the delay of two station records and a source record, with the earth as it is at an epoch.
use Rattle.std.specs.Prelude.{ℕ, ℤ, ◌-ℤ◌}
use Rattle.fields.specs.declared.Station.{Station}
use Rattle.fields.specs.declared.Source.{Source}
use Rattle.wave.specs.declared.plane.Baseline.{Baseline}
use Rattle.wave.specs.declared.values.Earth.{Earth}
use Rattle.wave.specs.PlaneWave.{shifted_of, hour_angle, tick_of, turn_of, wave_of}

-- "Baseline b = station 2 - station 1."
unfoldable pub baseline_of : Station → Station → Baseline
baseline_of a b = record { x = b.x -ℤ a.x; y = b.y -ℤ a.y; z = b.z -ℤ a.z }

-- "H = ERA - right ascension": the angle from which a source's right ascension is taken is ERA.
unfoldable pub angle_for_rule : Source → Earth → ℕ
angle_for_rule r e = e.tick

-- the delay of the shifted baseline at H, along the declination
unfoldable pub delay_between : Station → Station → Source → Earth → ℤ
delay_between a b r e =
    wave_of (shifted_of (baseline_of a b) e.x e.y) (hour_angle (angle_for_rule r e) (tick_of r.right_ascension)) (turn_of (tick_of r.declination))
