-- Document 01, 'Day values' and 'Rotation angle', with document 02, L1 and L4: what an epoch's two orientation records give at the epoch.
use Rattle.std.specs.Prelude.{cond, ℤ, pos, ◌+ℤ◌, ◌-ℤ◌, ◌*ℤ◌}
use Rattle.whole.specs.Whole.{line, floor_z}
use Rattle.whole.specs.Ranges.{eq_z}
use Rattle.earth.specs.declared.time.Epoch.{Epoch}
use Rattle.earth.specs.Calls.{epoch_of}
use Rattle.earth.specs.TideInUT1.{tide_of}
use Rattle.earth.specs.Angle.{era_of}
use Rattle.fields.specs.declared.Day.{Day}
use Rattle.wave.specs.declared.values.Earth.{Earth}

-- Document 02, L4: the tide that full UT1 holds in a record: that of 0h UTC of the record's own day, by its own TAI-UTC.
abbrev pub tide_in : Day → ℤ
tide_in r = tide_of (epoch_of r.mjd (pos 0)) r.tai_utc

-- The UT1R that a record gives: UT1-UTC less that tide where the record is marked 1, UT1-UTC itself where it is not.
unfoldable pub ut1r_of : Day → ℤ
ut1r_of r = cond (eq_z r.mark (pos 1)) (r.ut1_utc -ℤ tide_in r) r.ut1_utc

-- Document 02, L1: k seconds in nanoseconds, where TAI-UTC of record d+1 is k above that of record d.
unfoldable pub leap_of : Day → Day → ℤ
leap_of r0 r1 = (r1.tai_utc -ℤ r0.tai_utc) *ℤ pos 1000000000

-- Document 01's line of UT1-UTC from record d to record d+1, at u, as document 02, L1, draws it: UT1 goes on where UT1-UTC steps with TAI-UTC, so the leap
-- is taken from the value of record d+1.
unfoldable pub ut1_line : Day → Day → ℤ → ℤ
ut1_line r0 r1 u = line (ut1r_of r0) (ut1r_of r1 -ℤ leap_of r0 r1) u

-- "UT1-UTC used = day value + tide"; "TAI-UTC, called L, is that of record d."
unfoldable pub ut1_used_rule : Day → Day → Epoch → ℤ
ut1_used_rule r0 r1 e = ut1_line r0 r1 e.ms +ℤ tide_of e r0.tai_utc

-- "f = 1,000·u + floor(UT1-UTC used / 1,000)"
abbrev pub f_of : ℤ → ℤ → ℤ
f_of u ut1 = pos 1000 *ℤ u +ℤ floor_z ut1 1000

-- the pole, UT1-UTC with the tide, and ERA, as used at an epoch
unfoldable pub earth_of : Day → Day → Epoch → Earth
earth_of r0 r1 e =
    record {
      x = line r0.x r1.x e.ms;
      y = line r0.y r1.y e.ms;
      ut1_used = ut1_used_rule r0 r1 e;
      tick = era_of e.day (f_of e.ms (ut1_used_rule r0 r1 e));
    }
