-- Document 01, 'Numbers used': "An epoch is an MJD day d and a UTC millisecond u of that day, 0 to 86,399,999. Adding milliseconds carries
-- into the day".
use Rattle.std.specs.Prelude.{ℤ, pos, ◌+ℤ◌}
use Rattle.whole.specs.Whole.{floor_z, mod_z}
use Rattle.earth.specs.declared.time.Epoch.{Epoch}

unfoldable pub later_of : Epoch → ℤ → Epoch
later_of e add = record { day = e.day +ℤ floor_z (e.ms +ℤ add) 86400000; ms = pos (mod_z (e.ms +ℤ add) 86400000) }
