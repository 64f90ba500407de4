-- Document 01, 'Arguments': n, minutes of TT from J2000, of an epoch and of L, which is TAI-UTC in seconds.
use Rattle.std.specs.Prelude.{ℤ, pos, ◌+ℤ◌, ◌-ℤ◌, ◌*ℤ◌}
use Rattle.whole.specs.Whole.{floor_z}
use Rattle.earth.specs.declared.time.Epoch.{Epoch}

unfoldable pub minutes_of : Epoch → ℤ → ℤ
minutes_of e L =
    floor_z ((e.day -ℤ pos 51544) *ℤ pos 86400000 -ℤ pos 43200000 +ℤ e.ms +ℤ pos 32184 +ℤ pos 1000 *ℤ L) 60000
