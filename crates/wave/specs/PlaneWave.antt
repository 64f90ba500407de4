-- Document 01, 'Delay': the pole shift, the turned baseline, and the plane wave's delay (document 000, 2.110, decides on the signs).
use Rattle.std.specs.Prelude.{ℕ, ◌^◌, ℤ, pos, ◌+ℤ◌, ◌-ℤ◌, ◌*ℤ◌, neg_ℤ}
use Rattle.whole.specs.Whole.{R, mod_z}
use Rattle.sine.specs.Sine.{sine_of, cosine_of}
use Rattle.wave.specs.declared.plane.Baseline.{Baseline}
use Rattle.wave.specs.declared.plane.Turn.{Turn}

-- "Pole shift of a length c by pole coordinate p: R(R(c·p/10^6)·4,848,137 / 10^12), written c*p."
unfoldable pub shift_of : ℤ → ℤ → ℤ
shift_of c p = R (R (c *ℤ p) 1000000 *ℤ pos 4848137) 1000000000000

-- "bx' = bx - bz*x; by' = by + bz*y; bz' = bz + bx*x - by*y."
unfoldable pub shifted_of : Baseline → ℤ → ℤ → Baseline
shifted_of b x y =
    record {
      x = b.x -ℤ shift_of b.z x;
      y = b.y +ℤ shift_of b.z y;
      z = b.z +ℤ shift_of b.x x -ℤ shift_of b.y y;
    }

-- "H = ERA - right ascension, wrapping", from the angle and the right ascension as ticks
unfoldable pub hour_angle : ℕ → ℕ → ℕ
hour_angle angle ra = mod_z (pos angle -ℤ pos ra) (2 ^ 32)

-- "P = R((bx'·cos H - by'·sin H)/2^30)"
unfoldable pub equatorial : Baseline → ℕ → ℤ
equatorial b h = R (b.x *ℤ cosine_of h -ℤ b.y *ℤ sine_of h) (2 ^ 30)

-- "G = R((P·cos dec + bz'·sin dec)/2^30)", from the cosine and the sine of the declination
unfoldable pub along_source : Baseline → ℕ → Turn → ℤ
along_source b h d = R (equatorial b h *ℤ d.cos +ℤ b.z *ℤ d.sin) (2 ^ 30)

-- "delay = R(-G·1,000,000,000 / 299,792,458)", of the shifted baseline
unfoldable pub wave_of : Baseline → ℕ → Turn → ℤ
wave_of b h d = R (neg_ℤ (along_source b h d) *ℤ pos 1000000000) 299792458

-- "A negative tick is read modulo 2^32."
abbrev pub tick_of : ℤ → ℕ
tick_of a = mod_z a (2 ^ 32)

-- the cosine and the sine of a tick
unfoldable pub turn_of : ℕ → Turn
turn_of t = record { cos = cosine_of t; sin = sine_of t }
