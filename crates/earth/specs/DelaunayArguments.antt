-- Document 01, 'Arguments' (document 002, 5.43, constant and linear terms of the Delaunay arguments): five ticks at n minutes of TT.
-- Constants and rates are in units of 0.0001 arcsecond; a century has 52,596,000 minutes, and a turn 12,960,000,000 units.
use Rattle.std.specs.Prelude.{ℕ, ◌*◌, ◌/◌, ◌^◌, ℤ, pos, ◌+ℤ◌, ◌*ℤ◌, neg_ℤ}
use Rattle.whole.specs.Whole.{mod_z}
use Rattle.earth.specs.declared.ticks.Delaunay.{Delaunay}

-- "M = 681,644,160,000,000,000", a turn's units times a century's minutes.
abbrev pub M : ℕ
M = 681644160000000000

-- "w = (constant·52,596,000 + rate·n) modulo M, at least 0."
abbrev pub w_of : ℤ → ℤ → ℤ → ℕ
w_of constant rate n = mod_z (constant *ℤ pos 52596000 +ℤ rate *ℤ n) M

-- "The argument is floor(2^32·w / M) ticks."
unfoldable pub argument_of : ℤ → ℤ → ℤ → ℕ
argument_of constant rate n = 2 ^ 32 * w_of constant rate n / M

unfoldable pub arguments_of : ℤ → Delaunay
arguments_of n =
    record {
      l = argument_of (pos 4858682490) (pos 17179159232178) n;
      lp = argument_of (pos 12871047930) (pos 1295965810481) n;
      f = argument_of (pos 3357795262) (pos 17395272628478) n;
      d = argument_of (pos 10722607037) (pos 16029616012090) n;
      om = argument_of (pos 4501603980) (neg_ℤ (pos 69628905431)) n;
    }
