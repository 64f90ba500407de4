-- Document 01, 'Tide in UT1' (document 004, Table I): the row angle, the sum over any list of rows, and the tide in nanoseconds.
use Rattle.std.specs.Prelude.{ℕ, ◌+◌, ◌^◌, ◌<◌, ◌≤◌, List, [], ◌∷◌, length, ℤ, pos, ◌+ℤ◌, ◌*ℤ◌, slice_index_or}
use Rattle.whole.specs.Whole.{∣◌∣, R, mod_z}
use Rattle.sine.specs.Sine.{sine_of}
use Rattle.earth.specs.declared.time.Epoch.{Epoch}
use Rattle.earth.specs.declared.ticks.Delaunay.{Delaunay}
use Rattle.earth.specs.Minutes.{minutes_of}
use Rattle.earth.specs.DelaunayArguments.{arguments_of}
use Rattle.earth.specs.Rows.{rows}

-- A row is its multipliers of l, l', F, D, Ω at places 0 to 4, and its amplitude A at place 5.
abbrev pub entry : List ℤ → ℕ → ℤ
entry r k = slice_index_or r k (pos 0)

abbrev pub amplitude : List ℤ → ℤ
amplitude r = entry r 5

-- "Row angle: the sum of multiplier times argument, wrapping at 2^32."
unfoldable pub row_angle_rule : List ℤ → Delaunay → ℕ
row_angle_rule r a =
    mod_z (entry r 0 *ℤ pos a.l +ℤ entry r 1 *ℤ pos a.lp +ℤ entry r 2 *ℤ pos a.f +ℤ entry r 3 *ℤ pos a.d +ℤ entry r 4 *ℤ pos a.om) (2 ^ 32)

-- A·sine of one row, and its sum over a list of rows.
abbrev pub row_term_rule : List ℤ → Delaunay → ℤ
row_term_rule r a = amplitude r *ℤ sine_of (row_angle_rule r a)

unfoldable pub rows_sum : List (List ℤ) → Delaunay → ℤ
rows_sum [] a = pos 0
rows_sum (r ∷ rs) a = row_term_rule r a +ℤ rows_sum rs a

-- The sum of the amplitudes' sizes, which bounds the sum over rows in units of 2^30.
unfoldable pub sizes : List (List ℤ) → ℕ
sizes [] = 0
sizes (r ∷ rs) = ∣ amplitude r ∣ + sizes rs

-- What the code asks of a row: no multiplier beyond 1,000 either side.
pub record Few (r : List ℤ) : Type 0 where
  pub l : ∣ entry r 0 ∣ ≤ 1000
  pub lp : ∣ entry r 1 ∣ ≤ 1000
  pub f : ∣ entry r 2 ∣ ≤ 1000
  pub d : ∣ entry r 3 ∣ ≤ 1000
  pub om : ∣ entry r 4 ∣ ≤ 1000

abbrev pub AllFew : List (List ℤ) → Type 0
AllFew rs = (i : ℕ) → i < length rs → Few (slice_index_or rs i [])

-- "T = sum of A·sine over 41 rows. Tide = R(1,000·T / 2^30) ns", at n minutes of TT.
unfoldable pub tide_at : ℤ → ℤ
tide_at n = R (pos 1000 *ℤ rows_sum rows (arguments_of n)) (2 ^ 30)

unfoldable pub tide_of : Epoch → ℤ → ℤ
tide_of e L = tide_at (minutes_of e L)
