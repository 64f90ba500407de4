-- `whole::divide::line_at` meets its contract.
use mathlib.Core.Path.{◌≡◌, ap, ◌∙◌}
use Prim.Native.Nat.{◌*◌, ◌≤◌}
use native.Mathlib.Nat.{lt_of_le_of_lt}
use native.Mathlib.Omega.{arith}
use lib.Dec.{lit<, lit≤}
use lib.IntN.{ℤ, ◌+ℤ◌, ◌-ℤ◌, ◌*ℤ◌}
use mir.Syntax.{w64}
use mir.Val.{SFits}
use Rattle.whole.specs.Whole.{∣◌∣, R}
use Rattle.whole.proofs.Linear.{le_parts, abs_fits, abs_mul≤, back}
use Rattle.whole.proofs.Machine.{M, var, ◌⊞◌, ◌⊟◌, ok, is}
use Rattle.whole.proofs.Rounding.{R_abs}
use Rattle.whole.proofs.divide.line_at.Goals as goal
use Rattle.whole.proofs.divide.line_at.Goals.{After-round_div, Start}

module _ (s : Start) where
  abbrev d : ℤ
  d = s.args.v1 -ℤ s.args.v0

  abbrev difference : M
  difference = var s.args.v1 1000000000000 s.requires.v0_bound.1 ⊟ var s.args.v0 1000000000000 s.requires.v0_bound.0

  small : ∣ d *ℤ s.args.u ∣ ≤ 101000000000 * 86399999
  small = abs_mul≤ d s.args.u 101000000000 86399999 s.requires.v0_bound.2 (omega (arith, le_parts s.requires.pos_bound.0, le_parts s.requires.pos_bound.1))

  fits : SFits w64 (d *ℤ s.args.u)
  fits = abs_fits (lt_of_le_of_lt small (lit< tt))

pub round_div-requires : goal.round_div-requires
round_div-requires c =
    simp (is (difference c) tt, back c.ranges.u, back (fits c)) (lt_of_le_of_lt (small c) (lit< tt), lit< tt, lit≤ tt)

got : (c : After-round_div) → c.round_div.result ≡ R (d c.before *ℤ c.args.u) 86400000
got c = simp (is (difference c.before) tt, back c.ranges.u, back (fits c.before)) at c.round_div.ensures

abbrev sum : After-round_div → M
sum c =
    var c.args.v0 1000000000000 c.requires.v0_bound.0
    ⊞ var c.round_div.result 8726399899000000000 (rw (got c) (omega (arith, R_abs (d c.before *ℤ c.args.u) 86400000 (omega arith), small c.before)))

pub overflow_add-result : goal.overflow_add-result
overflow_add-result c = ok (sum c) tt

pub returns : goal.returns
returns c = is (sum c) tt ∙ ap (λ (z : ℤ). c.args.v0 +ℤ z) (got c)
