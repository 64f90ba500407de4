-- `whole::long::within` meets its contract.
use mathlib.Core.Path.{◌≡◌, sym, ◌∙◌}
use Prim.Native.Nat.{ℕ, ◌^◌, ◌≤◌}
use borrow.Author.Tests.{lt-leb}
use native.Mathlib.Nat.{lt_of_le_of_lt}
use native.Mathlib.Omega.{arith}
use lib.Dec.{lit<, lit≤}
use lib.IntN.{pos, neg_ℤ, ◌*ℤ◌}
use mir.Syntax.{w64}
use mir.Val.{SFits}
use Rattle.whole.specs.Ranges.{within}
use Rattle.whole.specs.Whole.{∣◌∣, floor_z}
use Rattle.whole.proofs.Far.{near, far}
use Rattle.whole.proofs.Linear.{abs_fits, back}
use Rattle.whole.proofs.Machine.{M, var, ◌⊠◌, is}
use Rattle.whole.proofs.Rounding.{floor_abs}
use Rattle.whole.proofs.long.within.Goals as goal
use Rattle.whole.proofs.long.within.Goals.{After-in_range, After-upper_part, Else-not-in_range}

floor_of_r : (c : After-upper_part) → c.upper_part.result ≡ floor_z c.args.r 1024
floor_of_r c = rw (back c.ranges.r) at c.upper_part.ensures

abbrev high : After-upper_part → M
high c =
    var c.upper_part.result 19531250000000 (rw (floor_of_r c) (floor_abs c.args.r 1024 19531250000000 (omega arith) (omega arith)))
    ⊠ var c.args.j 1023 c.requires.a_bound.2

-- the code's limit
abbrev limit : ℕ
limit = 35184372088832

-- what the range test showed, of the number meant
shown : (c : After-in_range) → c.in_range.result ≡ within (neg_ℤ (pos limit)) (pos limit) (floor_z c.args.r 1024 *ℤ c.args.j)
shown c =
    let e = simp (is (high c.before) tt) at c.in_range.ensures in
    e ∙ simp (floor_of_r c.before)

module _ (c : Else-not-in_range) where
  small : ∣ c.args.r *ℤ c.args.j ∣ ≤ 2 ^ 56
  small = near c.args.r c.args.j c.requires.a_bound.2 limit (lit≤ tt) (sym (shown c.before) ∙ c.if-not-in_range.false)

  fits : SFits w64 (c.args.r *ℤ c.args.j)
  fits = abs_fits (lt_of_le_of_lt small (lit< tt))

pub returns-then-not-in_range : goal.returns-then-not-in_range
returns-then-not-in_range c =
    sym (lt-leb _ _ (far c.args.r c.args.j c.requires.a_bound.2 limit c.args.a c.args.s c.args.k (omega arith) (sym (shown c.before) ∙ c.if-not-in_range.true)))

pub overflow_mul-r : goal.overflow_mul-r
overflow_mul-r c = simp (back c.ranges.r, back c.ranges.j) (fits c)

pub within_by-requires : goal.within_by-requires
within_by-requires c =
    simp (back c.ranges.r, back c.ranges.j, back c.ranges.a, back c.ranges.s, back (fits c))
    (c.requires.a_bound.0, small c, c.requires.s_bound.0)

pub returns : goal.returns
returns c =
    simp (back c.ranges.r, back c.ranges.j, back c.ranges.a, back c.ranges.s, back c.ranges.k, back (fits c.before)) at c.within_by.ensures
