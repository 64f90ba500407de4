-- `wave::plane::shift` meets its contract.
use Rattle.std.proofs.Common.{◌≡◌, ◌≤◌, ℤ, pos, ◌*ℤ◌, ap, ◌∙◌, le_trans, lt_of_le_of_lt, arith, lit<, lit≤}
use Rattle.whole.specs.Whole.{∣◌∣, R}
use Rattle.whole.proofs.Linear.{ret}
use Rattle.whole.proofs.Machine.{M, lit, var, ◌⊠◌, val, bounded, ok, is}
use Rattle.whole.proofs.Rounding.{R_size}
use Rattle.earth.proofs.Floors.{leaf}
use Rattle.wave.specs.PlaneWave.{shift_of}
use Rattle.wave.proofs.plane.shift.Goals as goal

module _ (s : goal.Start) where
  abbrev product : M
  product = var s.args.c 12800000000 s.requires.0 ⊠ leaf s.args.p s.requires.1

inner : (c : goal.After-round_div) → c.round_div.result ≡ R (val (product c.before)) 1000000
inner c = rw (is (product c.before) tt) at c.round_div.ensures

abbrev scaled : goal.After-round_div → M
scaled c =
    var c.round_div.result 12800000000 (rw (inner c) (R_size (val (product c.before)) 1000000 12800000000 (omega arith) (bounded (product c.before))))
    ⊠ lit (pos 4848137)

pub overflow_mul-c : goal.overflow_mul-c
overflow_mul-c c = ok (product c) tt

pub round_div-requires : goal.round_div-requires
round_div-requires c = rw (is (product c) tt) (lt_of_le_of_lt (bounded (product c)) (lit< tt), lit< tt, lit≤ tt)

pub overflow_mul-round_div : goal.overflow_mul-round_div
overflow_mul-round_div c = ok (scaled c) tt

pub round_div-requires-2 : goal.round_div-requires-2
round_div-requires-2 c = rw (is (scaled c) tt) (lt_of_le_of_lt (bounded (scaled c)) (lit< tt), lit< tt, lit≤ tt)

outer : (c : goal.After-round_div-2) → c.round_div-2.result ≡ R (val (scaled c.before)) 1000000000000
outer c = rw (is (scaled c.before) tt) at c.round_div-2.ensures

small : (c : goal.After-round_div-2) → ∣ c.round_div-2.result ∣ ≤ 62057
small c =
    rw (outer c)
    (R_size (val (scaled c.before)) 1000000000000 62057 (omega arith) (le_trans (bounded (scaled c.before)) (lit≤ tt)))

pub returns : goal.returns
unfolding shift_of
returns c =
    rw (ret c.round_div-2.result c.round_div-2.type_inv)
    (outer c ∙ ap (λ (z : ℤ). R (z *ℤ pos 4848137) 1000000000000) (inner c.before), small c)
