-- `earth::rows::rows_sum` meets its contract.
use Rattle.std.proofs.Common.{◌≡◌, ℕ, ◌^◌, ◌≤◌, List, [], get_or, take, ℤ, ◌+ℤ◌, sym, ap, ◌∙◌, arith, w64, to_z, of_z}
use Rattle.whole.specs.Whole.{∣◌∣}
use Rattle.whole.proofs.Machine.{M, var, ◌⊞◌, ok, is}
use Rattle.whole.proofs.Linear.{back, abs_fits}
use Rattle.earth.specs.declared.ticks.Delaunay.{Delaunay}
use Rattle.earth.specs.TideInUT1.{rows_sum, sizes}
use Rattle.earth.proofs.Sums.{sum_none, sum_more, sum_most, term-most, sizes-take, size_at}
use Rattle.earth.proofs.rows.rows_sum.Goals as goal
use Rattle.earth.proofs.rows.rows_sum.Goals.{After-row_term-sum}

-- the sum over the first rows is at most 2^61 either side
first_most : (rs : List (List ℤ)) (i : ℕ) (a : Delaunay) → sizes rs ≤ 2 ^ 31 → ∣ rows_sum (take i rs) a ∣ ≤ 2 ^ 61
first_most rs i a h = omega (arith, sum_most (take i rs) a, sizes-take rs i)

-- one turn: the sum over i rows, and the next row's part
module _ (c : After-row_term-sum) where
  abbrev rs : List (List ℤ)
  rs = c.args.rows.now

  abbrev a : Delaunay
  a = c.args.a

  abbrev i : ℕ
  i = c.loop-row.row-index

  abbrev so_far : ℤ
  so_far = rows_sum (take i rs) a

  abbrev next : M
  next =
      var so_far (2 ^ 61) (first_most rs i a c.requires.1)
      ⊞ var c.row_term-sum.result (2 ^ 61)
      (rw c.row_term-sum.ensures (omega (arith, term-most (get_or rs i []) a, size_at rs i c.loop-row-test.true, c.requires.1)))

  -- what the machine has of the sum so far
  held : to_z w64 c.loop-row.sum-bits ≡ to_z w64 (of_z w64 so_far)
  held = c.loop-row.invariant ∙ sym (back (abs_fits (omega (arith, first_most rs i a c.requires.1))))

pub loop-row-init : goal.loop-row-init
loop-row-init c = sym (sum_none c.args.a)

pub row_term-sum-requires : goal.row_term-sum-requires
row_term-sum-requires c =
    let i = c.loop-row.row-index in
    let h = c.loop-row-test.true in
    (c.requires.0 i h, omega (arith, c.requires.1, size_at c.args.rows.now i h))

pub overflow_add-sum : goal.overflow_add-sum
overflow_add-sum c = let d = (goal.at.overflow_add-sum c).After-row_term-sum in rw (held d) (ok (next d) tt)

pub loop-row-preserved : goal.loop-row-preserved
loop-row-preserved c =
    let d = (goal.at.loop-row-preserved c).After-row_term-sum in
    let more = is (next d) tt ∙ ap (λ (z : ℤ). so_far d +ℤ z) c.row_term-sum.ensures ∙ sym (sum_more (rs d) (i d) (a d) c.loop-row-test.true) in
    rw (held d) more
