-- `earth::rows::tide_at_minute` meets its contract.
use Rattle.std.proofs.Common.{◌≡◌, ◌*◌, ◌^◌, ◌≤◌, ℤ, pos, ◌*ℤ◌, ap, ◌∙◌, arith}
use Rattle.whole.specs.Whole.{R}
use Rattle.whole.proofs.Linear.{back, ret}
use Rattle.whole.proofs.Machine.{M, lit, var, ◌⊠◌, bounded, ok, is}
use Rattle.earth.specs.DelaunayArguments.{arguments_of}
use Rattle.earth.specs.Rows.{rows}
use Rattle.earth.specs.TideInUT1.{rows_sum, sizes, tide_at}
use Rattle.earth.proofs.TideInUT1.{rows_few, rows_size, t_most}
use Rattle.earth.proofs.rows.tide_at_minute.Goals as goal
use Rattle.earth.proofs.rows.tide_at_minute.Goals.{After-rows_sum-t}

pub rows_sum-t-requires : goal.rows_sum-t-requires
rows_sum-t-requires c =
    let h : sizes rows ≤ 2 ^ 31 = omega (arith, rows_size) in rw c.table-table.ensures (rows_few, h)

t_is : (c : After-rows_sum-t) → c.rows_sum-t.result ≡ rows_sum rows (arguments_of c.args.n)
t_is c =
    let a = simp (back, c.ranges.n) at c.arguments_at.ensures in
    c.rows_sum-t.ensures ∙ (λ i. rows_sum (c.table-table.ensures i) (a i))

abbrev thousand : After-rows_sum-t → M
thousand c = lit (pos 1000) ⊠ var c.rows_sum-t.result (2723 * 2 ^ 30) (rw (t_is c) (t_most (arguments_of c.args.n)))

pub overflow_mul-t : goal.overflow_mul-t
overflow_mul-t c = ok (thousand (goal.at.overflow_mul-t c).After-rows_sum-t) tt

pub round_div-requires : goal.round_div-requires
round_div-requires c =
    let d = (goal.at.round_div-requires c).After-rows_sum-t in
    rw (is (thousand d) tt) (omega (arith, bounded (thousand d)))

pub returns : goal.returns
unfolding tide_at
returns c =
    let d = (goal.at.returns c).After-rows_sum-t in
    ret c.round_div.result c.round_div.type_inv
    ∙ c.round_div.ensures
    ∙ ap (λ (z : ℤ). R z (2 ^ 30)) (is (thousand d) tt ∙ ap (λ (z : ℤ). pos 1000 *ℤ z) (t_is d))
