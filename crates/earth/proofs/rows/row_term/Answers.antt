-- `earth::rows::row_term` meets its contract.
use Rattle.std.proofs.Common.{◌≡◌, ◌^◌, ℤ, ◌*ℤ◌, ap, ◌∙◌}
use Rattle.whole.proofs.Machine.{M, var, ◌⊠◌, ok, is}
use Rattle.sine.specs.Sine.{sine_of}
use Rattle.sine.proofs.Laws.{sine_size}
use Rattle.earth.specs.TideInUT1.{amplitude, row_angle_rule}
use Rattle.earth.proofs.rows.row_term.Goals as goal
use Rattle.earth.proofs.rows.row_term.Goals.{After-sine}

module _ (c : After-sine) where
  sine_is : c.sine.result ≡ sine_of (row_angle_rule c.args.row c.args.a)
  sine_is = c.sine.ensures ∙ ap sine_of c.row_angle-tick.ensures

  abbrev product : M
  product =
      var (amplitude c.args.row) (2 ^ 31) c.requires.1
      ⊠ var c.sine.result (2 ^ 30) (rw sine_is (sine_size (row_angle_rule c.args.row c.args.a)))

pub overflow_mul-result : goal.overflow_mul-result
overflow_mul-result c = ok (product (goal.at.overflow_mul-result c).After-sine) tt

pub returns : goal.returns
returns c =
    let d = (goal.at.returns c).After-sine in
    is (product d) tt ∙ ap (λ (z : ℤ). amplitude c.args.row *ℤ z) (sine_is d)
