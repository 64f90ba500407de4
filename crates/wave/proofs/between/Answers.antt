-- `wave::between` meets its contract.
use Rattle.whole.proofs.Machine.{M, ◌⊟◌, bounded, ok, is}
use Rattle.earth.proofs.Floors.{leaf}
use Rattle.wave.specs.Delays.{baseline_of}
use Rattle.wave.proofs.between.Goals as goal

pub overflow_sub-result : goal.overflow_sub-result
overflow_sub-result c = ok (leaf c.args.b.x c.requires.1.x ⊟ leaf c.args.a.x c.requires.0.x) tt

pub overflow_sub-result-2 : goal.overflow_sub-result-2
overflow_sub-result-2 c = ok (leaf c.args.b.y c.requires.1.y ⊟ leaf c.args.a.y c.requires.0.y) tt

pub overflow_sub-result-3 : goal.overflow_sub-result-3
overflow_sub-result-3 c = ok (leaf c.args.b.z c.requires.1.z ⊟ leaf c.args.a.z c.requires.0.z) tt

pub returns : goal.returns
unfolding baseline_of
returns c =
    let x : M = leaf c.args.b.x c.requires.1.x ⊟ leaf c.args.a.x c.requires.0.x in
    let y : M = leaf c.args.b.y c.requires.1.y ⊟ leaf c.args.a.y c.requires.0.y in
    let z : M = leaf c.args.b.z c.requires.1.z ⊟ leaf c.args.a.z c.requires.0.z in (
      (λ i. record { x = is x tt i; y = is y tt i; z = is z tt i }),
      record { x_size = rw (is x tt) (bounded x); y_size = rw (is y tt) (bounded y); z_size = rw (is z tt) (bounded z) },
    )
