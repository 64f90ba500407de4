-- `sine::s_of` meets its contract. Assumes nothing.
use Rattle.std.proofs.Common.{◌∙◌}
use Rattle.sine.proofs.Parts.{s_is}
use Rattle.sine.proofs.s_of.Goals as goal

pub returns : goal.returns
returns c =
    c.min.ensures
    ∙ s_is c.args.r c.y_of-y.result c.z_of-z.result c.step-h5.result c.step-h4.result c.step-h3.result c.step-h2.result c.step-h1.result
    c.y_of-y.ensures.0 c.z_of-z.ensures.0 c.step-h5.ensures.0 c.step-h4.ensures.0 c.step-h3.ensures.0 c.step-h2.ensures.0 c.step-h1.ensures.0
