use Rattle.std.proofs.Common.{sym, ap, ◌∙◌, eqb}
use Rattle.whole.proofs.Each.{all_first}
use Rattle.whole.proofs.below.all_pass.Goals as goal

pub returns : goal.returns
returns g c = λ p h. ap (λ i. eqb i c.args.n) (c.first_failing.ensures p h) ∙ sym (all_first c.args.n p)
