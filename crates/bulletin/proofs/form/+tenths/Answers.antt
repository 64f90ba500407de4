-- `bulletin::form::tenths` meets its contract: p falls by one with each call. Assumes nothing.
use mathlib.Core.Path.{◌∙◌}
use Rattle.bulletin.proofs.Printing.{tenth_less}
use Rattle.bulletin.proofs.form.+tenths.Goals as goal

pub returns : goal.returns
returns t c = c.tenths.ensures ∙ tenth_less c.args.n c.args.p c.if-p-eq0.false
