-- `wave::angle_for` meets its contract.
use Rattle.std.proofs.Common.{ap}
use Rattle.wave.specs.Values.{Oriented}
use Rattle.wave.specs.Delays.{angle_for_rule}
use Rattle.wave.proofs.angle_for.Goals as goal

pub returns : goal.returns
unfolding angle_for_rule
returns c = ap (λ (e : Oriented). e.tick) c.e.view_is
