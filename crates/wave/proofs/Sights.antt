-- Laws of what is fixed in a pass. Assumes nothing.
use Rattle.std.proofs.Common.{◌≡◌, refl}
use Rattle.fields.specs.declared.Station.{Station}
use Rattle.fields.specs.declared.Source.{Source}
use Rattle.wave.specs.declared.values.Earth.{Earth}
use Rattle.wave.specs.Delays.{delay_between}
use Rattle.wave.specs.Keeping.{sight_of, delay_seen_rule}

-- the delay by what two stations and a source fix is the delay between them
pub seen_between : (a b : Station) (r : Source) (e : Earth) → delay_seen_rule (sight_of a b r) e ≡ delay_between a b r e
unfolding sight_of delay_seen_rule delay_between
seen_between a b r e = refl
