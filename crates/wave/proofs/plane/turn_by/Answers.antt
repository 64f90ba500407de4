-- `wave::plane::turn_by` meets its contract.
use Rattle.std.proofs.Common.{◌≡◌, ◌∙◌, w64, to_z, of_z}
use Rattle.whole.proofs.Linear.{ret}
use Rattle.wave.specs.PlaneWave.{turn_of}
use Rattle.wave.proofs.Sizes.{turn_size}
use Rattle.wave.proofs.plane.turn_by.Goals as goal

pub invariant_of-result : goal.invariant_of-result
unfolding turn_of
invariant_of-result c =
    let size = turn_size c.args.t in
    let cos = ret c.cosine.result c.cosine.type_inv ∙ c.cosine.ensures in
    let sin = ret c.sine.result c.sine.type_inv ∙ c.sine.ensures in
    record { cos_size = rw cos size.cos_size; sin_size = rw sin size.sin_size }

pub returns : goal.returns
unfolding turn_of
returns c =
    let cosine-is = ret c.cosine.result c.cosine.type_inv ∙ c.cosine.ensures in
    let sine-is = ret c.sine.result c.sine.type_inv ∙ c.sine.ensures in
    λ i. record { cos = cosine-is i; sin = sine-is i }
