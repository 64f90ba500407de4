-- `earth::rotate` meets its contract.
use Rattle.std.proofs.Common.{◌^◌, [], ◌∷◌, pos, neg_ℤ, ap, ◌∙◌}
use lib.IntN.{+ℤ_idl}
use Rattle.whole.proofs.Linear.{ret}
use Rattle.whole.proofs.Machine.{M, lit, var, ◌⊟◌, ok, is}
use Rattle.sine.proofs.Laws.{sine_size}
use Rattle.earth.specs.Rotation.{rotation_of}
use Rattle.earth.proofs.rotate.Goals as goal
use Rattle.earth.proofs.rotate.Goals.{After-sine-s}

abbrev minus : After-sine-s → M
minus c = lit (pos 0) ⊟ var c.sine-s.result (2 ^ 30) (rw c.sine-s.ensures (sine_size c.args.tick))

pub overflow_sub-result : goal.overflow_sub-result
overflow_sub-result c = ok (minus (goal.at.overflow_sub-result c).After-sine-s) tt

pub returns : goal.returns
unfolding rotation_of
returns c =
    let s = ret c.sine-s.result c.sine-s.type_inv ∙ c.sine-s.ensures in
    let k = ret c.cosine-c.result c.cosine-c.type_inv ∙ c.cosine-c.ensures in
    let n = is (minus (goal.at.returns c).After-sine-s) tt ∙ +ℤ_idl (neg_ℤ c.sine-s.result) ∙ ap neg_ℤ c.sine-s.ensures in
    λ i. (k i ∷ n i ∷ pos 0 ∷ []) ∷ (s i ∷ k i ∷ pos 0 ∷ []) ∷ (pos 0 ∷ pos 0 ∷ pos (2 ^ 30) ∷ []) ∷ []
