-- Document 01, 'Delay', its last sentence: the rotation by ERA, "three rows of three scaled by 2^30: cos, -sin, 0; sin, cos, 0; 0, 0, 2^30".
use Rattle.std.specs.Prelude.{ℕ, ◌^◌, List, [], ◌∷◌, ℤ, pos, neg_ℤ}
use Rattle.sine.specs.Sine.{sine_of, cosine_of}

unfoldable pub rotation_of : ℕ → List (List ℤ)
rotation_of a =
    (cosine_of a ∷ neg_ℤ (sine_of a) ∷ pos 0 ∷ []) ∷
    (sine_of a ∷ cosine_of a ∷ pos 0 ∷ []) ∷
    (pos 0 ∷ pos 0 ∷ pos (2 ^ 30) ∷ []) ∷
    []
