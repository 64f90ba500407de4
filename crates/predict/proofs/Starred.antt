-- Document 01, 'Numbers to meet': the starred case of a prediction holds, by computation; and halves below zero, which go away from zero too.
use mathlib.Core.Path.{◌≡◌, refl}
use mathlib.Core.List.{[], ◌∷◌}
use lib.IntN.{pos, negsuc}
use Rattle.whole.specs.Answers.{given}
use Rattle.whole.specs.Cases.{Hold}
use Rattle.whole.specs.Each.{all_below}
use Rattle.track.specs.Starred.{bent}
use Rattle.predict.specs.Lent.{lent_of, predictions_ok, segment_ok_rule, sound_from, covered_by, prediction_at_rule, predict_number, predict_outcome}
use Rattle.predict.specs.Starred.{predict_answer, predict_cases}

pub predictions_hold : Hold predict_answer predict_cases
unfolding predict_cases all_below lent_of predictions_ok segment_ok_rule sound_from covered_by prediction_at_rule predict_number given predict_outcome
predictions_hold = refl

-- the same turned over: -1
pub half_down : predict_outcome (pos 0 ∷ pos 3 ∷ negsuc 65535 ∷ pos 32768 ∷ []) 1 ≡ record { refusal = pos 0; value = negsuc 0 }
unfolding all_below lent_of predictions_ok segment_ok_rule sound_from covered_by prediction_at_rule predict_number given predict_outcome
half_down = refl

-- sample 3 is not covered
pub not_covered : predict_outcome bent 3 ≡ record { refusal = pos 9; value = pos 0 }
unfolding all_below lent_of predictions_ok segment_ok_rule sound_from covered_by prediction_at_rule predict_number given predict_outcome
not_covered = refl
