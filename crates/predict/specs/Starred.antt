-- Document 01, 'Numbers to meet': the starred case of a prediction.
use Rattle.std.specs.Prelude.{ℕ, List, [], ◌∷◌, ℤ, pos}
use Rattle.whole.specs.Cases.{Case, case}
use Rattle.whole.specs.declared.Number.{Number}
use Rattle.track.specs.Starred.{bent}
use Rattle.predict.specs.Lent.{predict_outcome}

-- predict(track, sample)
pub record Asked : Type 0 where
  pub track : List ℤ
  pub sample : ℕ

abbrev number : Number → List ℤ
number r = r.refusal ∷ r.value ∷ []

abbrev pub predict_answer : Asked → List ℤ
predict_answer i = number (predict_outcome i.track i.sample)

-- "(0, 3, 65536, -32768), predicting 1 at sample 1"
unfoldable pub predict_cases : List (Case Asked)
predict_cases = case (record { track = bent; sample = 1 }) (pos 0 ∷ pos 1 ∷ []) ∷ []
