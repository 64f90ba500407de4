-- Every row of the table of starred cases holds: each call's answer, by the definition that its promise names, is the one wanted. Assumes nothing.
use mathlib.Core.Path.{◌≡◌}
use mathlib.Core.List.{List, ◌++◌}
use lib.IntN.{ℤ}
use Rattle.whole.specs.Cases.{Hold}
use Rattle.sine.specs.Starred.{sine_cases}
use Rattle.sine.proofs.Starred.{small_sines}
use Rattle.earth.specs.Starred.{arguments_cases, angle_cases}
use Rattle.earth.proofs.Starred.{arguments_hold, angles_hold}
use Rattle.track.specs.Starred.{track_cases}
use Rattle.track.proofs.Starred.{tracks_hold}
use Rattle.predict.specs.Starred.{predict_cases}
use Rattle.predict.proofs.Starred.{predictions_hold}
use Rattle.fringe.specs.Starred.{answer, starred}

joined : {ps qs rs ss : List (List ℤ)} → ps ≡ qs → rs ≡ ss → (ps ++ rs) ≡ (qs ++ ss)
joined p q = λ i. p i ++ q i

pub starred_hold : Hold answer starred
unfolding starred answer sine_cases arguments_cases angle_cases track_cases predict_cases
starred_hold = joined small_sines (joined arguments_hold (joined angles_hold (joined tracks_hold predictions_hold)))
