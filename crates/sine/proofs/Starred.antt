-- The starred sines of document 01 hold, by computation. Assumes nothing.
use Rattle.std.proofs.Common.{refl}
use Rattle.whole.specs.Cases.{Hold}
use Rattle.sine.specs.Sine.{steps_of, s_by, S, quarter, sine_of}
use Rattle.sine.specs.Starred.{sine_answer, sine_cases}

pub small_sines : Hold sine_answer sine_cases
unfolding sine_cases sine_of quarter S s_by steps_of
small_sines = refl
