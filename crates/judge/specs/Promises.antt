-- What `judge` promises, named once: its `ensures` and the theorem that any two results are equal both cite it.
use Rattle.std.specs.Prelude.{◌≡◌, List, ℤ}
use Rattle.judge.specs.declared.Judgement.{Judgement}
use Rattle.judge.specs.Judgement.{judge_outcome}

-- the samples, the tolerance and the numbers of the lent track; then the answer
abbrev pub JudgePromise : List ℤ → ℤ → List ℤ → Judgement → Type 0
JudgePromise s t numbers r = r ≡ judge_outcome s t numbers
