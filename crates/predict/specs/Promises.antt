-- What `predict` and `host_at` promise, named once: the `ensures` of each and the theorem that any two of its results are equal both cite it.
use Rattle.std.specs.Prelude.{ℕ, ◌≡◌, List, ℤ}
use Rattle.whole.specs.declared.Number.{Number}
use Rattle.predict.specs.declared.Host.{Host}
use Rattle.predict.specs.Lent.{predict_outcome}
use Rattle.predict.specs.Host.{host_outcome}

-- the numbers of the lent track and the sample asked for; then the answer
abbrev pub PredictPromise : List ℤ → ℕ → Number → Type 0
PredictPromise numbers k r = r ≡ predict_outcome numbers k

abbrev pub HostPromise : List ℤ → ℕ → Host → Type 0
HostPromise numbers k r = r ≡ host_outcome numbers k
