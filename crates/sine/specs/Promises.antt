-- What each call promises of its result. The call's `ensures` and the theorem of one value (proofs/Laws.antt) both cite it.
use Rattle.std.specs.Prelude.{◌≡◌, ℕ, ℤ}
use Rattle.sine.specs.Sine.{sine_of, cosine_of}

abbrev pub SinePromise : ℕ → ℤ → Type 0
SinePromise a r = r ≡ sine_of a

abbrev pub CosinePromise : ℕ → ℤ → Type 0
CosinePromise a r = r ≡ cosine_of a
