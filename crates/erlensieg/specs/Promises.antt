-- What `fringe_rotate` promises, which alone hands out another shape than the call under it. The other functions have the promise of their call.
use Rattle.std.specs.Prelude.{ℕ, ◌≡◌}
use Rattle.earth.specs.Rotation.{rotation_of}
use Rattle.erlensieg.specs.declared.angles.Rotation.{Rotation}
use Rattle.erlensieg.specs.Nine.{nine_of}

abbrev pub NinePromise : ℕ → Rotation → Type 0
NinePromise tick r = r ≡ nine_of (rotation_of tick)
