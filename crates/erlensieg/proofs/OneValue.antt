-- `fringe_rotate`, alone of the exports, has a promise of its own: any two results that its promise allows are equal. Assumes nothing.
use mathlib.Core.Path.{◌≡◌, sym, ◌∙◌}
use Prim.Native.Nat.{ℕ}
use Rattle.erlensieg.specs.declared.angles.Rotation.{Rotation}
use Rattle.erlensieg.specs.Promises.{NinePromise}

pub nine_one : (tick : ℕ) (r s : Rotation) → NinePromise tick r → NinePromise tick s → r ≡ s
nine_one tick r s p q = p ∙ sym q
