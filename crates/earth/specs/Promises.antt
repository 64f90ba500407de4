-- What each public call promises of its result: one value. The call's `ensures` and the theorem of one value, proofs/OneValue.antt, both cite it.
use Rattle.std.specs.Prelude.{◌≡◌, ℕ, List, ℤ}
use Rattle.whole.specs.declared.Number.{Number}
use Rattle.earth.specs.declared.EpochAnswer.{EpochAnswer}
use Rattle.earth.specs.declared.TicksAnswer.{TicksAnswer}
use Rattle.earth.specs.declared.AngleAnswer.{AngleAnswer}
use Rattle.earth.specs.Rotation.{rotation_of}
use Rattle.earth.specs.Calls.{later_outcome, arguments_outcome, tide_outcome, angle_outcome}

-- later(day, ms, add)
abbrev pub LaterPromise : ℤ → ℤ → ℤ → EpochAnswer → Type 0
LaterPromise day ms add r = r ≡ later_outcome day ms add

-- arguments(day, ms, tai)
abbrev pub ArgumentsPromise : ℤ → ℤ → ℤ → TicksAnswer → Type 0
ArgumentsPromise day ms tai r = r ≡ arguments_outcome day ms tai

-- tide(day, ms, tai)
abbrev pub TidePromise : ℤ → ℤ → ℤ → Number → Type 0
TidePromise day ms tai r = r ≡ tide_outcome day ms tai

-- angle_at(day, f)
abbrev pub AnglePromise : ℤ → ℤ → AngleAnswer → Type 0
AnglePromise day f r = r ≡ angle_outcome day f

-- rotate(tick)
abbrev pub RotatePromise : ℕ → List (List ℤ) → Type 0
RotatePromise tick r = r ≡ rotation_of tick
