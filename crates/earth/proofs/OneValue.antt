-- Each public call promises one value: any two results that its promise allows are equal. Assumes nothing.
use Rattle.std.proofs.Common.{◌≡◌, ℕ, List, ℤ, sym, ◌∙◌}
use Rattle.earth.specs.declared.EpochAnswer.{EpochAnswer}
use Rattle.earth.specs.declared.TicksAnswer.{TicksAnswer}
use Rattle.whole.specs.declared.Number.{Number}
use Rattle.earth.specs.declared.AngleAnswer.{AngleAnswer}
use Rattle.earth.specs.Promises.{LaterPromise, ArgumentsPromise, TidePromise, AnglePromise, RotatePromise}

pub later_one : (day ms add : ℤ) (r s : EpochAnswer) → LaterPromise day ms add r → LaterPromise day ms add s → r ≡ s
later_one day ms add r s p q = p ∙ sym q

pub arguments-one : (day ms tai : ℤ) (r s : TicksAnswer) → ArgumentsPromise day ms tai r → ArgumentsPromise day ms tai s → r ≡ s
arguments-one day ms tai r s p q = p ∙ sym q

pub tide_one : (day ms tai : ℤ) (r s : Number) → TidePromise day ms tai r → TidePromise day ms tai s → r ≡ s
tide_one day ms tai r s p q = p ∙ sym q

pub angle_one : (day f : ℤ) (r s : AngleAnswer) → AnglePromise day f r → AnglePromise day f s → r ≡ s
angle_one day f r s p q = p ∙ sym q

pub rotate_one : (tick : ℕ) (r s : List (List ℤ)) → RotatePromise tick r → RotatePromise tick s → r ≡ s
rotate_one tick r s p q = p ∙ sym q
