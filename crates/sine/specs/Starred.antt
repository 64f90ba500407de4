-- Document 01, 'Numbers to meet': the starred sines.
use Rattle.std.specs.Prelude.{ℕ, ◌+◌, ◌-◌, ◌^◌, List, [], ◌∷◌, ℤ, pos, neg_ℤ}
use Rattle.whole.specs.Cases.{Case, case}
use Rattle.sine.specs.Sine.{sine_of}

-- sine(a)
abbrev pub sine_answer : ℕ → List ℤ
sine_answer a = sine_of a ∷ []

-- "sine of tick 0 is 0; of 1 is 1; of 2 is 3; of 3 is 4; of 2^32-1 is -1; of 2^31+2 is -3."
unfoldable pub sine_cases : List (Case ℕ)
sine_cases =
    case 0 (pos 0 ∷ [])
    ∷ case 1 (pos 1 ∷ [])
    ∷ case 2 (pos 3 ∷ [])
    ∷ case 3 (pos 4 ∷ [])
    ∷ case (2 ^ 32 - 1) (neg_ℤ (pos 1) ∷ [])
    ∷ case (2 ^ 31 + 2) (neg_ℤ (pos 3) ∷ [])
    ∷ []
