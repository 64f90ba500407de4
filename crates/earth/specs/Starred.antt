-- Document 01, 'Numbers to meet': the starred cases of the arguments and of the rotation angle.
use Rattle.std.specs.Prelude.{ℕ, List, [], ◌∷◌, ℤ, pos}
use Rattle.whole.specs.Cases.{Case, case}
use Rattle.earth.specs.declared.TicksAnswer.{TicksAnswer}
use Rattle.earth.specs.declared.AngleAnswer.{AngleAnswer}
use Rattle.earth.specs.Calls.{arguments_outcome, angle_outcome}

-- arguments(day, ms, tai)
pub record DayMsTai : Type 0 where
  pub day : ℤ
  pub ms : ℤ
  pub tai : ℤ

abbrev ticks : TicksAnswer → List ℤ
ticks r = r.refusal ∷ r.n ∷ pos r.l ∷ pos r.lp ∷ pos r.f ∷ pos r.d ∷ pos r.om ∷ []

abbrev pub arguments_answer : DayMsTai → List ℤ
arguments_answer i = ticks (arguments_outcome i.day i.ms i.tai)

-- "n = 0, l: 1,610,176,110 ticks": the answer where n is 0
abbrev pub arguments_at0 : List ℤ
arguments_at0 = pos 0 ∷ pos 0 ∷ pos 1610176110 ∷ pos 4265488420 ∷ pos 1112779385 ∷ pos 3553491246 ∷ pos 1491839650 ∷ []

-- "On MJD 51,544 with L = 32, n is 0 from u = 43,135,816 to 43,195,815."
abbrev pub first_at0 : ℕ
first_at0 = 43135816

abbrev pub last_at0 : ℕ
last_at0 = 43195815

abbrev pub on_day0 : ℕ → DayMsTai
on_day0 u = record { day = pos 51544; ms = pos u; tai = pos 32 }

unfoldable pub arguments_cases : List (Case DayMsTai)
arguments_cases = case (on_day0 first_at0) arguments_at0 ∷ case (on_day0 last_at0) arguments_at0 ∷ []

-- angle_at(day, f)
pub record DayF : Type 0 where
  pub day : ℤ
  pub f : ℤ

abbrev turned : AngleAnswer → List ℤ
turned r = r.refusal ∷ r.e ∷ pos r.tick ∷ []

abbrev pub angle_answer : DayF → List ℤ
angle_answer i = turned (angle_outcome i.day i.f)

-- "MJD 51,544, f = 43,200,000,000: E = 77,905,727,326,332,276, ERA 3,346,025,510. f = 0: ERA 1,192,662,456."
unfoldable pub angle_cases : List (Case DayF)
angle_cases =
    case (record { day = pos 51544; f = pos 43200000000 }) (pos 0 ∷ pos 77905727326332276 ∷ pos 3346025510 ∷ [])
    ∷ case (record { day = pos 51544; f = pos 0 }) (pos 0 ∷ pos 27768836730832276 ∷ pos 1192662456 ∷ [])
    ∷ []
