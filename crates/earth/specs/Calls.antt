-- The public calls that can be refused: what each returns, for every input. Document 01, 'Refusal numbers'.
use Rattle.std.specs.Prelude.{ℕ, Bool, ◌&&◌, [], ◌∷◌, ℤ, pos}
use Rattle.fields.specs.declared.ranges.Range.{Range}
use Rattle.fields.specs.Ranges.{inside, mjd, millisecond, taiutc}
use Rattle.whole.specs.declared.Number.{Number}
use Rattle.whole.specs.Answers.{given, answer_by}
use Rattle.whole.specs.Refusals.{unless, lowest}
use Rattle.earth.specs.declared.time.Epoch.{Epoch}
use Rattle.earth.specs.declared.ticks.Delaunay.{Delaunay}
use Rattle.earth.specs.declared.EpochAnswer.{EpochAnswer}
use Rattle.earth.specs.declared.TicksAnswer.{TicksAnswer}
use Rattle.earth.specs.declared.AngleAnswer.{AngleAnswer}
use Rattle.earth.specs.Ranges.{added, microsecond}
use Rattle.earth.specs.Epoch.{later_of}
use Rattle.earth.specs.Minutes.{minutes_of}
use Rattle.earth.specs.DelaunayArguments.{arguments_of}
use Rattle.earth.specs.TideInUT1.{tide_of}
use Rattle.earth.specs.Angle.{e_of, era_of}

abbrev pub epoch_of : ℤ → ℤ → Epoch
epoch_of day ms = record { day = day; ms = ms }

-- ---- the tests of the arguments, and the number of a call by them

-- a day, a millisecond of it, and a third argument with its range
abbrev pub epoch_inside : Range → ℤ → ℤ → ℤ → Bool
epoch_inside r day ms more = inside mjd day && (inside millisecond ms && inside r more)

abbrev pub angle_inside : ℤ → ℤ → Bool
angle_inside day f = inside mjd day && inside microsecond f

-- no refusal but 2
abbrev pub only_two : Bool → ℕ
only_two ok = lowest (unless ok 2 ∷ [])

-- ---- the answers, and what a refusal n is answered with

abbrev pub epoch_answer : Epoch → EpochAnswer
epoch_answer e = record { refusal = pos 0; day = e.day; ms = e.ms }

abbrev pub no_epoch : ℕ → EpochAnswer
no_epoch n = record { refusal = pos n; day = pos 0; ms = pos 0 }

abbrev pub ticks_answer : ℤ → Delaunay → TicksAnswer
ticks_answer n a = record { refusal = pos 0; n = n; l = a.l; lp = a.lp; f = a.f; d = a.d; om = a.om }

abbrev pub no_ticks : ℕ → TicksAnswer
no_ticks n = record { refusal = pos n; n = pos 0; l = 0; lp = 0; f = 0; d = 0; om = 0 }

abbrev pub turn_answer : ℕ → ℕ → AngleAnswer
turn_answer e tick = record { refusal = pos 0; e = pos e; tick = tick }

abbrev pub no_turn : ℕ → AngleAnswer
no_turn n = record { refusal = pos n; e = pos 0; tick = 0 }

-- ---- the calls

-- later(day, ms, add)
unfoldable pub later_outcome : ℤ → ℤ → ℤ → EpochAnswer
later_outcome day ms add = given (only_two (epoch_inside added day ms add)) (epoch_answer (later_of (epoch_of day ms) add)) no_epoch

-- arguments(day, ms, tai): n, then the five arguments
unfoldable pub arguments_outcome : ℤ → ℤ → ℤ → TicksAnswer
arguments_outcome day ms tai =
    let n = minutes_of (epoch_of day ms) tai in
    given (only_two (epoch_inside taiutc day ms tai)) (ticks_answer n (arguments_of n)) no_ticks

-- tide(day, ms, tai): nanoseconds
unfoldable pub tide_outcome : ℤ → ℤ → ℤ → Number
tide_outcome day ms tai = answer_by (only_two (epoch_inside taiutc day ms tai)) (tide_of (epoch_of day ms) tai)

-- angle_at(day, f): E, then ERA
unfoldable pub angle_outcome : ℤ → ℤ → AngleAnswer
angle_outcome day f = given (only_two (angle_inside day f)) (turn_answer (e_of day f) (era_of day f)) no_turn
