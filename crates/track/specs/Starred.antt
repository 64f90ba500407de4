-- Document 01, 'Numbers to meet': the starred cases of tracks. The rooms hold 7s, so that what is untouched can be seen.
use Rattle.std.specs.Prelude.{List, [], ◌∷◌, ◌++◌, replicate, ℤ, pos, neg_ℤ}
use Rattle.whole.specs.Cases.{Case, case}
use Rattle.track.specs.Answer.{Outcome, outcome}

-- track(samples, tolerance, room)
pub record Lent : Type 0 where
  pub samples : List ℤ
  pub tolerance : ℤ
  pub room : List ℤ

abbrev pub with_room : Outcome → List ℤ
with_room o = o.answer.refusal ∷ o.answer.value ∷ o.room

abbrev pub track_answer : Lent → List ℤ
track_answer i = with_room (outcome i.samples i.tolerance i.room)

abbrev lent : List ℤ → ℤ → List ℤ → Lent
lent s t room = record { samples = s; tolerance = t; room = room }

-- the cases' samples, and rooms for two segments, and for one, each with three numbers more
abbrev line : List ℤ
line = pos 0 ∷ pos 10 ∷ pos 20 ∷ []

abbrev step : List ℤ
step = pos 0 ∷ pos 0 ∷ pos 1 ∷ []

abbrev peak : List ℤ
peak = pos 0 ∷ pos 10 ∷ pos 0 ∷ []

abbrev three : List ℤ
three = replicate 3 (pos 7)

abbrev seven : List ℤ
seven = replicate 7 (pos 7)

abbrev pub eleven : List ℤ
eleven = replicate 11 (pos 7)

-- the track of `step` with tolerance 1
abbrev pub bent : List ℤ
bent = pos 0 ∷ pos 3 ∷ pos 65536 ∷ neg_ℤ (pos 32768) ∷ []

unfoldable pub track_cases : List (Case Lent)
track_cases =
    -- "samples 0, 10, 20, tolerance 0: (0, 3, 0, 655360)."
    case (lent line (pos 0) eleven) (pos 0 ∷ pos 1 ∷ pos 0 ∷ pos 3 ∷ pos 0 ∷ pos 655360 ∷ seven)
    -- "Samples 0, 0, 1, tolerance 0: (0, 2, 0, 0), (2, 1, 65536, 0); tolerance 1: (0, 3, 65536, -32768)"
    ∷ case (lent step (pos 0) eleven) (pos 0 ∷ pos 2 ∷ pos 0 ∷ pos 2 ∷ pos 0 ∷ pos 0 ∷ pos 2 ∷ pos 1 ∷ pos 65536 ∷ pos 0 ∷ three)
    ∷ case (lent step (pos 1) eleven) (pos 0 ∷ pos 1 ∷ (bent ++ seven))
    -- "samples 0, 10, 0, tolerance 5: (0, 3, 327680, 0); tolerance 4: (0, 2, 262144, 131072), (2, 1, -262144, 0), and room for one is refused with 8."
    ∷ case (lent peak (pos 5) eleven) (pos 0 ∷ pos 1 ∷ pos 0 ∷ pos 3 ∷ pos 327680 ∷ pos 0 ∷ seven)
    ∷ case (lent peak (pos 4) eleven) (pos 0 ∷ pos 2 ∷ pos 0 ∷ pos 2 ∷ pos 262144 ∷ pos 131072 ∷ pos 2 ∷ pos 1 ∷ neg_ℤ (pos 262144) ∷ pos 0 ∷ three)
    ∷ case (lent peak (pos 4) seven) (pos 8 ∷ pos 0 ∷ seven)
    ∷ []
