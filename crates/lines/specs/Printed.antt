-- Document 01, 'Numbers to meet', the track program: the file of 304 bytes, and the two lines that it prints in whole.
use Rattle.std.specs.Prelude.{ℕ, ◌<◌, ◌≡◌, List, [], ◌∷◌, pos}
use Rattle.sections.specs.File.{refusal_of_rule, count_of_rule}
use Rattle.session.specs.Records.{station_of_rule, source_of, day_of_rule, pass_of_rule}
use Rattle.text.specs.Bytes.{bytes_of_all}
use Rattle.delay.specs.Sessions.{sample_epoch_rule}

-- an accepted file of one station, one source, two days and one pass: 3 samples of that station with itself, with tolerance 0, all of them on the first day
pub record OneStationTwice (s : List ℕ) : Type 0 where
  pub accepted : refusal_of_rule s ≡ 0
  pub stations : count_of_rule s 0 ≡ 1
  pub sources : count_of_rule s 1 ≡ 1
  pub days : count_of_rule s 2 ≡ 2
  pub passes : count_of_rule s 3 ≡ 1
  pub first : (pass_of_rule s 0).station1 ≡ (station_of_rule s 0).id
  pub second : (pass_of_rule s 0).station2 ≡ (station_of_rule s 0).id
  pub source : (pass_of_rule s 0).source ≡ (source_of s 0).id
  pub samples : (pass_of_rule s 0).samples ≡ pos 3
  pub tolerance : (pass_of_rule s 0).tolerance ≡ pos 0
  pub on_first-day : (j : ℕ) → j < 3 → (sample_epoch_rule (pass_of_rule s 0) j).day ≡ (day_of_rule s 0).mjd

-- such a file, in words of 8 bytes: the table of contents, the station, the source, the two days, the pass
abbrev pub smallest : List ℕ
smallest =
    bytes_of_all
    (4 ∷ 1 ∷ 104 ∷ 1 ∷ 2 ∷ 136 ∷ 1 ∷ 3 ∷ 160 ∷ 2 ∷ 4 ∷ 240 ∷ 1
    ∷ 1 ∷ 0 ∷ 0 ∷ 0
    ∷ 1 ∷ 0 ∷ 0
    ∷ 51544 ∷ 0 ∷ 0 ∷ 0 ∷ 32 ∷ 51545 ∷ 0 ∷ 0 ∷ 0 ∷ 32
    ∷ 1 ∷ 1 ∷ 1 ∷ 51544 ∷ 0 ∷ 1000 ∷ 3 ∷ 0 ∷ [])

-- `pass 0 1` and `0 3 0 0`, each ended by a line feed
abbrev pub in_whole : List ℕ
in_whole = 112 ∷ 97 ∷ 115 ∷ 115 ∷ 32 ∷ 48 ∷ 32 ∷ 49 ∷ 10 ∷ 48 ∷ 32 ∷ 51 ∷ 32 ∷ 48 ∷ 32 ∷ 48 ∷ 10 ∷ []
