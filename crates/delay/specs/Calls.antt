-- The three public calls: what each returns and leaves in the room lent, for every input. Document 01, 'Refusal numbers'.
use Rattle.std.specs.Prelude.{ℕ, Bool, ◌&&◌, List, [], ◌∷◌, ◌++◌, length, drop, ℤ, pos, nat_abs, leb, ltb, Result, Ok, Err}
use Rattle.earth.specs.declared.time.Epoch.{Epoch}
use Rattle.whole.specs.declared.Number.{Number}
use Rattle.whole.specs.Answers.{given, answer_by}
use Rattle.whole.specs.declared.refusal.Refusal.{Refusal}
use Rattle.whole.specs.Refusals.{unless, lowest, number_of}
use Rattle.whole.specs.Values.{first_values}
use Rattle.fields.specs.Ranges.{inside, id_number, mjd, millisecond}
use Rattle.earth.specs.Calls.{epoch_of}
use Rattle.fields.specs.declared.Pass.{Pass}
use Rattle.whole.specs.Each.{all_below}
use Rattle.sections.specs.File.{refusal_of_rule, count_of_rule}
use Rattle.session.specs.Records.{station_by, source_by, pass_of_rule}
use Rattle.delay.specs.declared.EarthAnswer.{EarthAnswer}
use Rattle.wave.specs.declared.values.Earth.{Earth}
use Rattle.wave.specs.Delays.{delay_between}
use Rattle.delay.specs.Sessions.{has_id, covers, earth_in_rule, sample_epoch_rule}

-- ---- orientation(file, day, ms)

abbrev pub epoch_ok_rule : ℤ → ℤ → Bool
epoch_ok_rule day ms = inside mjd day && inside millisecond ms

unfoldable pub orientation_number : List ℕ → ℤ → ℤ → ℕ
orientation_number s day ms = lowest (refusal_of_rule s ∷ unless (epoch_ok_rule day ms) 2 ∷ unless (covers s day) 6 ∷ [])

abbrev pub earth_answer : Earth → EarthAnswer
earth_answer e = record { refusal = pos 0; x = e.x; y = e.y; ut1_used = e.ut1_used; tick = e.tick }

abbrev pub no_earth_rule : ℕ → EarthAnswer
no_earth_rule n = record { refusal = pos n; x = pos 0; y = pos 0; ut1_used = pos 0; tick = 0 }

-- what is answered for a result
abbrev pub earth_answer_in : Result Earth Refusal → EarthAnswer
earth_answer_in (Ok e) = earth_answer e
earth_answer_in (Err r) = no_earth_rule (number_of r)

unfoldable pub orientation_outcome : List ℕ → ℤ → ℤ → EarthAnswer
orientation_outcome s day ms = given (orientation_number s day ms) (earth_answer (earth_in_rule s (epoch_of day ms))) no_earth_rule

-- ---- delay(file, station1, station2, source, day, ms)

abbrev pub asked_ok_rule : ℤ → ℤ → ℤ → ℤ → ℤ → Bool
asked_ok_rule a b r day ms = inside id_number a && (inside id_number b && (inside id_number r && epoch_ok_rule day ms))

-- the stations and the source of these ids are there
abbrev pub all_there_rule : List ℕ → ℤ → ℤ → ℤ → Bool
all_there_rule s a b r = has_id s 0 a && (has_id s 0 b && has_id s 1 r)

unfoldable pub delay_number : List ℕ → ℤ → ℤ → ℤ → ℤ → ℤ → ℕ
delay_number s a b r day ms =
    lowest (refusal_of_rule s ∷ unless (asked_ok_rule a b r day ms) 2 ∷ unless (all_there_rule s a b r) 5 ∷ unless (covers s day) 6 ∷ [])

-- the delay at an epoch of the stations and the source that these ids name
unfoldable pub delay_in : List ℕ → ℤ → ℤ → ℤ → Epoch → ℤ
delay_in s a b r e = delay_between (station_by s a) (station_by s b) (source_by s r) (earth_in_rule s e)

unfoldable pub delay_outcome : List ℕ → ℤ → ℤ → ℤ → ℤ → ℤ → Number
delay_outcome s a b r day ms = answer_by (delay_number s a b r day ms) (delay_in s a b r (epoch_of day ms))

-- ---- samples(file, pass, room)

-- how many samples a pass has
abbrev pub samples_of : Pass → ℕ
samples_of p = nat_abs p.samples

-- refusal 6 says that this fails: the file covers the day of every sample
unfoldable pub all_covered_rule : List ℕ → Pass → Bool
all_covered_rule s p = all_below (samples_of p) (λ (i : ℕ). covers s (sample_epoch_rule p i).day)

unfoldable pub samples_number : List ℕ → ℕ → ℕ → ℕ
samples_number s i room =
    let p = pass_of_rule s i in
    lowest
    (refusal_of_rule s
    ∷ unless (ltb i (count_of_rule s 3)) 5
    ∷ unless (all_there_rule s p.station1 p.station2 p.source) 5
    ∷ unless (all_covered_rule s p) 6
    ∷ unless (leb (samples_of p) room) 7
    ∷ [])

-- sample j of the pass p
unfoldable pub sample_in : List ℕ → Pass → ℕ → ℤ
sample_in s p j = delay_in s p.station1 p.station2 p.source (sample_epoch_rule p j)

unfoldable pub samples_outcome : List ℕ → ℕ → ℕ → Number
samples_outcome s i room = answer_by (samples_number s i room) (pass_of_rule s i).samples

-- the room after the call: the samples from its start, and the rest as it was; refused, all as it was
unfoldable pub samples_room : List ℕ → ℕ → List ℤ → List ℤ
samples_room s i room =
    let p = pass_of_rule s i in
    let k = samples_of p in
    given (samples_number s i (length room)) (first_values k (sample_in s p) ++ drop k room) (λ (n : ℕ). room)
