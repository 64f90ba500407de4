-- What the code looks up, and keeps from one sample to the next: where records stand, those of a day and the next, and the tide of a minute of TT.
use Rattle.std.specs.Prelude.{Bool, ◌&&◌, List, [], ◌∷◌, ◌++◌, ℕ, leb, ltb, ℤ, drop}
use Rattle.whole.specs.Answers.{given}
use Rattle.whole.specs.Values.{first_values}
use Rattle.whole.specs.Refusals.{unless, first_of}
use Rattle.fields.specs.declared.Pass.{Pass}
use Rattle.earth.specs.declared.time.Epoch.{Epoch}
use Rattle.sections.specs.File.{count_of_rule}
use Rattle.session.specs.Records.{station_of_rule, source_of, place_by_rule}
use Rattle.wave.specs.declared.Sight.{Sight}
use Rattle.wave.specs.Keeping.{sight_of, delay_seen_rule}
use Rattle.delay.specs.declared.records.Places.{Places}
use Rattle.delay.specs.Calls.{samples_of, all_covered_rule, sample_in}
use Rattle.delay.specs.Sessions.{earth_in_rule}

-- where the records of two stations and of a source stand, and whether they are there
abbrev pub places_by : List ℕ → ℤ → ℤ → ℤ → Places
places_by s a b r = record { first = place_by_rule s 0 a; second = place_by_rule s 0 b; source = place_by_rule s 1 r }

abbrev pub places_there : List ℕ → Places → Bool
places_there s n = ltb n.first (count_of_rule s 0) && (ltb n.second (count_of_rule s 0) && ltb n.source (count_of_rule s 1))

-- what the file lacks for a pass that names them, and for which there is this room
abbrev pub lacks_by : List ℕ → Pass → Places → ℕ → ℕ
lacks_by s p n room = first_of (unless (places_there s n) 5 ∷ unless (all_covered_rule s p) 6 ∷ unless (leb (samples_of p) room) 7 ∷ [])

-- the places that a pass names; what the file lacks for it; and the room after its samples were asked for, which are written where nothing is lacking
abbrev pub places_of : List ℕ → Pass → Places
places_of s p = places_by s p.station1 p.station2 p.source

abbrev pub lacks_of : List ℕ → Pass → ℕ → ℕ
lacks_of s p room = lacks_by s p (places_of s p) room

abbrev pub room_by_rule : List ℕ → Pass → List ℤ → ℕ → List ℤ
room_by_rule s p room n = given n (first_values (samples_of p) (sample_in s p) ++ drop (samples_of p) room) (λ (m : ℕ). room)

-- the sight from the two stations to the source
abbrev pub sight_in_rule : List ℕ → Places → Sight
sight_in_rule s n = sight_of (station_of_rule s n.first) (station_of_rule s n.second) (source_of s n.source)

-- the delay along a sight at an epoch of the file
unfoldable pub delay_at_rule : List ℕ → Sight → Epoch → ℤ
delay_at_rule s v e = delay_seen_rule v (earth_in_rule s e)
