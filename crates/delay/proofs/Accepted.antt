-- What the delays lean on of a file that is accepted: each record that they read has its fields in their ranges. Assumes nothing.
use mathlib.Core.Path.{◌≡◌, subst, ◌∙◌}
use mathlib.Core.Bool.{true, ◌&&◌}
use mathlib.Core.List.{List}
use Prim.Native.Nat.{ℕ, ◌<◌}
use borrow.Author.Tests.{ltb-true}
use lib.Dec.{ltb}
use lib.IntN.{ℤ}
use Rattle.whole.proofs.Linear.{and_true}
use Rattle.fields.specs.Ranges.{Holds, mjd}
use Rattle.fields.specs.Records.{InStation, InSource}
use Rattle.sections.specs.File.{refusal_of_rule, count_of_rule}
use Rattle.session.specs.Records.{station_of_rule, source_of, place_by_rule, day_by}
use Rattle.session.proofs.Laws.{station_in, source_in, day_in_lem, day-first, place_has}
use Rattle.wave.specs.Bounds.{InRecord}
use Rattle.wave.specs.Keeping.{reduced_of}
use Rattle.wave.proofs.DayLaws.{record_in}
use Rattle.delay.specs.declared.records.Places.{Places}
use Rattle.delay.specs.Keeping.{places_there}
use Rattle.delay.specs.Sessions.{has_id}

module _ (s : List ℕ) (accepted : refusal_of_rule s ≡ 0) where
  -- the three records that a delay is asked for
  pub places_in : (n : Places) → places_there s n ≡ true → (n.first < count_of_rule s 0) × (n.second < count_of_rule s 0) × (n.source < count_of_rule s 1)
  places_in n e =
      let p = and_true (ltb n.first (count_of_rule s 0)) (ltb n.second (count_of_rule s 0) && ltb n.source (count_of_rule s 1)) e in
      let q = and_true (ltb n.second (count_of_rule s 0)) (ltb n.source (count_of_rule s 1)) p.1 in
      (ltb-true n.first (count_of_rule s 0) p.0, ltb-true n.second (count_of_rule s 0) q.0, ltb-true n.source (count_of_rule s 1) q.1)

  pub names_in : (n : Places) → places_there s n ≡ true → InStation (station_of_rule s n.first) × InStation (station_of_rule s n.second) × InSource (source_of s n.source)
  names_in n e =
      let l = places_in n e in
      (station_in s accepted n.first l.0, station_in s accepted n.second l.1, source_in s accepted n.source l.2)

  pub day_by_in : (z : ℤ) → has_id s 2 z ≡ true → InRecord (reduced_of (day_by s z))
  day_by_in z e = record_in (day_by s z) (day_in_lem s accepted (place_by_rule s 2 z) (ltb-true (place_by_rule s 2 z) (count_of_rule s 2) e))

  -- a day whose record is there lies in the file's range
  pub has_day_in : (z : ℤ) → has_id s 2 z ≡ true → Holds mjd z
  has_day_in z e =
      let i = place_by_rule s 2 z in
      let l = ltb-true i (count_of_rule s 2) e in
      subst (Holds mjd) (day-first s accepted i ∙ place_has s 2 z l) (day_in_lem s accepted i l).mjd
