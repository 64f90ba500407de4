-- Document 02, L4: files that have the same stations, sources and passes, and days that give the same UT1R, get the same answers, whatever kind their days have.
-- Assumes nothing.
use mathlib.Core.Path.{◌≡◌, refl, sym, ap, ap₂, ◌∙◌}
use mathlib.Core.Bool.{true, not, ◌&&◌}
use mathlib.Core.List.{List, [], ◌∷◌, ◌++◌}
use Prim.Native.Nat.{ℕ, ◌≤◌, ◌<◌}
use native.Mathlib.Decide.{dec_lt}
use native.Mathlib.Omega.{arith}
use borrow.Author.Tests.{ltb-true}
use lib.Dec.{leb, ltb}
use lib.ListN.{length, drop}
use lib.IntN.{ℤ, pos, ◌+ℤ◌}
use Rattle.whole.specs.Answers.{number, no_number_rule}
use Rattle.whole.specs.Each.{first_not}
use Rattle.whole.specs.Ranges.{eq_z}
use Rattle.whole.specs.Refusals.{unless, lowest}
use Rattle.whole.specs.Values.{first_values}
use Rattle.whole.proofs.Answers.{given-same}
use Rattle.whole.proofs.Each.{first-same, all_same, below_each}
use Rattle.whole.proofs.Linear.{and_true}
use Rattle.whole.proofs.Refusals.{first_zero, unless_zero}
use Rattle.whole.proofs.Values.{values_same}
use Rattle.earth.specs.declared.time.Epoch.{Epoch}
use Rattle.earth.specs.Calls.{epoch_of}
use Rattle.fields.specs.declared.Station.{Station}
use Rattle.fields.specs.declared.Source.{Source}
use Rattle.fields.specs.declared.Day.{Day}
use Rattle.fields.specs.declared.Pass.{Pass}
use Rattle.fields.specs.Records.{number_in, station_from_rule, source_from_rule, day_from_rule}
use Rattle.sections.specs.Layouts.{places}
use Rattle.sections.specs.File.{refusal_of_rule, kind_of, count_of_rule, field_at_rule}
use Rattle.sections.specs.Rows.{row_of}
use Rattle.session.specs.Records.{station_of_rule, source_of, day_of_rule, pass_of_rule, place_by_rule, station_by, source_by, day_by}
use Rattle.session.proofs.Fields.{first-number}
use Rattle.session.proofs.Laws.{day-unmarked}
use Rattle.wave.specs.Delays.{delay_between}
use Rattle.wave.specs.Keeping.{reduced_of}
use Rattle.wave.proofs.Marks.{less_tide_lem, reduced_marked, reduced_unmarked, earth_alike}
use Rattle.delay.specs.Calls.{epoch_ok_rule, orientation_number, orientation_outcome, earth_answer, no_earth_rule, asked_ok_rule, all_there_rule, delay_number, delay_in, delay_outcome, samples_of, all_covered_rule, samples_number, sample_in, samples_outcome, samples_room}
use Rattle.delay.specs.Sessions.{has_id, covers, earth_in_rule, sample_epoch_rule}
use Rattle.delay.proofs.Covered.{both_there}
use Rattle.delay.proofs.Numbers.{judged_of, orientation-first, beyond_number}
use Rattle.delay.proofs.Theorems.{delay_clear, samples_clear}

-- both are accepted, and all but their days are the same
pub record Alike (s t : List ℕ) : Type 0 where
  pub first : refusal_of_rule s ≡ 0
  pub second : refusal_of_rule t ≡ 0
  pub count : (p : ℕ) → p < 4 → count_of_rule s p ≡ count_of_rule t p
  pub station : (i : ℕ) → i < count_of_rule s 0 → station_of_rule s i ≡ station_of_rule t i
  pub source : (i : ℕ) → i < count_of_rule s 1 → source_of s i ≡ source_of t i
  pub pass : (i : ℕ) → i < count_of_rule s 3 → pass_of_rule s i ≡ pass_of_rule t i

-- their days give the same UT1R
abbrev pub AlikeDays : List ℕ → List ℕ → Type 0
AlikeDays s t = (i : ℕ) → i < count_of_rule s 2 → reduced_of (day_of_rule s i) ≡ reduced_of (day_of_rule t i)

module _ (s t : List ℕ) (w : Alike s t) (days : AlikeDays s t) where
  refusal-same : refusal_of_rule s ≡ refusal_of_rule t
  refusal-same = w.first ∙ sym w.second

  -- ---- what is looked up

  module _ (p : ℕ) (l : p < 4) (firsts : (i : ℕ) → i < count_of_rule s p → number_in (row_of places s p i) 0 ≡ number_in (row_of places t p i) 0) (z : ℤ) where
    place_same : place_by_rule s p z ≡ place_by_rule t p z
    unfolding place_by_rule
    place_same =
        first-same (count_of_rule s p) _ _ (λ i m. ap (λ (x : ℤ). not (eq_z x z)) (sym (first-number s w.first p l i) ∙ firsts i m ∙ first-number t w.second p l i))
        ∙ ap (λ (n : ℕ). first_not n (λ (i : ℕ). not (eq_z (field_at_rule places t p i 0) z))) (w.count p l)

    has_same : has_id s p z ≡ has_id t p z
    has_same = ap₂ ltb place_same (w.count p l)

  station-first : (i : ℕ) → i < count_of_rule s 0 → number_in (row_of places s 0 i) 0 ≡ number_in (row_of places t 0 i) 0
  unfolding station_of_rule station_from_rule
  station-first i l = ap (λ (r : Station). r.id) (w.station i l)

  source_first : (i : ℕ) → i < count_of_rule s 1 → number_in (row_of places s 1 i) 0 ≡ number_in (row_of places t 1 i) 0
  unfolding source_of source_from_rule
  source_first i l = ap (λ (r : Source). r.id) (w.source i l)

  day-first : (i : ℕ) → i < count_of_rule s 2 → number_in (row_of places s 2 i) 0 ≡ number_in (row_of places t 2 i) 0
  unfolding day_of_rule day_from_rule
  day-first i l = ap (λ (r : Day). r.mjd) (days i l)

  station_by_lem : (z : ℤ) → has_id s 0 z ≡ true → station_by s z ≡ station_by t z
  station_by_lem z e = w.station (place_by_rule s 0 z) (ltb-true _ _ e) ∙ ap (station_of_rule t) (place_same 0 (omega arith) station-first z)

  source_by_lem : (z : ℤ) → has_id s 1 z ≡ true → source_by s z ≡ source_by t z
  source_by_lem z e = w.source (place_by_rule s 1 z) (ltb-true _ _ e) ∙ ap (source_of t) (place_same 1 (omega arith) source_first z)

  day_by_lem : (z : ℤ) → has_id s 2 z ≡ true → reduced_of (day_by s z) ≡ reduced_of (day_by t z)
  day_by_lem z e = days (place_by_rule s 2 z) (ltb-true _ _ e) ∙ ap (λ (i : ℕ). reduced_of (day_of_rule t i)) (place_same 2 (omega arith) day-first z)

  there-same : (a b r : ℤ) → all_there_rule s a b r ≡ all_there_rule t a b r
  there-same a b r =
      λ j. has_same 0 (omega arith) station-first a j && (has_same 0 (omega arith) station-first b j && has_same 1 (omega arith) source_first r j)

  covers-same : (d : ℤ) → covers s d ≡ covers t d
  unfolding covers
  covers-same d = λ j. has_same 2 (omega arith) day-first d j && has_same 2 (omega arith) day-first (d +ℤ pos 1) j

  -- ---- the earth and a delay at an epoch

  earth_same : (e : Epoch) → covers s e.day ≡ true → earth_in_rule s e ≡ earth_in_rule t e
  unfolding earth_in_rule
  earth_same e c =
      let d = e.day in
      let b = both_there s d w.first c in
      earth_alike (day_by s d) (day_by s (d +ℤ pos 1)) (day_by t d) (day_by t (d +ℤ pos 1)) e (day_by_lem d b.0) (day_by_lem (d +ℤ pos 1) b.1)

  delay_same : (a b r : ℤ) (e : Epoch) → all_there_rule s a b r ≡ true → covers s e.day ≡ true → delay_in s a b r e ≡ delay_in t a b r e
  unfolding delay_in
  delay_same a b r e n c =
      let x = and_true (has_id s 0 a) (has_id s 0 b && has_id s 1 r) n in
      let y = and_true (has_id s 0 b) (has_id s 1 r) x.1 in
      λ j. delay_between (station_by_lem a x.0 j) (station_by_lem b y.0 j) (source_by_lem r y.1 j) (earth_same e c j)

  -- ---- the calls `orientation` and `delay`

  orientation-number : (day ms : ℤ) → orientation_number s day ms ≡ orientation_number t day ms
  unfolding orientation_number
  orientation-number day ms = λ j. lowest (refusal-same j ∷ unless (epoch_ok_rule day ms) 2 ∷ unless (covers-same day j) 6 ∷ [])

  orientation-covers : (day ms : ℤ) → orientation_number s day ms ≡ 0 → covers s day ≡ true
  orientation-covers day ms e =
      let c = covers s day in
      let f = first_zero (judged_of s (epoch_ok_rule day ms)) (unless c 6 ∷ []) (sym (orientation-first s day ms) ∙ e) in
      unless_zero c 5 (first_zero (unless c 6) [] f.1).0

  pub orientation_alike : (day ms : ℤ) → orientation_outcome s day ms ≡ orientation_outcome t day ms
  unfolding orientation_outcome
  orientation_alike day ms =
      given-same _ _ _ _ no_earth_rule (orientation-number day ms) (λ e. ap earth_answer (earth_same (epoch_of day ms) (orientation-covers day ms e)))

  delay_number_lem : (a b r day ms : ℤ) → delay_number s a b r day ms ≡ delay_number t a b r day ms
  unfolding delay_number
  delay_number_lem a b r day ms =
      λ j. lowest (refusal-same j ∷ unless (asked_ok_rule a b r day ms) 2 ∷ unless (there-same a b r j) 5 ∷ unless (covers-same day j) 6 ∷ [])

  pub delay_alike : (a b r day ms : ℤ) → delay_outcome s a b r day ms ≡ delay_outcome t a b r day ms
  unfolding delay_outcome
  delay_alike a b r day ms =
      given-same _ _ _ _ no_number_rule (delay_number_lem a b r day ms)
      (λ e. let c = delay_clear s a b r day ms e in ap number (delay_same a b r (epoch_of day ms) c.1 c.2))

  -- ---- the call `samples`: its answer, and the room

  covered_same : (p : Pass) → all_covered_rule s p ≡ all_covered_rule t p
  unfolding all_covered_rule
  covered_same p = all_same (samples_of p) _ _ (λ i l. covers-same (sample_epoch_rule p i).day)

  samples-number : (i n : ℕ) → samples_number s i n ≡ samples_number t i n
  unfolding samples_number
  samples-number i n = by (dec_lt i (count_of_rule s 3))
    where
      by : Dec (i < count_of_rule s 3) → samples_number s i n ≡ samples_number t i n
      by (yes l) =
          λ j.
          let p = w.pass i l j in
          lowest
          (refusal-same j
          ∷ unless (ltb i (w.count 3 (omega arith) j)) 5
          ∷ unless (there-same p.station1 p.station2 p.source j) 5
          ∷ unless (covered_same p j) 6
          ∷ unless (leb (samples_of p) n) 7
          ∷ [])
      by (no f) =
          let m : count_of_rule s 3 ≤ i = omega (arith, f) in
          beyond_number s i n w.first m ∙ sym (beyond_number t i n w.second (omega (arith, m, w.count 3 (omega arith))))

  pass_clear : (i n : ℕ) → samples_number s i n ≡ 0 → pass_of_rule s i ≡ pass_of_rule t i
  pass_clear i n e = w.pass i (ltb-true i (count_of_rule s 3) (samples_clear s i n e).there)

  pub samples_alike : (i n : ℕ) → samples_outcome s i n ≡ samples_outcome t i n
  unfolding samples_outcome
  samples_alike i n = given-same _ _ _ _ no_number_rule (samples-number i n) (λ e. ap (λ (p : Pass). number p.samples) (pass_clear i n e))

  sample-same : (i n j : ℕ) → samples_number s i n ≡ 0 → j < samples_of (pass_of_rule s i) → sample_in s (pass_of_rule s i) j ≡ sample_in t (pass_of_rule s i) j
  unfolding sample_in all_covered_rule
  sample-same i n j e l =
      let p = pass_of_rule s i in
      let g = samples_clear s i n e in
      delay_same p.station1 p.station2 p.source (sample_epoch_rule p j) g.named (below_each (samples_of p) j (λ (x : ℕ). covers s (sample_epoch_rule p x).day) l g.covered)

  pub room_alike : (i : ℕ) (room : List ℤ) → samples_room s i room ≡ samples_room t i room
  unfolding samples_room
  room_alike i room =
      given-same _ _ _ _ _ (samples-number i (length room))
      (λ e.
      let p = pass_of_rule s i in
      ap (λ (x : List ℤ). x ++ drop (samples_of p) room) (values_same (samples_of p) (sample_in s p) (sample_in t p) (λ j l. sample-same i (length room) j e l))
      ∙ ap (λ (q : Pass). first_values (samples_of q) (sample_in t q) ++ drop (samples_of q) room) (pass_clear i (length room) e))

-- ---- days that give the same UT1R

pub record FiveSame (a b : Day) : Type 0 where
  pub mjd : a.mjd ≡ b.mjd
  pub x : a.x ≡ b.x
  pub y : a.y ≡ b.y
  pub ut1_utc : a.ut1_utc ≡ b.ut1_utc
  pub tai_utc : a.tai_utc ≡ b.tai_utc

-- of a file of kind 3 and of one with the same five numbers a day, all marked 0
pub record Unmarked (s t : List ℕ) : Type 0 where
  pub three : kind_of s 2 ≡ 3
  pub five_same : (i : ℕ) → i < count_of_rule s 2 → FiveSame (day_of_rule s i) (day_of_rule t i)
  pub marks : (i : ℕ) → i < count_of_rule s 2 → (day_of_rule t i).mark ≡ pos 0

pub unmarked-days : (s t : List ℕ) → refusal_of_rule s ≡ 0 → Unmarked s t → AlikeDays s t
unmarked-days s t h u i l =
    let f = u.five_same i l in
    ap reduced_of
    (λ j.
    record {
      mjd = f.mjd j;
      x = f.x j;
      y = f.y j;
      ut1_utc = f.ut1_utc j;
      tai_utc = f.tai_utc j;
      mark = (day-unmarked s h i u.three ∙ sym (u.marks i l)) j;
    })

-- so a file of kind 5 whose marks are 0 has the delays, and the samples, of the file of kind 3 with the same records
pub kinds_agree : (s t : List ℕ) → Alike s t → Unmarked s t → (a b r day ms : ℤ) → delay_outcome s a b r day ms ≡ delay_outcome t a b r day ms
kinds_agree s t w u = delay_alike s t w (unmarked-days s t w.first u)

pub kinds_agree_room : (s t : List ℕ) → Alike s t → Unmarked s t → (i : ℕ) (room : List ℤ) → samples_room s i room ≡ samples_room t i room
kinds_agree_room s t w u = room_alike s t w (unmarked-days s t w.first u)

-- a record marked 1, and the one marked 0 whose UT1-UTC is less by the tide
pub less_tide : (a b : Day) → a.mark ≡ pos 1 → b ≡ less_tide_lem a → reduced_of a ≡ reduced_of b
less_tide a b m e = reduced_marked a m ∙ sym (reduced_unmarked (less_tide_lem a) refl) ∙ ap reduced_of (sym e)
