-- What is proved of the outcomes of the calls `orientation`, `delay` and `samples`. Assumes nothing.
use mathlib.Core.Path.{◌≡◌, refl, sym, ap, ◌∙◌}
use mathlib.Core.Bool.{Bool, true, false, ◌&&◌}
use mathlib.Core.List.{List, [], ◌∷◌}
use Prim.Native.Nat.{ℕ, zero, suc, ◌≤◌, ◌<◌}
use native.Mathlib.Omega.{arith}
use lib.Dec.{leb, ltb, eqb-suc-zero}
use lib.ListN.{length, get_or, drop}
use lib.IntN.{ℤ, pos, neg_ℤ}
use Rattle.whole.specs.Whole.{∣◌∣}
use Rattle.whole.specs.declared.Number.{Number}
use Rattle.earth.specs.declared.time.Epoch.{Epoch}
use Rattle.earth.specs.Calls.{epoch_of}
use Rattle.fields.specs.Ranges.{inside, Holds, id_number, millisecond}
use Rattle.sections.proofs.Shapes.{today}
use Rattle.sections.specs.File.{refusal_of_rule, count_of_rule}
use Rattle.whole.specs.Each.{all_below, first_not}
use Rattle.whole.proofs.Each.{below_each, below_fails, not_all, first_fails}
use Rattle.sections.proofs.Accepted.{refusal-most}
use Rattle.fields.specs.declared.Pass.{Pass}
use Rattle.session.specs.Records.{station_by, source_by, pass_of_rule}
use Rattle.wave.proofs.Sizes.{between_size}
use Rattle.wave.specs.Delays.{delay_between}
use Rattle.wave.proofs.Swapped.{between-neg, between-same}
use Rattle.delay.specs.declared.EarthAnswer.{EarthAnswer}
use Rattle.whole.specs.Answers.{given, answer_by}
use Rattle.whole.specs.Refusals.{unless, lowest}
use Rattle.whole.proofs.Refusals.{lower_zero, unless_zero, first_zero}
use Rattle.delay.specs.Calls.{epoch_ok_rule, asked_ok_rule, all_there_rule, delay_in, delay_number, delay_outcome, samples_of, all_covered_rule, sample_in, samples_number, samples_room}
use Rattle.delay.specs.Keeping.{places_by}
use Rattle.delay.specs.Promises.{OrientationPromise, DelayPromise, SamplesPromise}
use Rattle.delay.specs.Sessions.{has_id, covers, earth_in_rule, sample_epoch_rule}
use Rattle.delay.proofs.Accepted.{names_in}
use Rattle.delay.proofs.Covered.{earth_in_size}
use Rattle.delay.proofs.Epochs.{sample_ms}
use Rattle.delay.proofs.Numbers.{judged_of, index_ok, names_ok, days_ok, room_ok, delay_first, samples-first, each_holds, six_fails}
use Rattle.delay.proofs.Ranges.{asked_in}
use Rattle.whole.proofs.Values.{sample_at_lem}

-- ---- one value: any two results that a promise allows are equal
pub orientation-one : (s : List ℕ) (day ms : ℤ) (a b : EarthAnswer) → OrientationPromise s day ms a → OrientationPromise s day ms b → a ≡ b
orientation-one s day ms a b p q = p ∙ sym q

pub delay_one : (s : List ℕ) (i j r day ms : ℤ) (a b : Number) → DelayPromise s i j r day ms a → DelayPromise s i j r day ms b → a ≡ b
delay_one s i j r day ms a b p q = p ∙ sym q

pub samples-one : (s : List ℕ) (i : ℕ) (room : List ℤ) (a b : Number) (x y : List ℤ) → SamplesPromise s i room a x → SamplesPromise s i room b y → (a ≡ b) × (x ≡ y)
samples-one s i room a b x y p q = (p.0 ∙ sym q.0, p.1 ∙ sym q.1)

-- ---- exchanging the stations
and_swap : (a b c : Bool) → (a && (b && c)) ≡ (b && (a && c))
and_swap true true c = refl
and_swap true false c = refl
and_swap false true c = refl
and_swap false false c = refl

pub delay_number_swap : (s : List ℕ) (a b r day ms : ℤ) → delay_number s b a r day ms ≡ delay_number s a b r day ms
unfolding delay_number
delay_number_swap s a b r day ms =
    ap (λ (t : Bool). lowest (refusal_of_rule s ∷ unless t 2 ∷ unless (all_there_rule s b a r) 5 ∷ unless (covers s day) 6 ∷ [])) (and_swap (inside id_number b) (inside id_number a) (inside id_number r && epoch_ok_rule day ms))
    ∙ ap (λ (t : Bool). lowest (refusal_of_rule s ∷ unless (asked_ok_rule a b r day ms) 2 ∷ unless t 5 ∷ unless (covers s day) 6 ∷ [])) (and_swap (has_id s 0 b) (has_id s 0 a) (has_id s 1 r))

pub delay_in_swap : (s : List ℕ) (a b r : ℤ) (e : Epoch) → delay_in s b a r e ≡ neg_ℤ (delay_in s a b r e)
unfolding delay_in
delay_in_swap s a b r e = between-neg (station_by s a) (station_by s b) (source_by s r) (earth_in_rule s e)

answer_swap : (n : ℕ) (v w : ℤ) → w ≡ neg_ℤ v → ((answer_by n w).refusal ≡ (answer_by n v).refusal) × ((answer_by n w).value ≡ neg_ℤ (answer_by n v).value)
unfolding given
answer_swap zero v w e = (refl, e)
answer_swap (suc n) v w e = rw (eqb-suc-zero n) (refl, refl)

-- the same number, and the value negated
pub delay_swap : (s : List ℕ) (a b r day ms : ℤ) → ((delay_outcome s b a r day ms).refusal ≡ (delay_outcome s a b r day ms).refusal) × ((delay_outcome s b a r day ms).value ≡ neg_ℤ (delay_outcome s a b r day ms).value)
unfolding delay_outcome
delay_swap s a b r day ms =
    rw (delay_number_swap s a b r day ms)
    (answer_swap (delay_number s a b r day ms) (delay_in s a b r (epoch_of day ms)) (delay_in s b a r (epoch_of day ms)) (delay_in_swap s a b r (epoch_of day ms)))

-- one station twice gives 0
answer_zero : (n : ℕ) (v : ℤ) → v ≡ pos 0 → (answer_by n v).value ≡ pos 0
unfolding given
answer_zero zero v e = e
answer_zero (suc n) v e = rw (eqb-suc-zero n) refl

pub delay_same : (s : List ℕ) (a r day ms : ℤ) → (delay_outcome s a a r day ms).value ≡ pos 0
unfolding delay_outcome delay_in
delay_same s a r day ms =
    answer_zero (delay_number s a a r day ms) (delay_in s a a r (epoch_of day ms)) (between-same (station_by s a) (source_by s r) (earth_in_rule s (epoch_of day ms)))

-- the same of a pass: with its stations exchanged each sample is negated
abbrev pub exchanged : Pass → Pass
exchanged p =
    record {
      station1 = p.station2;
      station2 = p.station1;
      source = p.source;
      mjd = p.mjd;
      ms = p.ms;
      step = p.step;
      samples = p.samples;
      tolerance = p.tolerance;
    }

pub sample_swap : (s : List ℕ) (p : Pass) (j : ℕ) → sample_in s (exchanged p) j ≡ neg_ℤ (sample_in s p j)
unfolding sample_in sample_epoch_rule
sample_swap s p j = delay_in_swap s p.station1 p.station2 p.source (sample_epoch_rule p j)

-- "One station may be named twice in a pass; its delays are 0."
pub sample-same : (s : List ℕ) (p : Pass) (j : ℕ) → p.station1 ≡ p.station2 → sample_in s p j ≡ pos 0
unfolding sample_in delay_in
sample-same s p j e =
    ap (λ (z : ℤ). delay_between (station_by s p.station1) (station_by s z) (source_by s p.source) (earth_in_rule s (sample_epoch_rule p j))) (sym e)
    ∙ between-same (station_by s p.station1) (source_by s p.source) (earth_in_rule s (sample_epoch_rule p j))

-- ---- "No delay is beyond 130,000,000,000 ps."

-- a delay of an accepted file that covers the epoch and has the stations
pub delay_in_size : (s : List ℕ) (a b r : ℤ) (e : Epoch) → refusal_of_rule s ≡ 0 → all_there_rule s a b r ≡ true → covers s e.day ≡ true → Holds millisecond e.ms → ∣ delay_in s a b r e ∣ ≤ 130000000000
unfolding delay_in
delay_in_size s a b r e h t c m =
    let n = names_in s h (places_by s a b r) t in
    between_size (station_by s a) (station_by s b) (source_by s r) (earth_in_rule s e) n.0 n.1 (earth_in_size s e h c m)

-- what it says that a call of `delay` is not refused
pub delay_clear : (s : List ℕ) (a b r day ms : ℤ) → delay_number s a b r day ms ≡ 0 → (refusal_of_rule s ≡ 0) × (all_there_rule s a b r ≡ true) × (covers s day ≡ true) × Holds millisecond ms
delay_clear s a b r day ms e =
    let o = asked_ok_rule a b r day ms in
    let t = all_there_rule s a b r in
    let c = covers s day in
    let f = first_zero (judged_of s o) (unless t 5 ∷ unless c 6 ∷ []) (sym (delay_first s a b r day ms) ∙ e) in
    let j = lower_zero (refusal_of_rule s) (unless o 2) f.0 in
    let g = first_zero (unless t 5) (unless c 6 ∷ []) f.1 in
    let k = first_zero (unless c 6) [] g.1 in
    (j.0, unless_zero t 4 g.0, unless_zero c 5 k.0, (asked_in (inside id_number a) (inside id_number b) (inside id_number r) day ms (unless_zero o 1 j.1)).1)

answer_size : (n : ℕ) (v : ℤ) (k : ℕ) → (n ≡ 0 → ∣ v ∣ ≤ k) → ∣ (answer_by n v).value ∣ ≤ k
unfolding given
answer_size zero v k h = h refl
answer_size (suc n) v k h = rw (eqb-suc-zero n) (omega arith)

pub delay_bounded : (s : List ℕ) (a b r day ms : ℤ) → ∣ (delay_outcome s a b r day ms).value ∣ ≤ 130000000000
unfolding delay_outcome
delay_bounded s a b r day ms =
    answer_size (delay_number s a b r day ms) (delay_in s a b r (epoch_of day ms)) 130000000000
    (λ e. let c = delay_clear s a b r day ms e in delay_in_size s a b r (epoch_of day ms) c.0 c.1 c.2 c.3)

-- ---- a pass: what it says that its samples are given

pub record Given (s : List ℕ) (i n : ℕ) : Type 0 where
  pub accepted : refusal_of_rule s ≡ 0
  pub there : ltb i (count_of_rule s 3) ≡ true
  pub named : all_there_rule s (pass_of_rule s i).station1 (pass_of_rule s i).station2 (pass_of_rule s i).source ≡ true
  pub covered : all_covered_rule s (pass_of_rule s i) ≡ true
  pub enough : leb (samples_of (pass_of_rule s i)) n ≡ true

pub samples_clear : (s : List ℕ) (i n : ℕ) → samples_number s i n ≡ 0 → Given s i n
samples_clear s i n e =
    let x = index_ok s i in
    let t = names_ok s i in
    let c = days_ok s i in
    let m = room_ok s i n in
    let f = first_zero (refusal_of_rule s) (unless x 5 ∷ unless t 5 ∷ unless c 6 ∷ unless m 7 ∷ []) (sym (samples-first s i n) ∙ e) in
    let g = first_zero (unless x 5) (unless t 5 ∷ unless c 6 ∷ unless m 7 ∷ []) f.1 in
    let h = each_holds t c m g.1 in
    record { accepted = f.0; there = unless_zero x 4 g.0; named = h.0; covered = h.1; enough = h.2 }

-- every sample that is given lies within ±130,000,000,000: of a pass for which nothing is lacking, by its record and by its index
pub record_bounded : (s : List ℕ) (p : Pass) (j : ℕ) → refusal_of_rule s ≡ 0 → all_there_rule s p.station1 p.station2 p.source ≡ true → all_covered_rule s p ≡ true → j < samples_of p → ∣ sample_in s p j ∣ ≤ 130000000000
unfolding sample_in all_covered_rule
record_bounded s p j a t c h =
    delay_in_size s p.station1 p.station2 p.source (sample_epoch_rule p j) a t (below_each (samples_of p) j (λ (x : ℕ). covers s (sample_epoch_rule p x).day) h c) (sample_ms p j)

pub sample_bounded : (s : List ℕ) (i n j : ℕ) → samples_number s i n ≡ 0 → j < samples_of (pass_of_rule s i) → ∣ sample_in s (pass_of_rule s i) j ∣ ≤ 130000000000
sample_bounded s i n j e h = let g = samples_clear s i n e in record_bounded s (pass_of_rule s i) j g.accepted g.named g.covered h

-- sample j of the room is the delay at the pass's epoch with j·step added
pub room-sample : (s : List ℕ) (i j : ℕ) (room : List ℤ) → samples_number s i (length room) ≡ 0 → j < samples_of (pass_of_rule s i) → get_or (samples_room s i room) j (pos 0) ≡ delay_in s (pass_of_rule s i).station1 (pass_of_rule s i).station2 (pass_of_rule s i).source (sample_epoch_rule (pass_of_rule s i) j)
unfolding samples_room sample_in given
room-sample s i j room e h = rw e (sample_at_lem (samples_of (pass_of_rule s i)) (sample_in s (pass_of_rule s i)) (drop (samples_of (pass_of_rule s i)) room) j h)

-- the number is 6 exactly if some sample's epoch lacks a record, of a pass that is there and names what is there
pub six_if : (s : List ℕ) (i n : ℕ) → refusal_of_rule s ≡ 0 → ltb i (count_of_rule s 3) ≡ true → all_there_rule s (pass_of_rule s i).station1 (pass_of_rule s i).station2 (pass_of_rule s i).source ≡ true → (j : ℕ) → j < samples_of (pass_of_rule s i) → covers s (sample_epoch_rule (pass_of_rule s i) j).day ≡ false → samples_number s i n ≡ 6
unfolding all_covered_rule
six_if s i n a t m j h c =
    let p = pass_of_rule s i in
    samples-first s i n ∙ rw (a, t, m, below_fails (samples_of p) j (λ (x : ℕ). covers s (sample_epoch_rule p x).day) h c) refl

pub record Lacking (s : List ℕ) (p : Pass) : Type 0 where
  pub sample : ℕ
  pub within : sample < samples_of p
  pub lacks : covers s (sample_epoch_rule p sample).day ≡ false

pub six_only : (s : List ℕ) (i n : ℕ) → samples_number s i n ≡ 6 → Lacking s (pass_of_rule s i)
unfolding all_covered_rule
six_only s i n e =
    let p = pass_of_rule s i in
    let q : ℕ → Bool = λ (x : ℕ). covers s (sample_epoch_rule p x).day in
    let c = six_fails (refusal_of_rule s) (index_ok s i) (names_ok s i) (all_below (samples_of p) q) (room_ok s i n) (refusal-most today s) (sym (samples-first s i n) ∙ e) in
    let l = not_all (samples_of p) q c in
    record { sample = first_not (samples_of p) q; within = l; lacks = first_fails (samples_of p) q l }

-- ---- two passes of a file that differ in the order of their stations alone

covered_swap : (s : List ℕ) (p : Pass) → all_covered_rule s (exchanged p) ≡ all_covered_rule s p
unfolding all_covered_rule sample_epoch_rule
covered_swap s p = refl

module _ (s : List ℕ) (i k : ℕ) (e : pass_of_rule s k ≡ exchanged (pass_of_rule s i)) (l : ltb k (count_of_rule s 3) ≡ ltb i (count_of_rule s 3)) where
  -- the same number
  pub pass-number_swap : (n : ℕ) → samples_number s k n ≡ samples_number s i n
  unfolding samples_number
  pass-number_swap n =
      let p = pass_of_rule s i in
      let a = has_id s 0 p.station1 in
      let b = has_id s 0 p.station2 in
      let r = has_id s 1 p.source in
      rw (e, l, covered_swap s p)
      (ap (λ (t : Bool). lowest (refusal_of_rule s ∷ unless (ltb i (count_of_rule s 3)) 5 ∷ unless t 5 ∷ unless (all_covered_rule s p) 6 ∷ unless (leb (samples_of p) n) 7 ∷ [])) (and_swap b a r))

  -- and each number of the room negated
  pub pass_swap : (j : ℕ) (room other : List ℤ) → samples_number s i (length room) ≡ 0 → samples_number s k (length other) ≡ 0 → j < samples_of (pass_of_rule s i) → get_or (samples_room s k other) j (pos 0) ≡ neg_ℤ (get_or (samples_room s i room) j (pos 0))
  unfolding sample_in
  pass_swap j room other g h m =
      room-sample s k j other h (rw e m)
      ∙ ap (λ (p : Pass). sample_in s p j) e
      ∙ sample_swap s (pass_of_rule s i) j
      ∙ ap neg_ℤ (sym (room-sample s i j room g m))
