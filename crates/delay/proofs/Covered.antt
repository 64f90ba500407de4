-- What it gives that an accepted file covers a day, or two days. Assumes nothing.
use mathlib.Core.Path.{◌≡◌, sym, ap, ap₂, subst, ◌∙◌}
use mathlib.Core.Bool.{Bool, true, ◌&&◌}
use mathlib.Core.List.{List}
use Prim.Native.Nat.{ℕ, ◌+◌, ◌-◌, ◌≤◌, ◌<◌}
use native.Mathlib.Nat.{le_trans}
use native.Mathlib.Omega.{arith}
use borrow.Author.Tests.{lt-ltb, ltb-true}
use lib.Dec.{lit≤}
use lib.IntN.{ℤ, pos, ◌+ℤ◌}
use lib.Signed.{◌≤ℤ◌}
use mir.Syntax.{w64}
use mir.Val.{to_z, of_z}
use Rattle.whole.specs.Whole.{pos_part, neg_part, ∣◌∣}
use Rattle.whole.proofs.Linear.{zarith, and_true, add_law, eq⇒}
use Rattle.whole.proofs.Machine.{is}
use Rattle.earth.specs.declared.time.Epoch.{Epoch}
use Rattle.fields.specs.Records.{InPass}
use Rattle.fields.specs.Ranges.{Holds, mjd, millisecond}
use Rattle.earth.proofs.Floors.{in_abs, leaf}
use Rattle.whole.specs.Each.{all_below}
use Rattle.sections.specs.Layouts.{places}
use Rattle.sections.specs.File.{refusal_of_rule, count_of_rule, field_at_rule}
use Rattle.whole.proofs.Each.{below_each, below_all}
use Rattle.whole.proofs.Tests.{and_yes, same_test}
use Rattle.fields.specs.declared.Day.{Day}
use Rattle.fields.specs.declared.Pass.{Pass}
use Rattle.session.specs.Records.{place_by_rule, day_by}
use Rattle.session.proofs.Laws.{place_has, day-plus, day-place}
use Rattle.wave.specs.Bounds.{InRecord}
use Rattle.wave.specs.Values.{InEarth}
use Rattle.wave.specs.Keeping.{reduced_of}
use Rattle.wave.specs.DayValues.{earth_of}
use Rattle.wave.proofs.DayLaws.{earth_size}
use Rattle.wave.proofs.Marks.{earth_reduced}
use Rattle.delay.specs.declared.records.Days.{Days}
use Rattle.delay.specs.Calls.{samples_of, all_covered_rule}
use Rattle.delay.specs.Sessions.{has_id, covers, earth_in_rule, sample_epoch_rule}
use Rattle.delay.proofs.Accepted.{day_by_in, has_day_in}
use Rattle.delay.proofs.Epochs.{samples-count, sample-days, first-day}

module _ (s : List ℕ) (d : ℤ) (accepted : refusal_of_rule s ≡ 0) (c : covers s d ≡ true) where
  pub both_there : (has_id s 2 d ≡ true) × (has_id s 2 (d +ℤ pos 1) ≡ true)
  unfolding covers
  both_there = and_true (has_id s 2 d) (has_id s 2 (d +ℤ pos 1)) c

  pub day_in_lem : Holds mjd d
  day_in_lem = has_day_in s accepted d both_there.0

  pub day-small : ∣ d ∣ ≤ 1_000_000
  day-small = le_trans (in_abs d day_in_lem) (lit≤ tt)

  pub day_back : to_z w64 (of_z w64 d) ≡ d
  day_back = is (leaf d day_in_lem) tt

  -- the records of the day and of the next, with UT1R
  pub today_record : InRecord (reduced_of (day_by s d))
  today_record = day_by_in s accepted d both_there.0

  pub next_record : InRecord (reduced_of (day_by s (d +ℤ pos 1)))
  next_record = day_by_in s accepted (d +ℤ pos 1) both_there.1

-- the same, once they were read
module _ (s : List ℕ) (e : Epoch) (accepted : refusal_of_rule s ≡ 0) (c : covers s e.day ≡ true) (d : Days) (file_is : d.session.file.now ≡ s) (day_is : d.day ≡ to_z w64 (of_z w64 e.day)) where
  today-is : d.today ≡ reduced_of (day_by s e.day)
  today-is = d.today_is ∙ ap₂ (λ (f : List ℕ) (x : ℤ). reduced_of (day_by f x)) file_is (day_is ∙ day_back s e.day accepted c)

  next-is : d.next ≡ reduced_of (day_by s (e.day +ℤ pos 1))
  next-is = d.next_is ∙ ap₂ (λ (f : List ℕ) (x : ℤ). reduced_of (day_by f (x +ℤ pos 1))) file_is (day_is ∙ day_back s e.day accepted c)

  pub today_in : InRecord d.today
  today_in = rw today-is (today_record s e.day accepted c)

  pub next_in : InRecord d.next
  next_in = rw next-is (next_record s e.day accepted c)

  pub earth_by : earth_of d.today d.next e ≡ earth_in_rule s e
  unfolding earth_in_rule
  earth_by = ap₂ (λ (x y : Day). earth_of x y e) today-is next-is ∙ earth_reduced (day_by s e.day) (day_by s (e.day +ℤ pos 1)) e

-- the earth at an epoch that is covered
pub earth_in_size : (s : List ℕ) (e : Epoch) → refusal_of_rule s ≡ 0 → covers s e.day ≡ true → Holds millisecond e.ms → InEarth (earth_in_rule s e)
unfolding earth_in_rule
earth_in_size s e h c m =
    let today = today_record s e.day h c in
    let next = next_record s e.day h c in
    subst InEarth (earth_reduced (day_by s e.day) (day_by s (e.day +ℤ pos 1)) e) (earth_size (reduced_of (day_by s e.day)) (reduced_of (day_by s (e.day +ℤ pos 1))) e today next m)

-- ---- the file's days follow one another: between two that are covered each day is
module _ (s : List ℕ) (accepted : refusal_of_rule s ≡ 0) where
  from_first : (d : ℤ) → has_id s 2 d ≡ true → d ≡ field_at_rule places s 2 0 0 +ℤ pos (place_by_rule s 2 d)
  from_first d e = let l = ltb-true (place_by_rule s 2 d) (count_of_rule s 2) e in sym (place_has s 2 d l) ∙ day-plus s accepted (place_by_rule s 2 d) l

  day-between : (a b d : ℤ) → has_id s 2 a ≡ true → has_id s 2 b ≡ true → a ≤ℤ d → d ≤ℤ b → has_id s 2 d ≡ true
  day-between a b d ha hb l m =
      let f = field_at_rule places s 2 0 0 in
      let i = place_by_rule s 2 a in
      let j = place_by_rule s 2 b in
      let k : ℕ = pos_part d + neg_part f - (pos_part f + neg_part d) in
      let u : j < count_of_rule s 2 = ltb-true j (count_of_rule s 2) hb in
      let ea = eq⇒ a (f +ℤ pos i) (from_first a ha) in
      let eb = eq⇒ b (f +ℤ pos j) (from_first b hb) in
      let e : d ≡ f +ℤ pos k = omega (zarith, l, ea, add_law f (pos i), add_law f (pos k)) in
      let h : k < count_of_rule s 2 = omega (zarith, u, m, eb, add_law f (pos j)) in
      lt-ltb (place_by_rule s 2 d) (count_of_rule s 2) (rw (day-place s accepted d k h e) h)

  pub covered_between : (a b d : ℤ) → covers s a ≡ true → covers s b ≡ true → a ≤ℤ d → d ≤ℤ b → covers s d ≡ true
  unfolding covers
  covered_between a b d ha hb l m =
      let today = (and_true (has_id s 2 a) (has_id s 2 (a +ℤ pos 1)) ha).0 in
      let next = (and_true (has_id s 2 b) (has_id s 2 (b +ℤ pos 1)) hb).1 in
      and_yes
      (day-between a (b +ℤ pos 1) d today next l (omega (zarith, m, add_law b (pos 1))))
      (day-between a (b +ℤ pos 1) (d +ℤ pos 1) today next (omega (zarith, l, add_law d (pos 1))) (omega (zarith, m, add_law b (pos 1), add_law d (pos 1))))

  -- so the first sample of a pass and its last tell of all
  pub ends_tell : (p : Pass) → InPass p → (covers s p.mjd && covers s (sample_epoch_rule p (samples_of p - 1)).day) ≡ all_covered_rule s p
  unfolding all_covered_rule
  ends_tell p h =
      let n = samples_of p in
      let q : ℕ → Bool = λ (i : ℕ). covers s (sample_epoch_rule p i).day in
      let c = samples-count p h in
      let last : n - 1 < n = omega (arith, c.0) in
      same_test (covers s p.mjd && q (n - 1)) (all_below n q)
      (λ e.
      let t = and_true (covers s p.mjd) (q (n - 1)) e in
      below_all n q
      (λ i l.
      let z : 0 + i ≡ i = omega arith in
      let after : p.mjd ≤ℤ (sample_epoch_rule p i).day = rw (first-day p h, z) at (sample-days p 0 i h (omega (arith, l, c.1))) in
      let r : i + (n - 1 - i) ≡ n - 1 = omega (arith, l) in
      let before : (sample_epoch_rule p i).day ≤ℤ (sample_epoch_rule p (n - 1)).day = rw r at (sample-days p i (n - 1 - i) h (omega (arith, c.1))) in
      covered_between p.mjd (sample_epoch_rule p (n - 1)).day (sample_epoch_rule p i).day t.0 t.1 after before))
      (λ e. and_yes (ap (covers s) (sym (first-day p h)) ∙ below_each n 0 q c.0 e) (below_each n (n - 1) q last e))

  pub first_covered : (p : Pass) → InPass p → all_covered_rule s p ≡ true → covers s p.mjd ≡ true
  first_covered p h e = (and_true (covers s p.mjd) (covers s (sample_epoch_rule p (samples_of p - 1)).day) (ends_tell p h ∙ e)).0
