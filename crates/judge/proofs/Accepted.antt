-- THE THEOREMS of L7: a lent track is accepted exactly if it is a track of the samples; our own is, for its samples; and no accepted one has fewer segments than ours.
use mathlib.Core.Path.{◌≡◌, refl, sym, ap, subst, ◌∙◌}
use mathlib.Core.Bool.{Bool, true, false}
use mathlib.Core.List.{List, [], ◌∷◌, ◌++◌, map}
use mathlib.Core.Logic.{◌↔◌, ⊎_elim}
use Prim.Native.Nat.{ℕ, ◌+◌, ◌*◌, ◌/◌, ◌≤◌, ◌<◌}
use native.Mathlib.Decide.{ℕ_discrete}
use native.Mathlib.Omega.{arith}
use borrow.Author.Tests.{le-leb, leb-true}
use lib.ListN.{length, take, drop, length-map}
use lib.Seq.{take-append_seam}
use lib.IntN.{ℤ, pos}
use Rattle.whole.specs.Whole.{pos_part, ∣◌∣}
use Rattle.whole.specs.declared.Number.{Number}
use Rattle.whole.proofs.Each.{below_each, below_all}
use Rattle.whole.proofs.Tests.{and_yes}
use Rattle.fit.specs.Line.{apart}
use Rattle.fit.proofs.Tests.{lt_or}
use Rattle.track.specs.Segments.{Segment, Stands, TrackFrom, flat}
use Rattle.track.specs.Made.{track_of}
use Rattle.track.specs.Answer.{in_range, Outcome, refused, outcome}
use Rattle.track.specs.Promises.{TrackPromise}
use Rattle.track.proofs.Answers as track
use Rattle.track.proofs.Ranged.{ranged}
use Rattle.track.proofs.Runs.{flat-length}
use Rattle.track.proofs.Theorems.{track_of-track, track_of-fewest}
use Rattle.predict.specs.declared.segment.Lent.{Lent}
use Rattle.predict.specs.Lent.{lent_of, as_lent, sound_from}
use Rattle.predict.proofs.Numbers.{Placed, good, sound_head, lent_of_flat, lent_of_length}
use Rattle.predict.proofs.Own.{stands-place, stands-length, own_sound}
use Rattle.judge.specs.declared.Judgement.{Judgement}
use Rattle.judge.specs.Judgement.{near_at, samples_ok_rule, fault_of_rule, verdict, accepted, judged_from, ranges_ok_rule, no_judgement, judge_outcome}
use Rattle.judge.specs.Promises.{JudgePromise}
use Rattle.judge.specs.Accepted.{Right}
use Rattle.judge.proofs.Judging.{Sound, fault_none, fault_sound, sound_placed, judged_fault, judged_next, judged_early, judged_end}
use Rattle.judge.proofs.Answers.{answer_2, answer_9, answer_0}

module _ (s : List ℤ) (t : ℕ) where
  -- ---- a track of the samples is accepted

  stands_sound : (f : ℕ) (x : Segment) → Stands s t f x → Sound s t f (as_lent x)
  unfolding samples_ok_rule
  stands_sound f x a = record {
    place = stands-place (length s) f x (omega arith) a;
    long = stands-length f x a;
    near = below_all x.count (near_at s (65536 * t) (as_lent x) f) (λ j l. le-leb ∣ apart s x.offset x.rate f j ∣ (65536 * t) (a.fits j l));
  }

  pub track-accepted : {f : ℕ} {ys : List Segment} → TrackFrom s t f ys → (i : ℕ) → judged_from s t f i (map as_lent ys) ≡ accepted
  track-accepted (TrackFrom.end {f} e) i = judged_end s t f i e
  track-accepted (TrackFrom.seg {f} {x} {xs} a r) i =
      judged_next s t f (as_lent x) i (map as_lent xs) (fault_none s t f (as_lent x) (stands_sound f x a)) ∙ track-accepted r (i + 1)

  -- ---- what is accepted is a track of the samples

  pub record Track (f : ℕ) (xs : List Lent) : Type 0 where
    pub segments : List Segment
    pub same : xs ≡ map as_lent segments
    pub is_track : TrackFrom s t f segments

  -- the fault that an accepted track has
  no_fault : (n i : ℕ) → verdict n i ≡ accepted → n ≡ 0
  no_fault n i e = let z : pos n ≡ pos 0 = ap (λ (j : Judgement). j.fault) e in cc

  -- a sound segment, as a segment of a track
  module _ (f : ℕ) (x : Lent) (g : Sound s t f x) where
    stands : Placed (length s) f x
    stands = sound_placed s t f x g

    abbrev segment : Segment
    segment = record { first = f; count = pos_part x.count; offset = x.offset; rate = x.rate }

    lent_back : x ≡ as_lent segment
    lent_back = λ i. record { first = stands.first i; count = stands.count i; offset = x.offset; rate = x.rate }

    stands-there : Stands s t f segment
    unfolding samples_ok_rule
    stands-there = record {
      first = refl;
      some = stands.some;
      cap = stands.cap;
      within = stands.room;
      fits = λ j l. leb-true ∣ apart s x.offset x.rate f j ∣ (65536 * t) (below_each (pos_part x.count) j (near_at s (65536 * t) x f) l g.near);
    }

    behind : (xs : List Lent) → Track (f + pos_part x.count) xs → Track f (x ∷ xs)
    behind xs r = record {
      segments = segment ∷ r.segments;
      same = λ i. lent_back i ∷ r.same i;
      is_track = TrackFrom.seg {x = segment} stands-there r.is_track;
    }

  pub accepted-track : (xs : List Lent) (f i : ℕ) → judged_from s t f i xs ≡ accepted → Track f xs
  accepted-track [] f i h = go (ℕ_discrete f (length s))
    where
      go : Dec (f ≡ length s) → Track f []
      go (yes e) = record { segments = []; same = refl; is_track = TrackFrom.end e }
      go (no n) = absurd (omega (arith, no_fault 1 i (sym (judged_early s t f i n) ∙ h)))
  accepted-track (x ∷ xs) f i h = go (ℕ_discrete (fault_of_rule s t f x) 0) (accepted-track xs (f + pos_part x.count) (i + 1))
    where
      go : Dec (fault_of_rule s t f x ≡ 0) → (judged_from s t (f + pos_part x.count) (i + 1) xs ≡ accepted → Track (f + pos_part x.count) xs) → Track f (x ∷ xs)
      go (yes e) rest = behind f x (fault_sound s t f x e) xs (rest (sym (judged_next s t f x i xs e) ∙ h))
      go (no n) rest = absurd (n (no_fault (fault_of_rule s t f x) i (sym (judged_fault s t f x i xs n) ∙ h)))

-- a number other than 0 is no judgement
not_refused : (n : ℕ) → no_judgement n ≡ accepted → n ≡ 0
not_refused n e = let z : pos n ≡ pos 0 = ap (λ (j : Judgement). j.refusal) e in cc

module _ (s : List ℤ) (t : ℤ) (numbers : List ℤ) where
  -- THE THEOREM: accepted exactly if samples and tolerance are such as `track` takes, offsets and rates are in their ranges, and the segments are those of a track of the samples
  pub accepted_exactly : (judge_outcome s t numbers ≡ accepted) ↔ Right s t numbers
  accepted_exactly = (fore (in_range s t) refl (ranges_ok_rule (lent_of numbers)) refl, back)
    where
      fore : (a : Bool) → a ≡ in_range s t → (b : Bool) → b ≡ ranges_ok_rule (lent_of numbers) → judge_outcome s t numbers ≡ accepted → Right s t numbers
      fore false p b q e = absurd (omega (arith, not_refused 2 (sym (answer_2 s t numbers (sym p)) ∙ e)))
      fore true p false q e = absurd (omega (arith, not_refused 9 (sym (answer_9 s t numbers (sym p) (sym q)) ∙ e)))
      fore true p true q e = let r = accepted-track s (pos_part t) (lent_of numbers) 0 0 (sym (answer_0 s t numbers (sym p) (sym q)) ∙ e) in
          record { call = sym p; ranges = sym q; segments = r.segments; same = r.same; is_track = r.is_track }

      back : Right s t numbers → judge_outcome s t numbers ≡ accepted
      back r = answer_0 s t numbers r.call r.ranges ∙ ap (judged_from s (pos_part t) 0 0) r.same ∙ track-accepted s (pos_part t) r.is_track 0

  -- an accepted track has at least as many segments as ours
  pub at_least : judge_outcome s t numbers ≡ accepted → length (track_of s (pos_part t)) ≤ length numbers / 4
  at_least e = let r = accepted_exactly.0 e in let g = ranged s t r.call in
      omega (arith, track_of-fewest s (pos_part t) g.small g.tol r.segments r.is_track, length-map r.segments as_lent, ap length r.same, lent_of_length numbers)

-- THE THEOREM, of the calls: what `track` answers is at most the number of segments of any track that `judge` accepts for the same samples and tolerance
pub no_fewer : (s : List ℤ) (t : ℤ) (numbers room : List ℤ) (j : Judgement) (r : Number) (after : List ℤ)
    → JudgePromise s t numbers j → j ≡ accepted → TrackPromise s t room r after → pos_part r.value ≤ length numbers / 4
no_fewer s t numbers room j r after p a q =
    subst (λ (o : Outcome). pos_part o.answer.value ≤ length numbers / 4) (sym q)
    (track.each_way s t room (λ o. pos_part o.answer.value ≤ length numbers / 4) (λ n. omega arith) (λ l. at_least s t numbers (sym p ∙ a)))

-- ---- our own track

sound_ranges : (at : ℕ) (xs : List Lent) → sound_from at xs ≡ true → ranges_ok_rule xs ≡ true
unfolding ranges_ok_rule
sound_ranges at [] h = refl
sound_ranges at (x ∷ xs) h = let k = sound_head at x xs h in and_yes (good at x k.0).in_range_lem (sound_ranges (at + pos_part x.count) xs k.1)

module _ (s : List ℤ) (t : ℤ) where
  pub own_accepted : in_range s t ≡ true → judge_outcome s t (flat (track_of s (pos_part t))) ≡ accepted
  own_accepted h = let g = ranged s t h in (accepted_exactly s t (flat (track_of s (pos_part t)))).1 (record {
    call = h;
    ranges = sound_ranges 0 (lent_of (flat (track_of s (pos_part t)))) (own_sound s t h);
    segments = track_of s (pos_part t);
    same = lent_of_flat (track_of s (pos_part t));
    is_track = track_of-track s (pos_part t) g.small g.tol;
  })

  module _ (room : List ℤ) where
    -- the numbers of the segments that a call wrote
    abbrev wrote : Outcome → List ℤ
    wrote o = take (4 * pos_part o.answer.value) o.room

    wrote_own : (h : in_range s t ≡ true) → length (track_of s (pos_part t)) ≤ length room / 4 → wrote (outcome s t room) ≡ flat (track_of s (pos_part t))
    wrote_own h l = let xs = track_of s (pos_part t) in
        ap wrote (track.answer_0 s t room h l) ∙ ap (λ (n : ℕ). take n (flat xs ++ drop (4 * length xs) room)) (sym (flat-length xs)) ∙ take-append_seam (flat xs) (drop (4 * length xs) room)

    written-accepted : (outcome s t room).answer.refusal ≡ pos 0 → judge_outcome s t (wrote (outcome s t room)) ≡ accepted
    written-accepted e = go (in_range s t) refl
      where
        -- a call that was refused gave another number
        other : (n : ℕ) → 0 < n → outcome s t room ≡ refused n room → judge_outcome s t (wrote (outcome s t room)) ≡ accepted
        other n l q = absurd (let z : pos n ≡ pos 0 = sym (ap (λ (o : Outcome). o.answer.refusal) q) ∙ e in let y : n ≡ 0 = cc in omega arith)

        go : (b : Bool) → b ≡ in_range s t → judge_outcome s t (wrote (outcome s t room)) ≡ accepted
        go false h = other 2 (omega arith) (track.answer_2 s t room (sym h))
        go true h = ⊎_elim (λ l. other 8 (omega arith) (track.answer_8 s t room (sym h) l))
            (λ l. ap (judge_outcome s t) (wrote_own (sym h) l) ∙ own_accepted (sym h)) (lt_or (length room / 4) (length (track_of s (pos_part t))))

-- THE THEOREM, of the calls: a track that `track` wrote is accepted for its samples and its tolerance
pub ours_accepted : (s : List ℤ) (t : ℤ) (room : List ℤ) (r : Number) (after : List ℤ) (j : Judgement)
    → TrackPromise s t room r after → r.refusal ≡ pos 0 → JudgePromise s t (take (4 * pos_part r.value) after) j → j ≡ accepted
ours_accepted s t room r after j p e q =
    q ∙ ap (λ (o : Outcome). judge_outcome s t (take (4 * pos_part o.answer.value) o.room)) p ∙ written-accepted s t room (sym (ap (λ (o : Outcome). o.answer.refusal) p) ∙ e)
