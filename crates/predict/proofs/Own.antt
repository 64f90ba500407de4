-- Our own track: it is always well-formed, covers every sample, and predicts each within the tolerance.
use mathlib.Core.Path.{◌≡◌, refl, sym, ap, subst, ◌∙◌}
use mathlib.Core.Bool.{true}
use mathlib.Core.List.{List, ◌∷◌}
use mathlib.Core.Logic.{⊎_elim}
use Prim.Native.Nat.{ℕ, ◌+◌, ◌*◌, ◌-◌, ◌≤◌, ◌<◌}
use native.Mathlib.Omega.{arith}
use borrow.Author.Tests.{le-leb}
use lib.Dec.{leb}
use lib.ListN.{length}
use lib.IntN.{ℤ, pos, ◌+ℤ◌, ◌-ℤ◌, ◌*ℤ◌}
use lib.Signed.{◌≤ℤ◌}
use Rattle.whole.specs.Whole.{pos_part, neg_part, ∣◌∣, R}
use Rattle.whole.proofs.Linear.{le⇒, abs_sub, size_to, size_from_lem}
use Rattle.whole.proofs.Quote.{⟨◌⟩, #, ◌⊕◌, ◌⊝◌, ◌⊗◌, bal, by≡, by≤}
use Rattle.whole.proofs.Rounding.{R_mono, R_mul}
use Rattle.fit.specs.Line.{sample, Fits, Small}
use Rattle.fit.proofs.Tests.{lt_or, at_or}
use Rattle.track.specs.Segments.{Segment, Stands, flat}
use Rattle.track.specs.Rule.{RuledFrom}
use Rattle.track.specs.Made.{track_of}
use Rattle.track.specs.Answer.{in_range}
use Rattle.whole.proofs.Each.{below_all}
use Rattle.whole.proofs.Tests.{and_yes}
use Rattle.track.proofs.Ranged.{ranged}
use Rattle.track.proofs.Theorems.{track_of_ruled}
use Rattle.predict.specs.Lent.{lent_of, as_lent, predicted, place_in_rule, length_ok_rule, predictions_ok, segment_ok_rule, sound_from, answer_at, predict_outcome}
use Rattle.predict.specs.Ends.{reach}
use Rattle.predict.proofs.Reach.{round_reach, line_start}
use Rattle.predict.proofs.Numbers.{Good, good, covered, passed}
use Rattle.predict.proofs.Answers.{answer_sound}

-- a number z that is within 65,536·t of 65,536·v
module _ (z v : ℤ) (t : ℕ) (h : ∣ z -ℤ pos 65536 *ℤ v ∣ ≤ 65536 * t) where
  sides : (pos_part z + 65536 * neg_part v ≤ neg_part z + 65536 * pos_part v + 65536 * t) × (neg_part z + 65536 * pos_part v ≤ pos_part z + 65536 * neg_part v + 65536 * t)
  sides = size_from_lem (z -ℤ pos 65536 *ℤ v) (pos_part z + 65536 * neg_part v) (neg_part z + 65536 * pos_part v) (65536 * t) (omega (arith, bal (⟨ z ⟩ ⊝ # 65536 ⊗ ⟨ v ⟩))) h

  -- it rounds to a number within t of v
  pub rounds_near : ∣ R z 65536 -ℤ v ∣ ≤ t
  rounds_near = size_to (R z 65536 -ℤ v) (pos_part (R z 65536) + neg_part v) (neg_part (R z 65536) + pos_part v) t (omega (arith, bal (⟨ R z 65536 ⟩ ⊝ ⟨ v ⟩)))
      (omega (arith, le⇒ (R z 65536) (v +ℤ pos t) below, bal (⟨ v ⟩ ⊕ # t))) (omega (arith, le⇒ (v -ℤ pos t) (R z 65536) above, bal (⟨ v ⟩ ⊝ # t)))
    where
      below : R z 65536 ≤ℤ (v +ℤ pos t)
      below = subst (λ (y : ℤ). R z 65536 ≤ℤ y) (R_mul (v +ℤ pos t) 65536 (omega arith))
          (R_mono z ((v +ℤ pos t) *ℤ pos 65536) 65536 (omega arith) (by≤ ⟨ z ⟩ ((⟨ v ⟩ ⊕ # t) ⊗ # 65536) (omega (arith, sides))))

      above : (v -ℤ pos t) ≤ℤ R z 65536
      above = subst (λ (y : ℤ). y ≤ℤ R z 65536) (R_mul (v -ℤ pos t) 65536 (omega arith))
          (R_mono ((v -ℤ pos t) *ℤ pos 65536) z 65536 (omega arith) (by≤ ((⟨ v ⟩ ⊝ # t) ⊗ # 65536) ⟨ z ⟩ (omega (arith, sides))))

  -- and is itself in range
  pub near_size : ∣ v ∣ ≤ 130_000_000_000 → t ≤ 1_000_000 → ∣ z ∣ ≤ 8_519_745_536_000_000
  near_size l k = let a = size_from_lem v (pos_part v) (neg_part v) 130_000_000_000 (omega arith) l in
      size_to z (pos_part z) (neg_part z) 8_519_745_536_000_000 (omega arith) (omega (arith, sides)) (omega (arith, sides))

-- a segment that stands in a track has its place there, where n samples are the most, and its length
module _ {s : List ℤ} {t : ℕ} where
  pub stands-place : (n f : ℕ) (x : Segment) → length s ≤ n → Stands s t f x → place_in_rule n f (as_lent x) ≡ true
  stands-place n f x most a = and_yes
      (and_yes (le-leb f x.first (omega (arith, a.first))) (le-leb x.first f (omega (arith, a.first)))) (le-leb (f + x.count) n (omega (arith, a.within)))

  pub stands-length : (f : ℕ) (x : Segment) → Stands s t f x → length_ok_rule (as_lent x) ≡ true
  stands-length f x a = and_yes (le-leb 1 x.count a.some) (le-leb x.count 1024 a.cap)

module _ (s : List ℤ) (t : ℕ) (small : Small s) (tol : t ≤ 1_000_000) where
  -- each prediction of a segment that fits is within the tolerance of its sample
  pub prediction_near : (A r : ℤ) (f c j : ℕ) → Fits s t A r f c → j < c → ∣ R (A +ℤ r *ℤ pos j) 65536 -ℤ sample s (f + j) ∣ ≤ t
  prediction_near A r f c j h l = rounds_near (A +ℤ r *ℤ pos j) (sample s (f + j)) t (h j l)

  line_size : (A r : ℤ) (f c j : ℕ) → Fits s t A r f c → j < c → ∣ A +ℤ r *ℤ pos j ∣ ≤ 8_519_745_536_000_000
  line_size A r f c j h l = near_size (A +ℤ r *ℤ pos j) (sample s (f + j)) t (h j l) (small (f + j)) tol

  -- and within ±131,000,000,000
  pub prediction_size : (A r : ℤ) (f c j : ℕ) → Fits s t A r f c → j < c → leb ∣ R (A +ℤ r *ℤ pos j) 65536 ∣ 131_000_000_000 ≡ true
  prediction_size A r f c j h l = round_reach (A +ℤ r *ℤ pos j) ∙ le-leb ∣ A +ℤ r *ℤ pos j ∣ reach (omega (arith, line_size A r f c j h l))

  offset_size : (A r : ℤ) (f c : ℕ) → Fits s t A r f c → 1 ≤ c → ∣ A ∣ ≤ 8_519_745_536_000_000
  offset_size A r f c h l = subst (λ (z : ℤ). ∣ z ∣ ≤ 8_519_745_536_000_000) (line_start A r) (line_size A r f c 0 h l)

  rate_size : (A r : ℤ) (f c : ℕ) → Fits s t A r f c → 2 ≤ c → ∣ r ∣ ≤ 20_000_000_000_000_000
  rate_size A r f c h l = omega (
    arith,
    abs_sub (A +ℤ r *ℤ pos 1) A,
    ap (λ (z : ℤ). ∣ z ∣) (by≡ (⟨ A ⟩ ⊕ ⟨ r ⟩ ⊗ # 1 ⊝ ⟨ A ⟩) ⟨ r ⟩ (omega arith)),
    line_size A r f c 1 h (omega arith),
    offset_size A r f c h (omega arith),
  )

  rated : (x : Segment) (f : ℕ) → 1 ≤ x.count → Fits s t x.offset x.rate f x.count → (x.count ≡ 1 → x.rate ≡ pos 0) → ∣ x.rate ∣ ≤ 20_000_000_000_000_000
  rated x f p h z = ⊎_elim (λ l. rate_size x.offset x.rate f x.count h l)
      (λ e. subst (λ (r : ℤ). ∣ r ∣ ≤ 20_000_000_000_000_000) (sym (z (sym e))) (omega arith)) (at_or 1 x.count p)

  segment_sound : length s ≤ 4096 → (x : Segment) (f : ℕ) → Stands s t f x → (x.count ≡ 1 → x.rate ≡ pos 0) → segment_ok_rule f (as_lent x) ≡ true
  unfolding segment_ok_rule predictions_ok
  segment_sound few x f a z =
      and_yes
      (and_yes
      (and_yes (stands-place 4096 f x few a) (stands-length f x a))
      (and_yes
      (le-leb ∣ x.offset ∣ 9_000_000_000_000_000 (omega (arith, offset_size x.offset x.rate f x.count a.fits a.some)))
      (le-leb ∣ x.rate ∣ 20_000_000_000_000_000 (rated x f a.some a.fits z))))
      (below_all x.count (λ j. leb ∣ predicted (as_lent x) (pos j) ∣ 131_000_000_000) (λ j l. prediction_size x.offset x.rate f x.count j a.fits l))

  -- by the rule, from sample f on
  ruled_sound : (few : length s ≤ 4096) {f : ℕ} {xs : List Segment} → RuledFrom s t f xs → sound_from f (lent_of (flat xs)) ≡ true
  unfolding flat lent_of sound_from
  ruled_sound few (RuledFrom.end e) = refl
  ruled_sound few (RuledFrom.seg {f} {x} {xs} a b r) =
      and_yes (segment_sound few x f a b.alone) (ruled_sound few r)

  ruled_near : (few : length s ≤ 4096) {f : ℕ} {xs : List Segment} → RuledFrom s t f xs → (k : ℕ) → f ≤ k → k < length s
      → ((answer_at (lent_of (flat xs)) k).refusal ≡ pos 0) × (∣ (answer_at (lent_of (flat xs)) k).value -ℤ sample s k ∣ ≤ t)
  unfolding flat lent_of
  ruled_near few (RuledFrom.end e) k h m = absurd (omega arith)
  ruled_near few (RuledFrom.seg {f} {x} {xs} a b r) k h m = pick (ruled_near few r k)
    where
      ok : Good f (as_lent x)
      ok = good f (as_lent x) (segment_sound few x f a b.alone)

      place : (f k : ℕ) → f ≤ k → f + (k - f) ≡ k
      place f k h = omega arith

      pick : (f + x.count ≤ k → k < length s → ((answer_at (lent_of (flat xs)) k).refusal ≡ pos 0) × (∣ (answer_at (lent_of (flat xs)) k).value -ℤ sample s k ∣ ≤ t))
          → ((answer_at (as_lent x ∷ lent_of (flat xs)) k).refusal ≡ pos 0) × (∣ (answer_at (as_lent x ∷ lent_of (flat xs)) k).value -ℤ sample s k ∣ ≤ t)
      pick later = ⊎_elim
          (λ i. rw (covered f (as_lent x) ok (lent_of (flat xs)) k h i) (
            refl,
            subst (λ (n : ℕ). ∣ predicted (as_lent x) (pos (k - f)) -ℤ sample s n ∣ ≤ t) (place f k h)
                (prediction_near x.offset x.rate f x.count (k - f) a.fits (omega arith)),
          ))
          (λ i. rw (passed f (as_lent x) ok (lent_of (flat xs)) k h i) (later i m))
          (lt_or k (f + x.count))

-- THE LAWS of our own track, of samples and a tolerance in range
module _ (s : List ℤ) (t : ℤ) (h : in_range s t ≡ true) where
  -- it is always well-formed for `predict`
  pub own_sound : sound_from 0 (lent_of (flat (track_of s (pos_part t)))) ≡ true
  own_sound = let g = ranged s t h in ruled_sound s (pos_part t) g.small g.tol g.few (track_of_ruled s (pos_part t) g.small g.tol)

  -- and predicts every sample, within the tolerance
  pub own_near : (k : ℕ) → k < length s
      → ((predict_outcome (flat (track_of s (pos_part t))) k).refusal ≡ pos 0) × (∣ (predict_outcome (flat (track_of s (pos_part t))) k).value -ℤ sample s k ∣ ≤ pos_part t)
  own_near k l = let g = ranged s t h in rw (answer_sound (flat (track_of s (pos_part t))) k own_sound) (ruled_near s (pos_part t) g.small g.tol g.few (track_of_ruled s (pos_part t) g.small g.tol) k (omega arith) l)
