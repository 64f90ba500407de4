-- THE THEOREMS of demand 3: the rule allows exactly one list, which is `trackOf`; it is a track of the samples; and no track of the samples has fewer segments.
use mathlib.Core.Path.{◌≡◌, refl, sym, ap, ap₂, subst, ◌∙◌}
use mathlib.Core.List.{List, [], ◌∷◌, map}
use mathlib.Core.Logic.{◌↔◌, ⊎_elim}
use Prim.Native.Nat.{ℕ, zero, suc, ◌+◌, ◌*◌, ◌≤◌, ◌<◌}
use native.Mathlib.Omega.{arith}
use lib.Dec.{T, ltb, ltb→lt, nltb→le}
use lib.ListN.{length, length-map}
use lib.IntN.{ℤ, pos}
use Rattle.fit.specs.Line.{Fits, Small}
use Rattle.fit.specs.Greedy.{longest, counts, Cover, done, step}
use Rattle.fit.specs.Rates.{fit_of, rate_of_rule}
use Rattle.fit.proofs.Tests.{by_test, at_or}
use Rattle.fit.proofs.Diff.{≤ℤ-antisym}
use Rattle.fit.proofs.Greedy.{longest-pos, longest-fits, longest-cap, longest-within, longest-most, fewest, counts_half}
use Rattle.fit.proofs.Lines.{fits_one, fits-two, fits-some, fit_of_complete, line-fits, rate-least, rate-alone, offset-least}
use Rattle.track.specs.Segments.{Segment, Stands, TrackFrom, IsTrack}
use Rattle.track.specs.Rule.{RuledFrom, Ruled}
use Rattle.track.specs.Made.{seg_of, segs_of, track_of}

pub ruled_track : {s : List ℤ} {t f : ℕ} {xs : List Segment} → RuledFrom s t f xs → TrackFrom s t f xs
ruled_track (RuledFrom.end e) = TrackFrom.end e
ruled_track (RuledFrom.seg a b r) = TrackFrom.seg a (ruled_track r)

segs_of-length : (s : List ℤ) (t f : ℕ) (cs : List ℕ) → length (segs_of s t f cs) ≡ length cs
unfolding segs_of
segs_of-length s t f [] = refl
segs_of-length s t f (c ∷ cs) = ap suc (segs_of-length s t (f + c) cs)

module _ (s : List ℤ) (t : ℕ) (small : Small s) (tol : t ≤ 1_000_000) where
  one : (f : ℕ) → T (fit_of s t f 1)
  one = fits_one s t small tol

  part : (f c k d : ℕ) → 1 ≤ d → k + d ≤ c → T (fit_of s t f c) → T (fit_of s t (f + k) d)
  part = fits-some s t small tol

  stands-fit : (f : ℕ) (x : Segment) → Stands s t f x → T (fit_of s t f x.count)
  stands-fit f x a = fit_of_complete s t small tol x.offset x.rate f x.count a.some a.fits

  cover : {f : ℕ} {xs : List Segment} → TrackFrom s t f xs → Cover (fit_of s t) 1024 (length s) f (map (λ (x : Segment). x.count) xs)
  cover (TrackFrom.end e) = done e
  cover (TrackFrom.seg {f} {x} {xs} a r) = step a.some a.cap a.within (stands-fit f x a) (cover r)

  head : (f c : ℕ) (xs : List Segment) → 1 ≤ c → c ≤ 1024 → f + c ≤ length s → T (fit_of s t f c) → ((y : Segment) → Stands s t f y → y.count ≤ c)
      → RuledFrom s t (f + c) xs → RuledFrom s t f (seg_of s t f c ∷ xs)
  unfolding seg_of
  head f c xs p q w k m r = RuledFrom.seg {x = seg_of s t f c}
      (record { first = refl; some = p; cap = q; within = w; fits = line-fits s t small tol f c k })
      (record {
        longest = m;
        least-rate = λ h A r. rate-least s t small tol A r f c h;
        alone = λ e. subst (λ (z : ℕ). rate_of_rule s t f z ≡ pos 0) (sym e) (rate-alone s t small tol f);
        least-offset = λ A. offset-least s t small tol A f c p;
      }) r

  ruled : (k f : ℕ) → f ≤ length s → length s ≤ f + k → RuledFrom s t f (segs_of s t f (counts (fit_of s t) 1024 (length s) k f))
  unfolding counts segs_of
  ruled zero f h w = RuledFrom.end {f = f} (omega arith)
  ruled (suc k) f h w =
      by_test (ltb f (length s)) (c ∷ counts (fit_of s t) 1024 (length s) k (f + c)) [] (λ z. RuledFrom s t f (segs_of s t f z))
      (λ u. let l : f < length s = ltb→lt f (length s) u in
      let v : f + c ≤ length s = longest-within (fit_of s t) 1024 (length s) (omega arith) one part f l in
      head f c (segs_of s t (f + c) (counts (fit_of s t) 1024 (length s) k (f + c))) c_pos
      (longest-cap (fit_of s t) 1024 (length s) (omega arith) one part f l) v
      (longest-fits (fit_of s t) 1024 (length s) (omega arith) one part f)
      (λ y a. longest-most (fit_of s t) 1024 (length s) (omega arith) one part f y.count a.some a.cap a.within (stands-fit f y a))
      (ruled k (f + c) v (omega (arith, c_pos))))
      (λ u. let l : length s ≤ f = nltb→le f (length s) u in RuledFrom.end {f = f} (omega arith))
    where
      c : ℕ
      c = longest (fit_of s t) 1024 (length s) f

      c_pos : 1 ≤ c
      c_pos = longest-pos (fit_of s t) 1024 (length s) (omega arith) one part f

  -- `trackOf` goes by the rule, so it is a track of the samples
  pub track_of_ruled : Ruled s t (track_of s t)
  unfolding track_of
  track_of_ruled = ruled (length s) 0 (omega arith) (omega arith)

  pub track_of-track : IsTrack s t (track_of s t)
  track_of-track = ruled_track track_of_ruled

  -- every track of the samples has at least as many segments
  pub track_of-fewest : (xs : List Segment) → IsTrack s t xs → length (track_of s t) ≤ length xs
  unfolding track_of
  track_of-fewest xs h = omega (
    arith,
    segs_of-length s t 0 (counts (fit_of s t) 1024 (length s) (length s) 0),
    fewest (fit_of s t) 1024 (length s) (omega arith) one part (map (λ (x : Segment). x.count) xs) (cover h),
    length-map xs (λ (x : Segment). x.count),
  )

  -- there are at most half as many segments as samples, rounded up, so 2,048 always suffice
  pub track_of_half : 2 * length (track_of s t) ≤ length s + 1
  unfolding track_of
  track_of_half = omega (
    arith,
    segs_of-length s t 0 (counts (fit_of s t) 1024 (length s) (length s) 0),
    counts_half (fit_of s t) 1024 (length s) (omega arith) one part (omega arith) (fits-two s t small tol) (length s) 0 (omega arith),
  )

-- ---- the rule leaves one track

same-seg : (x y : Segment) → x.first ≡ y.first → x.count ≡ y.count → x.offset ≡ y.offset → x.rate ≡ y.rate → x ≡ y
same-seg x y p q u v = λ i. record { first = p i; count = q i; offset = u i; rate = v i }

pub ruled_unique : {s : List ℤ} {t f : ℕ} {xs ys : List Segment} → RuledFrom s t f xs → RuledFrom s t f ys → xs ≡ ys
ruled_unique (RuledFrom.end e) (RuledFrom.end e') = refl
ruled_unique (RuledFrom.end e) (RuledFrom.seg {x} a b r) = absurd (omega (arith, a.some, a.within))
ruled_unique (RuledFrom.seg {x} a b r) (RuledFrom.end e') = absurd (omega (arith, a.some, a.within))
ruled_unique {s} {t} {f} (RuledFrom.seg {x} {xs} a b r) (RuledFrom.seg {x = y} {xs = ys} a' b' r') =
    ap₂ (λ (h : Segment) (tl : List Segment). h ∷ tl) (same-seg x y (a.first ∙ sym a'.first) n u v)
    (ruled_unique r (subst (λ (k : ℕ). RuledFrom s t (f + k) ys) (sym n) r'))
  where
    n : x.count ≡ y.count
    n = omega (arith, b.longest y a', b'.longest x a)

    gx : Fits s t x.offset x.rate f y.count
    gx = subst (λ (k : ℕ). Fits s t x.offset x.rate f k) n a.fits

    gy : Fits s t y.offset y.rate f x.count
    gy = subst (λ (k : ℕ). Fits s t y.offset y.rate f k) (sym n) a'.fits

    v : x.rate ≡ y.rate
    v = ⊎_elim
        (λ h. ≤ℤ-antisym x.rate y.rate (b.least-rate h y.offset y.rate gy) (b'.least-rate (omega (arith, n)) x.offset x.rate gx))
        (λ h. b.alone (sym h) ∙ sym (b'.alone (omega (arith, n)))) (at_or 1 x.count a.some)

    u : x.offset ≡ y.offset
    u = ≤ℤ-antisym x.offset y.offset (b.least-offset y.offset (subst (λ (q : ℤ). Fits s t y.offset q f x.count) (sym v) gy))
        (b'.least-offset x.offset (subst (λ (q : ℤ). Fits s t x.offset q f y.count) v gx))

-- the rule allows exactly one list of segments, and it is `trackOf`
pub rule_exactly : (s : List ℤ) (t : ℕ) → Small s → t ≤ 1_000_000 → (xs : List Segment) → Ruled s t xs ↔ (xs ≡ track_of s t)
rule_exactly s t small tol xs = (
  (λ r. ruled_unique r (track_of_ruled s t small tol)),
  (λ e. subst (λ (ys : List Segment). Ruled s t ys) (sym e) (track_of_ruled s t small tol)),
)
