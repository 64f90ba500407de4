-- Document 01, 'Track': what a segment is, and what a track of given samples is: any track, not only the one that the rule makes.
use Rattle.std.specs.Prelude.{ℕ, ◌+◌, ◌≤◌, ◌≡◌, List, [], ◌∷◌, length, ℤ, pos}
use Rattle.fit.specs.Line.{Fits}

-- "A segment is four numbers: first sample, samples (1 to 1,024), offset A, rate r, both in 1/65,536 ps."
pub record Segment : Type 0 where
  pub first : ℕ
  pub count : ℕ
  pub offset : ℤ
  pub rate : ℤ

-- a segment that may stand at sample f in a track of the samples s with the tolerance t: it starts there, has "1 to 1,024" samples, all of them given, and fits
pub record Stands (s : List ℤ) (t f : ℕ) (x : Segment) : Type 0 where
  pub first : x.first ≡ f
  pub some : 1 ≤ x.count
  pub cap : x.count ≤ 1024
  pub within : f + x.count ≤ length s
  pub fits : Fits s t x.offset x.rate f x.count

-- "A track of given samples starts at sample 0, its segments join without gap or overlap, and its last segment ends at the last sample":
-- the part of it from sample f on
pub data TrackFrom (s : List ℤ) (t : ℕ) : ℕ → List Segment → Type 0 where
  end : {f : ℕ} → f ≡ length s → TrackFrom s t f []
  seg : {f : ℕ} {x : Segment} {xs : List Segment} → Stands s t f x → TrackFrom s t (f + x.count) xs → TrackFrom s t f (x ∷ xs)

abbrev pub IsTrack : List ℤ → ℕ → List Segment → Type 0
IsTrack s t xs = TrackFrom s t 0 xs

-- the numbers of a list of segments, four to a segment
unfoldable pub flat : List Segment → List ℤ
flat [] = []
flat (x ∷ xs) = pos x.first ∷ pos x.count ∷ x.offset ∷ x.rate ∷ flat xs
