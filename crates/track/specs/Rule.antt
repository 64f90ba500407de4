-- Document 01, 'Track': the rule. proofs/Theorems.antt shows that it allows exactly one list of segments, which is `trackOf` of specs/Made.antt.
use Rattle.std.specs.Prelude.{ℕ, ◌+◌, ◌≤◌, ◌≡◌, List, [], ◌∷◌, length, ℤ, pos, ◌≤ℤ◌}
use Rattle.fit.specs.Line.{Fits}
use Rattle.track.specs.Segments.{Segment, Stands}

-- "the longest that fits from its start; r is the least that fits (0 for a single sample); A is the least for that r"
pub record Chosen (s : List ℤ) (t f : ℕ) (x : Segment) : Type 0 where
  pub longest : (y : Segment) → Stands s t f y → y.count ≤ x.count
  pub least-rate : 2 ≤ x.count → (A r : ℤ) → Fits s t A r f x.count → x.rate ≤ℤ r
  pub alone : x.count ≡ 1 → x.rate ≡ pos 0
  pub least-offset : (A : ℤ) → Fits s t A x.rate f x.count → x.offset ≤ℤ A

-- "Each segment, in order": from sample f on
pub data RuledFrom (s : List ℤ) (t : ℕ) : ℕ → List Segment → Type 0 where
  end : {f : ℕ} → f ≡ length s → RuledFrom s t f []
  seg : {f : ℕ} {x : Segment} {xs : List Segment} → Stands s t f x → Chosen s t f x → RuledFrom s t (f + x.count) xs → RuledFrom s t f (x ∷ xs)

abbrev pub Ruled : List ℤ → ℕ → List Segment → Type 0
Ruled s t xs = RuledFrom s t 0 xs
