-- For the code: the one list of segments that the rule allows, made run by run. proofs/Theorems.antt shows that it is the rule's, so no reader need believe this file.
use Rattle.std.specs.Prelude.{ℕ, zero, suc, ◌+◌, ◌<◌, ◌≡◌, List, [], ◌∷◌, length, get_or, ℤ}
use Rattle.fit.specs.Greedy.{longest, counts}
use Rattle.fit.specs.Rates.{fit_of, least, offset_of, rate_of_rule}
use Rattle.track.specs.Segments.{Segment}

unfoldable pub seg_of : List ℤ → ℕ → ℕ → ℕ → Segment
seg_of s t f c = record { first = f; count = c; offset = offset_of s t f c; rate = rate_of_rule s t f c }

unfoldable pub segs_of : List ℤ → ℕ → ℕ → List ℕ → List Segment
segs_of s t f [] = []
segs_of s t f (c ∷ cs) = seg_of s t f c ∷ segs_of s t (f + c) cs

unfoldable pub track_of : List ℤ → ℕ → List Segment
track_of s t = segs_of s t 0 (counts (fit_of s t) 1024 (length s) (length s) 0)

-- ---- run by run

-- the longest run from f
abbrev pub run_of : List ℤ → ℕ → ℕ → ℕ
run_of s t f = longest (fit_of s t) 1024 (length s) f

-- where the run i starts
unfoldable pub start_at : List ℤ → ℕ → ℕ → ℕ
start_at s t zero = 0
start_at s t (suc i) = start_at s t i + run_of s t (start_at s t i)

-- the lent lists hold the counts and the least rates of the first m runs
abbrev pub Stored : List ℤ → ℕ → List ℕ → List ℕ → ℕ → Type 0
Stored s t lengths rates m = (i : ℕ) → i < m
    → (get_or lengths i 0 ≡ run_of s t (start_at s t i)) × (get_or rates i 0 ≡ least s t (start_at s t i) (run_of s t (start_at s t i)))
