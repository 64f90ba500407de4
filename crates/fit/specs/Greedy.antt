-- For the code: "Each segment, in order, is the longest that fits from its start", over any test `fit start count` of a run of samples. That the runs so
-- made are the fewest is proved in proofs/Greedy.antt, for any test that holds of one sample and of each part of a run of which it holds.
use Rattle.std.specs.Prelude.{Bool, cond, List, [], ◌∷◌, ℕ, zero, suc, ◌+◌, ◌-◌, ◌≤◌, min, ◌≡◌, T, ltb}

-- the largest count from c to c + k that is reached by adding one sample at a time while the run fits
unfoldable pub grow : (ℕ → ℕ → Bool) → ℕ → ℕ → ℕ → ℕ
grow fit zero s c = c
grow fit (suc k) s c = let r = grow fit k s (suc c) in cond (fit s (suc c)) r c

-- the longest run from s, of n samples with at most `cap` in a run
unfoldable pub longest : (ℕ → ℕ → Bool) → ℕ → ℕ → ℕ → ℕ
longest fit cap n s = grow fit (min cap (n - s) - 1) s 1

-- the counts of the runs that cover s .. n - 1, each the longest; at most k of them
unfoldable pub counts : (ℕ → ℕ → Bool) → ℕ → ℕ → ℕ → ℕ → List ℕ
counts fit cap n zero s = []
counts fit cap n (suc k) s =
    let r = longest fit cap n s ∷ counts fit cap n k (s + longest fit cap n s) in
    cond (ltb s n) r []

-- any cover of s .. n - 1 by runs that fit
pub data Cover (fit : ℕ → ℕ → Bool) (cap n : ℕ) : ℕ → List ℕ → Type 0 where
  done : {s : ℕ} → s ≡ n → Cover fit cap n s []
  step : {s c : ℕ} {cs : List ℕ} → 1 ≤ c → c ≤ cap → s + c ≤ n → T (fit s c) → Cover fit cap n (s + c) cs → Cover fit cap n s (c ∷ cs)
