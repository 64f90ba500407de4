-- For the code: the chain of the samples that can still set the least rate. Sample k is the better at the rate p the lower N * k + g (f + k) - p * k is; the
-- later of two is the better from a rate on, and the chain keeps that rate. `x` holds the samples' places in the run, `v` their tilted values
-- (N + 1) * k + g (f + k), `q` those rates: tilted by one more than N, a least rate is one difference, divided, with nothing added to round it up.
use Rattle.std.specs.Prelude.{◌≡◌, List, ◌↔◌, ℕ, ◌+◌, ◌*◌, ◌/◌, ◌-◌, ◌≤◌, ◌<◌, get_or}
use Rattle.fit.specs.Rates.{low, row_lo, lo}

-- what the samples at k and at j leave of the rates, with twice the tolerance v: p is one of them
abbrev pub Leaves : (ℕ → ℕ) → ℕ → ℕ → ℕ → ℕ → ℕ → ℕ → Type 0
Leaves g N f v p k j = N * j + g (f + j) + p * k ≤ N * k + g (f + k) + p * j + v

-- sample k at the rate p is no lower than a - b
abbrev pub Under : (ℕ → ℕ) → ℕ → ℕ → ℕ → ℕ → ℕ → ℕ → Type 0
Under g N f p a b k = a + p * k ≤ b + N * k + g (f + k)

-- the samples x s .. x z, of those before m, with their values v, and at q the rates from which each is better than the one before it
pub record Order (g : ℕ → ℕ) (N f : ℕ) (x v q : List ℕ) (s z m : ℕ) : Type 0 where
  pub some : s ≤ z
  pub before : (i : ℕ) → s ≤ i → i ≤ z → get_or x i 0 < m
  pub value : (i : ℕ) → s ≤ i → i ≤ z → get_or v i 0 ≡ (N + 1) * get_or x i 0 + g (f + get_or x i 0)
  pub splits : (i j : ℕ) → s ≤ i → j ≡ i + 1 → j ≤ z → (p : ℕ) → (get_or q j 0 ≤ p) ↔ Leaves g N f 0 p (get_or x i 0) (get_or x j 0)
  pub ordered : (i j : ℕ) → s < i → i ≤ j → j ≤ z → get_or q i 0 ≤ get_or q j 0

-- at each rate from l on, one of them is as good as any sample before m
pub record Covers (g : ℕ → ℕ) (N f : ℕ) (x : List ℕ) (s z m l : ℕ) : Type 0 where
  pub covers : (p a b : ℕ) → l ≤ p → ((i : ℕ) → s ≤ i → i ≤ z → Under g N f p a b (get_or x i 0)) → (k : ℕ) → k < m → Under g N f p a b k

-- the same with the sample m itself
pub record Nearly (g : ℕ → ℕ) (N f : ℕ) (x : List ℕ) (s z m l : ℕ) : Type 0 where
  pub covers : (p a b : ℕ) → l ≤ p → ((i : ℕ) → s ≤ i → i ≤ z → Under g N f p a b (get_or x i 0)) → Under g N f p a b m → (k : ℕ) → k < m → Under g N f p a b k

pub record Chain (g : ℕ → ℕ) (N f : ℕ) (x v q : List ℕ) (s z m l : ℕ) : Type 0 where
  pub order : Order g N f x v q s z m
  pub cover : Covers g N f x s z m l

-- ---- as the code goes along a chain

-- what keeps the code's sums in range
pub record Safe (x v : List ℕ) (s z m a b : ℕ) : Type 0 where
  pub some : s ≤ z
  pub before : (i : ℕ) → s ≤ i → i ≤ z → get_or x i 0 < m
  pub small : (i : ℕ) → s ≤ i → i ≤ z → get_or v i 0 + b < a

-- the least rate that the sample m leaves with the one at i on the chain, where t is one below m's tilted value less twice the tolerance
abbrev pub left_at : List ℕ → List ℕ → ℕ → ℕ → ℕ → ℕ
left_at x v i m t = (t - get_or v i 0) / (m - get_or x i 0)

-- the chain of the first two samples, whose tilted values are a and b, and the least rate r that they leave, with twice the tolerance s
abbrev pub Paired : ℕ → List ℕ → List ℕ → List ℕ → ℕ → ℕ → ℕ → ℕ → Type 0
Paired N x v q a b s r = (g : ℕ → ℕ) (f w : ℕ) → ((i : ℕ) → g i + 2 * w ≤ N) → s ≡ 2 * w → a ≡ (N + 1) * 0 + g (f + 0) → b ≡ (N + 1) * 1 + g (f + 1) → (r ≡ lo g w N f 2) × Chain g N f x v q 0 1 2 r

-- what the search for the rate answers, of each run and tolerance that the chain is of
abbrev pub Asked : ℕ → List ℕ → List ℕ → List ℕ → ℕ → ℕ → ℕ → ℕ → ℕ → ℕ → ℕ → ℕ → Type 0
Asked N x v q s z m a b l i p = (g : ℕ → ℕ) (f w : ℕ) → ((i : ℕ) → g i + 2 * w ≤ N) → b ≡ 2 * w → a ≡ (N + 1) * m + g (f + m) → Chain g N f x v q s z m l → (p ≡ row_lo g w N f (f + m) m l) × Chain g N f x v q i z m p

-- the end of the chain that stays, with the rate from which m is better than it
pub record Kept (g : ℕ → ℕ) (N f : ℕ) (x q : List ℕ) (s i m l p : ℕ) : Type 0 where
  pub rate : p ≡ low g 0 N (f + get_or x i 0) (f + m)
  pub nearly : Nearly g N f x s i m l

abbrev pub Keeping : ℕ → List ℕ → List ℕ → List ℕ → ℕ → ℕ → ℕ → ℕ → ℕ → ℕ → Type 0
Keeping N x v q s z m a i p = (g : ℕ → ℕ) (f l : ℕ) → ((i : ℕ) → g i ≤ N) → a ≡ (N + 1) * m + g (f + m) → Chain g N f x v q s z m l → Kept g N f x q s i m l p

-- m put behind the chain
abbrev pub Added : ℕ → List ℕ → List ℕ → List ℕ → ℕ → ℕ → ℕ → ℕ → List ℕ → List ℕ → List ℕ → ℕ → Type 0
Added N x v q s z m a x' v' q' y = (g : ℕ → ℕ) (f l : ℕ) → ((i : ℕ) → g i ≤ N) → a ≡ (N + 1) * m + g (f + m) → Chain g N f x v q s z m l → Chain g N f x' v' q' s y (m + 1) l
