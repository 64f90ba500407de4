-- The greedy cover of the samples `s .. n - 1` by runs that fit is the shortest, for any test `fit start count` that holds of one sample and
-- of each part of a run of which it holds.
use mathlib.Core.Path.{◌≡◌, refl, subst}
use mathlib.Core.Bool.{Bool, true, false, not}
use mathlib.Core.List.{List, [], ◌∷◌}
use mathlib.Core.Logic.{⊎_elim}
use Prim.Native.Nat.{ℕ, zero, suc, ◌+◌, ◌*◌, ◌-◌, ◌≤◌, ◌<◌, min}
use native.Mathlib.Omega.{arith}
use lib.Dec.{T, T_not, ltb, ltb→lt, nltb→le}
use lib.ListN.{length}
use Rattle.fit.specs.Greedy.{grow, longest, counts, Cover, done, step}
use Rattle.fit.proofs.Tests.{by_test, lt_or}

module _ (fit : ℕ → ℕ → Bool) (cap n : ℕ) (cap-pos : 1 ≤ cap)
    (one : (s : ℕ) → T (fit s 1))
    (part : (s c k d : ℕ) → 1 ≤ d → k + d ≤ c → T (fit s c) → T (fit (s + k) d)) where
  prefix : (s c d : ℕ) → 1 ≤ d → d ≤ c → T (fit s c) → T (fit s d)
  prefix s c d h l f = subst (λ (z : ℕ). T (fit z d)) (same s) (part s c 0 d h (omega arith) f)
    where
      same : (s : ℕ) → s + 0 ≡ s
      same s = omega arith

  grow_from : (k s c : ℕ) → c ≤ grow fit k s c
  unfolding grow
  grow_from zero s c = omega arith
  grow_from (suc k) s c = by_test (fit s (suc c)) (grow fit k s (suc c)) c (λ z. c ≤ z) (λ t. omega (arith, grow_from k s (suc c))) (λ t. omega arith)

  grow_to : (k s c : ℕ) → grow fit k s c ≤ c + k
  unfolding grow
  grow_to zero s c = omega arith
  grow_to (suc k) s c = by_test (fit s (suc c)) (grow fit k s (suc c)) c (λ z. z ≤ c + suc k) (λ t. omega (arith, grow_to k s (suc c))) (λ t. omega arith)

  grow-fits : (k s c : ℕ) → T (fit s c) → T (fit s (grow fit k s c))
  unfolding grow
  grow-fits zero s c f = f
  grow-fits (suc k) s c f = by_test (fit s (suc c)) (grow fit k s (suc c)) c (λ z. T (fit s z)) (λ t. grow-fits k s (suc c) t) (λ t. f)

  grow-most : (k s c d : ℕ) → 1 ≤ d → d ≤ c + k → T (fit s d) → d ≤ grow fit k s c
  unfolding grow
  grow-most zero s c d p h f = omega arith
  grow-most (suc k) s c d p h f = by_test (fit s (suc c)) (grow fit k s (suc c)) c (λ z. d ≤ z)
      (λ t. grow-most k s (suc c) d p (omega arith) f)
      (λ t. short (ltb c d) refl t)
    where
      short : (b : Bool) → b ≡ ltb c d → T (not (fit s (suc c))) → d ≤ c
      short true e t = absurd (T_not (fit s (suc c)) t (prefix s d (suc c) (omega arith) (ltb→lt c d (subst T e tt)) f))
      short false e t = nltb→le c d (subst (λ (b : Bool). T (not b)) e tt)

  pub longest-pos : (s : ℕ) → 1 ≤ longest fit cap n s
  unfolding longest
  longest-pos s = grow_from (min cap (n - s) - 1) s 1

  pub longest-fits : (s : ℕ) → T (fit s (longest fit cap n s))
  unfolding longest
  longest-fits s = grow-fits (min cap (n - s) - 1) s 1 (one s)

  pub longest-cap : (s : ℕ) → s < n → longest fit cap n s ≤ cap
  unfolding longest
  longest-cap s h = omega (arith, grow_to (min cap (n - s) - 1) s 1)

  pub longest-within : (s : ℕ) → s < n → s + longest fit cap n s ≤ n
  unfolding longest
  longest-within s h = omega (arith, grow_to (min cap (n - s) - 1) s 1)

  -- no longer run fits
  pub longest-most : (s d : ℕ) → 1 ≤ d → d ≤ cap → s + d ≤ n → T (fit s d) → d ≤ longest fit cap n s
  unfolding longest
  longest-most s d p h w f = grow-most (min cap (n - s) - 1) s 1 d p (omega arith) f

  -- the greedy counts cover
  pub counts-cover : (k s : ℕ) → s ≤ n → n ≤ s + k → Cover fit cap n s (counts fit cap n k s)
  unfolding counts
  counts-cover zero s h w = done {s = s} (omega arith)
  counts-cover (suc k) s h w =
      by_test (ltb s n) (longest fit cap n s ∷ counts fit cap n k (s + longest fit cap n s)) [] (λ z. Cover fit cap n s z)
      (λ t. let l : s < n = ltb→lt s n t in
      step (longest-pos s) (longest-cap s l) (longest-within s l) (longest-fits s)
      (counts-cover k (s + longest fit cap n s) (longest-within s l) (omega (arith, longest-pos s))))
      (λ t. let l : n ≤ s = nltb→le s n t in done {s = s} (omega arith))

  counts_end : (k s : ℕ) → n ≤ s → length (counts fit cap n k s) ≡ 0
  unfolding counts
  counts_end zero s h = refl
  counts_end (suc k) s h = by_test (ltb s n) (longest fit cap n s ∷ counts fit cap n k (s + longest fit cap n s)) [] (λ z. length z ≡ 0)
      (λ t. let l : s < n = ltb→lt s n t in absurd (omega arith)) (λ t. refl)

  -- and no cover that starts no later has fewer runs
  ahead : {s' : ℕ} {cs : List ℕ} → Cover fit cap n s' cs → (k s : ℕ) → s' ≤ s → length (counts fit cap n k s) ≤ length cs
  unfolding counts
  ahead (done e) k s h = omega (arith, counts_end k s (omega arith))
  ahead (step {s = s'} {c} {cs} p q w f r) zero s h = nil
    where
      nil : length (counts fit cap n zero s) ≤ suc (length cs)
      nil = omega arith
  ahead (step {s = s'} {c} {cs} p q w f r) (suc k) s h = go (ahead r (suc k) s) (ahead r k (s + longest fit cap n s)) (ltb s (s' + c)) refl
    where
      reach : s < s' + c → s' + c ≤ s + longest fit cap n s
      reach l = omega (arith, longest-most s (s' + c - s) (omega arith) (omega arith) (omega arith) sub)
        where
          at : (s' s : ℕ) → s' ≤ s → s' + (s - s') ≡ s
          at s' s h = omega arith

          sub : T (fit s (s' + c - s))
          sub = subst (λ (z : ℕ). T (fit z (s' + c - s))) (at s' s h) (part s' c (s - s') (s' + c - s) (omega arith) (omega arith) f)

      more : (s' + c ≤ s + longest fit cap n s → length (counts fit cap n k (s + longest fit cap n s)) ≤ length cs) → s < s' + c
          → length (counts fit cap n (suc k) s) ≤ suc (length cs)
      more ih l = by_test (ltb s n) (longest fit cap n s ∷ counts fit cap n k (s + longest fit cap n s)) [] (λ z. length z ≤ suc (length cs))
          (λ t. omega (arith, ih (reach l))) (λ t. omega arith)

      go : (s' + c ≤ s → length (counts fit cap n (suc k) s) ≤ length cs)
          → (s' + c ≤ s + longest fit cap n s → length (counts fit cap n k (s + longest fit cap n s)) ≤ length cs)
          → (b : Bool) → b ≡ ltb s (s' + c) → length (counts fit cap n (suc k) s) ≤ suc (length cs)
      go later ih true e = more ih (ltb→lt s (s' + c) (subst T e tt))
      go later ih false e = omega (arith, later (nltb→le s (s' + c) (subst (λ (b : Bool). T (not b)) e tt)))

  pub fewest : (cs : List ℕ) → Cover fit cap n 0 cs → length (counts fit cap n n 0) ≤ length cs
  fewest cs c = ahead c n 0 (omega arith)

  -- where any two samples fit, there are at most half as many runs as samples, rounded up
  pub counts_half : 2 ≤ cap → ((s : ℕ) → T (fit s 2)) → (k s : ℕ) → s ≤ n → 2 * length (counts fit cap n k s) ≤ n - s + 1
  unfolding counts
  counts_half h two zero s l = omega arith
  counts_half h two (suc k) s l = by_test (ltb s n) (longest fit cap n s ∷ counts fit cap n k (s + longest fit cap n s)) [] (λ z. 2 * length z ≤ n - s + 1)
      (λ t. let m : s < n = ltb→lt s n t in
      ⊎_elim
      (λ b. omega (
        arith,
        longest-most s 2 (omega arith) h (omega arith) (two s),
        longest-within s m,
        counts_half h two k (s + longest fit cap n s) (longest-within s m),
      ))
      (λ b. omega (arith, longest-pos s, longest-within s m, counts_end k (s + longest fit cap n s) (omega (arith, longest-pos s))))
      (lt_or (s + 1) n))
      (λ t. omega arith)
