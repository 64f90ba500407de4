-- The track as a loop goes through it, run by run.
use mathlib.Core.Path.{◌≡◌, refl, sym, ap, ◌∙◌}
use mathlib.Core.List.{List, [], ◌∷◌}
use mathlib.Core.Logic.{⊎_elim}
use Prim.Native.Nat.{ℕ, zero, suc, ◌+◌, ◌*◌, ◌-◌, ◌≤◌, ◌<◌}
use native.Mathlib.Numerals.{add-one}
use native.Mathlib.Omega.{arith}
use lib.Dec.{T, ltb, ltb→lt, nltb→le}
use lib.ListN.{length, get_or, set}
use lib.Seq.{get_or-set_same, get_or-set_other}
use lib.IntN.{ℤ}
use Rattle.fit.specs.Line.{Small}
use Rattle.fit.specs.Greedy.{counts}
use Rattle.fit.specs.Rates.{fit_of, least}
use Rattle.fit.proofs.Tests.{by_test, at_or}
use Rattle.fit.proofs.Greedy.{longest-pos, longest-fits, longest-cap, longest-within}
use Rattle.fit.proofs.Lines.{fits_one, fits-some}
use Rattle.track.specs.Segments.{Segment, flat}
use Rattle.track.specs.Made.{seg_of, segs_of, track_of, run_of, start_at, Stored}

unfoldable pub rest_of : List ℤ → ℕ → ℕ → ℕ → List Segment
rest_of s t k f = segs_of s t f (counts (fit_of s t) 1024 (length s) k f)

pub flat-length : (xs : List Segment) → length (flat xs) ≡ 4 * length xs
unfolding flat
flat-length [] = refl
flat-length (x ∷ xs) = omega (arith, flat-length xs)

pub track_of_rest : (s : List ℤ) (t : ℕ) → track_of s t ≡ rest_of s t (length s) 0
unfolding track_of rest_of
track_of_rest s t = refl

pub less_none : (n : ℕ) → n - 0 ≡ n
less_none n = omega arith

pub track_of_start : (s : List ℤ) (t : ℕ) → rest_of s t (length s - 0) 0 ≡ track_of s t
track_of_start s t = ap (λ (z : ℕ). rest_of s t z 0) (less_none (length s)) ∙ sym (track_of_rest s t)

module _ (s : List ℤ) (t : ℕ) (small : Small s) (tol : t ≤ 1_000_000) where
  pub run_pos : (f : ℕ) → 1 ≤ run_of s t f
  run_pos f = longest-pos (fit_of s t) 1024 (length s) (omega arith) (fits_one s t small tol) (fits-some s t small tol) f

  pub run_fits : (f : ℕ) → T (fit_of s t f (run_of s t f))
  run_fits f = longest-fits (fit_of s t) 1024 (length s) (omega arith) (fits_one s t small tol) (fits-some s t small tol) f

  pub run_cap : (f : ℕ) → f < length s → run_of s t f ≤ 1024
  run_cap f h = longest-cap (fit_of s t) 1024 (length s) (omega arith) (fits_one s t small tol) (fits-some s t small tol) f h

  pub run_within : (f : ℕ) → f < length s → f + run_of s t f ≤ length s
  run_within f h = longest-within (fit_of s t) 1024 (length s) (omega arith) (fits_one s t small tol) (fits-some s t small tol) f h

module _ (s : List ℤ) (t : ℕ) where
  pub rest_of_more : (k f : ℕ) → f < length s → rest_of s t (suc k) f ≡ seg_of s t f (run_of s t f) ∷ rest_of s t k (f + run_of s t f)
  unfolding rest_of counts segs_of
  rest_of_more k f h = by_test (ltb f (length s)) (run_of s t f ∷ counts (fit_of s t) 1024 (length s) k (f + run_of s t f)) []
      (λ z. segs_of s t f z ≡ seg_of s t f (run_of s t f) ∷ segs_of s t (f + run_of s t f) (counts (fit_of s t) 1024 (length s) k (f + run_of s t f)))
      (λ u. refl) (λ u. let l : length s ≤ f = nltb→le f (length s) u in absurd (omega arith))

  pub rest_of_none : (k f : ℕ) → length s ≤ f → rest_of s t k f ≡ []
  unfolding rest_of counts segs_of
  rest_of_none zero f h = refl
  rest_of_none (suc k) f h = by_test (ltb f (length s)) (run_of s t f ∷ counts (fit_of s t) 1024 (length s) k (f + run_of s t f)) []
      (λ z. segs_of s t f z ≡ [])
      (λ u. let l : f < length s = ltb→lt f (length s) u in absurd (omega arith)) (λ u. refl)

  -- the segments left after m of them, one of which starts at f
  pub rest_step : (f m c : ℕ) → f < length s → m ≤ f → c ≡ run_of s t f → rest_of s t (length s - m) f ≡ seg_of s t f c ∷ rest_of s t (length s - (m + 1)) (f + c)
  rest_step f m c h l e =
      ap (λ (z : ℕ). rest_of s t z f) k ∙ rest_of_more (length s - (m + 1)) f h
      ∙ ap (λ (z : ℕ). seg_of s t f z ∷ rest_of s t (length s - (m + 1)) (f + z)) (sym e)
    where
      k : length s - m ≡ suc (length s - (m + 1))
      k = omega arith

-- ---- the runs, one after the other

pub start_at_next : (s : List ℤ) (t i f c : ℕ) → f ≡ start_at s t i → c ≡ run_of s t f → f + c ≡ start_at s t (i + 1)
unfolding start_at
start_at_next s t i f c h k = rw add-one (cc)

-- one more run noted
pub stored_more : (s : List ℤ) (t : ℕ) (ks ps : List ℕ) (m f c l : ℕ) → Stored s t ks ps m → m < length ks → m < length ps
    → f ≡ start_at s t m → c ≡ run_of s t f → l ≡ least s t f c → Stored s t (set ks m c) (set ps m l) (m + 1)
stored_more s t ks ps m f c l h a b e d g i j = ⊎_elim old new (at_or i m (omega arith))
  where
    old : i < m → (get_or (set ks m c) i 0 ≡ run_of s t (start_at s t i)) × (get_or (set ps m l) i 0 ≡ least s t (start_at s t i) (run_of s t (start_at s t i)))
    old u = (
      get_or-set_other ks m i c 0 (λ k. let z : i ≡ m = k in omega arith) ∙ (h i u).0,
      get_or-set_other ps m i l 0 (λ k. let z : i ≡ m = k in omega arith) ∙ (h i u).1,
    )

    new : i ≡ m → (get_or (set ks m c) i 0 ≡ run_of s t (start_at s t i)) × (get_or (set ps m l) i 0 ≡ least s t (start_at s t i) (run_of s t (start_at s t i)))
    new q = let x : get_or (set ks m c) m 0 ≡ c = get_or-set_same ks m c 0 a in let y : get_or (set ps m l) m 0 ≡ l = get_or-set_same ps m l 0 b in (cc, cc)
