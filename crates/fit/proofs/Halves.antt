-- The two halves of the search for the longest run: the chain of the samples, and that of the samples upside down.
use mathlib.Core.Path.{◌≡◌, ap, ◌∙◌}
use mathlib.Core.List.{List}
use Prim.Native.Nat.{ℕ, ◌+◌, ◌*◌, ◌≤◌, ◌<◌}
use native.Mathlib.Nat.{mul-le-mul_left}
use native.Mathlib.Omega.{arith}
use lib.ListN.{get_or}
use Rattle.fit.specs.declared.chain.Chain.{Chain}
use Rattle.fit.specs.Rates.{lo, tilt}
use Rattle.fit.specs.Chains as Chains
use Rattle.fit.specs.Chains.{Order, Safe, Paired, Asked, Added}
use Rattle.fit.proofs.Steps.{lo_step}

-- the chain of the c samples from f on, which leave the least rate l
pub record Half (g : ℕ → ℕ) (w f : ℕ) (a : Chain) (c l : ℕ) : Type 0 where
  pub rate : l ≡ lo g w tilt f c
  pub ends : a.tail < c
  pub chain : Chains.Chain g tilt f a.places a.values a.froms a.head a.tail c l

-- the same chain, once the next sample was asked: with it they leave p
pub record Next (g : ℕ → ℕ) (w f : ℕ) (a : Chain) (c p : ℕ) : Type 0 where
  pub rate : p ≡ lo g w tilt f (c + 1)
  pub ends : a.tail < c
  pub chain : Chains.Chain g tilt f a.places a.values a.froms a.head a.tail c p

module _ (g : ℕ → ℕ) (w f : ℕ) where
  module _ (bound : (i : ℕ) → g i + 2 * w ≤ tilt) where
    -- an earlier sample is at least the tilt below
    pub below : (k c h : ℕ) → k < c → h ≡ (tilt + 1) * c + g (f + c) → (tilt + 1) * k + g (f + k) + 2 * w < h
    below k c h l e = omega (arith, mul-le-mul_left {m = k + 1} {n = c} (tilt + 1) (omega arith), bound (f + k))

    pub safe : (x v q : List ℕ) (i j c h b : ℕ) → b ≤ 2 * w → h ≡ (tilt + 1) * c + g (f + c) → Order g tilt f x v q i j c → Safe x v i j c h b
    safe x v q i j c h b l e o = record {
      some = o.some;
      before = o.before;
      small = λ k d r. omega (arith, o.value k d r, below (get_or x k 0) c h (o.before k d r) e);
    }

    pub safe_ask : (a : Chain) (c l h : ℕ) → Half g w f a c l → h ≡ (tilt + 1) * c + g (f + c) → Safe a.places a.values a.head a.tail c h (2 * w)
    safe_ask a c l h k e = safe a.places a.values a.froms a.head a.tail c h (2 * w) (omega arith) e k.chain.order

    pub safe_add : (a : Chain) (c p h : ℕ) → Next g w f a c p → h ≡ (tilt + 1) * c + g (f + c) → Safe a.places a.values a.head a.tail c h 0
    safe_add a c p h k e = safe a.places a.values a.froms a.head a.tail c h 0 (omega arith) e k.chain.order

    pub paired : (a : Chain) (u v s r : ℕ) → Paired tilt a.places a.values a.froms u v s r → a.head ≡ 0 → a.tail ≡ 1
        → s ≡ 2 * w → u ≡ g f → v ≡ tilt + 1 + g (f + 1) → Half g w f a 2 r
    paired a u v s r n hd tl e h k = let y = n g f w bound e (h ∙ start f) (omega arith) in record { rate = y.0; ends = omega arith; chain = rw (hd, tl) y.1 }
      where
        plain : (f : ℕ) → f ≡ f + 0
        plain f = omega arith

        start : (f : ℕ) → g f ≡ (tilt + 1) * 0 + g (f + 0)
        start f = let e : g f ≡ g (f + 0) = ap g (plain f) in omega arith

    pub asked : (a b : Chain) (c l h p : ℕ) → (b.places ≡ a.places) × (b.values ≡ a.values) × (b.froms ≡ a.froms) → b.tail ≡ a.tail → Half g w f a c l → h ≡ (tilt + 1) * c + g (f + c)
        → Asked tilt a.places a.values a.froms a.head a.tail c h (2 * w) l b.head p → Next g w f b c p
    asked a b c l h p es et k e n =
        let refl_w : 2 * w ≡ 2 * w = omega arith in
        let y = n g f w bound refl_w e k.chain in
        record { rate = lo_step g w tilt f c l p k.rate y.0; ends = omega (arith, k.ends); chain = rw (es.0, es.1, es.2, et) y.1 }

    pub added : (a b : Chain) (c p h : ℕ) → Next g w f a c p → b.head ≡ a.head → b.tail ≤ a.tail + 1 → h ≡ (tilt + 1) * c + g (f + c)
        → Added tilt a.places a.values a.froms a.head a.tail c h b.places b.values b.froms b.tail → Half g w f b (c + 1) p
    added a b c p h n eh k e r = record { rate = n.rate; ends = omega (arith, n.ends); chain = rw eh (r g f p (λ i. omega (arith, bound i)) e n.chain) }
