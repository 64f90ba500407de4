-- The code's walks along a chain: `ask` from its head, `keep` from its tail, what `add` leaves, and how `pair` starts it.
use mathlib.Core.Path.{◌≡◌, refl, sym, ap, ◌∙◌}
use mathlib.Core.List.{List}
use Prim.Native.Nat.{ℕ, ◌+◌, ◌*◌, ◌-◌, ◌≤◌, ◌<◌, max}
use native.Mathlib.Omega.{arith}
use lib.ListN.{get_or, set, length, length-set}
use lib.Seq.{get_or-set_same}
use Rattle.fit.specs.Rates.{low, row_lo, lo}
use Rattle.fit.specs.Chains.{Order, Covers, Chain, left_at, Paired, Asked, Kept, Keeping, Added}
use Rattle.fit.proofs.Pairs.{row_lo_acc, row_lo_at}
use Rattle.fit.proofs.Hull.{low_is, covers_up, covers_skip, order_skip, order_part, best, nearly, nearly-drop, push, chain_one}
use Rattle.fit.proofs.Steps.{lo_none, lo_step}

-- the rate p so far, with the chain from i on
pub record Query (g : ℕ → ℕ) (N f w : ℕ) (x v q : List ℕ) (i z m l p : ℕ) : Type 0 where
  pub chain : Chain g N f x v q i z m p
  pub from : l ≤ p
  pub head : low g w N (f + get_or x i 0) (f + m) ≤ p
  pub most : p ≤ row_lo g w N f (f + m) m l

abbrev pub Asking : ℕ → List ℕ → List ℕ → List ℕ → ℕ → ℕ → ℕ → ℕ → ℕ → ℕ → ℕ → ℕ → Type 0
Asking N x v q s z m a b l i p = (g : ℕ → ℕ) (f w : ℕ) → ((i : ℕ) → g i + 2 * w ≤ N) → b ≡ 2 * w → a ≡ (N + 1) * m + g (f + m) → Chain g N f x v q s z m l → Query g N f w x v q i z m l p

module _ (N : ℕ) (x v q : List ℕ) (s z m a b l : ℕ) where
  left_low : (g : ℕ → ℕ) (f w i t : ℕ) → t ≡ a - b - 1 → ((i : ℕ) → g i + 2 * w ≤ N) → b ≡ 2 * w → a ≡ (N + 1) * m + g (f + m) → s ≤ i → i ≤ z → Order g N f x v q s z m → left_at x v i m t ≡ low g w N (f + get_or x i 0) (f + m)
  left_low g f w i t ht bd e h j k o = low_is g N f w (get_or x i 0) m (left_at x v i m t) a (get_or v i 0) b (m - get_or x i 0) t (o.before i j k) refl ht refl h (o.value i j k) e (bd (f + get_or x i 0))

  pub ask_start : (r : ℕ) → r ≡ max l (left_at x v s m (a - b - 1)) → Asking N x v q s z m a b l s r
  ask_start r e g f w bd hb ha c = record {
    chain = record { order = c.order; cover = covers_up g N f x v q s z m l r (omega arith) c.cover };
    from = omega arith;
    head = omega (arith, lw);
    most = omega (arith, lw, row_lo_acc g w N f (f + m) m l, row_lo_at g w N f (f + m) m l (get_or x s 0) (c.order.before s (omega arith) c.order.some));
  }
    where
      lw : left_at x v s m (a - b - 1) ≡ low g w N (f + get_or x s 0) (f + m)
      lw = left_low g f w s (a - b - 1) refl bd hb ha (omega arith) c.order.some c.order

module _ (N : ℕ) (x v q : List ℕ) (s z m a b l i p : ℕ) (k : Asking N x v q s z m a b l i p) where
  pub ask_step : (j r : ℕ) → j ≡ i + 1 → i < z → get_or q j 0 ≤ p → r ≡ max p (left_at x v j m (a - b - 1)) → Asking N x v q s z m a b l j r
  ask_step j r d h t e g f w bd hb ha c = record {
    chain = record { order = o; cover = covers_up g N f x v q j z m p r (omega arith) cov };
    from = omega (arith, y.from);
    head = omega (arith, lw);
    most = omega (arith, lw, y.most, row_lo_at g w N f (f + m) m l (get_or x j 0) (o.before j (omega arith) (omega arith)));
  }
    where
      y : Query g N f w x v q i z m l p
      y = k g f w bd hb ha c

      o : Order g N f x v q j z m
      o = rw d (order_skip g N f x v q i z m h y.chain.order)

      cov : Covers g N f x j z m p
      cov = rw d (covers_skip g N f x v q i z m p h (rw d at t) y.chain.order y.chain.cover)

      lw : left_at x v j m (a - b - 1) ≡ low g w N (f + get_or x j 0) (f + m)
      lw = left_low N x v q j z m a b l g f w j (a - b - 1) refl bd hb ha (omega arith) (omega arith) o

  pub ask_end : (i < z → p < get_or q (i + 1) 0) → Asked N x v q s z m a b l i p
  ask_end t g f w bd hb ha c = let y = k g f w bd hb ha c in
      (omega (arith, y.most, best g N f x v q i z m p w y.chain.order y.chain.cover t y.head l y.from), y.chain)

module _ (N : ℕ) (x v q : List ℕ) (s z m a : ℕ) where
  pub keep_start : (r : ℕ) → r ≡ left_at x v z m (a - 1) → Keeping N x v q s z m a z r
  keep_start r e g f l bd ha c = record {
    rate = e ∙ left_low N x v q s z m a 0 l g f 0 z (a - 1) (omega arith) (λ i. omega (arith, bd i)) refl ha c.order.some (omega arith) c.order;
    nearly = nearly g N f x v q s z m l c.cover;
  }

  pub keep_step : (i p j r : ℕ) → Keeping N x v q s z m a i p → i ≡ j + 1 → s ≤ j → i ≤ z → p ≤ get_or q i 0 → r ≡ left_at x v j m (a - 1) → Keeping N x v q s z m a j r
  keep_step i p j r k d h u t e g f l bd ha c = record {
    rate = e ∙ left_low N x v q s z m a 0 l g f 0 j (a - 1) (omega arith) (λ i. omega (arith, bd i)) refl ha h (omega arith) c.order;
    nearly = nearly-drop g N f x v q s i j m l d h (omega (arith, y.rate)) (order_part g N f x v q s z i m (omega arith) u c.order) y.nearly;
  }
    where
      y : Kept g N f x q s i m l p
      y = k g f l bd ha c

  pub keep_end : (i p y : ℕ) (x' v' q' : List ℕ) → Keeping N x v q s z m a i p → s ≤ i → i ≤ z → (s < i → get_or q i 0 ≤ p) → y ≡ i + 1
      → y < length x → y < length v → y < length q → x' ≡ set x y m → v' ≡ set v y a → q' ≡ set q y p → Added N x v q s z m a x' v' q' y
  keep_end i p y x' v' q' k h u t d hx hv hq ex ev eq g f l bd ha c = let j = k g f l bd ha c in
      rw (ex, ev, eq) (push g N f x v q s i y m l a p d hx hv hq ha j.rate t (order_part g N f x v q s z i m h u c.order) j.nearly)

-- the first two samples: what `ask` and `add` would make of a chain of the first
pub pair_is : (N : ℕ) (x v q : List ℕ) (a b s p r : ℕ) → 1 < length x → 1 < length v → 1 < length q → a + s < b → p ≡ b - a - 1 → r ≡ p - s
    → Paired N (set (set x 0 0) 1 1) (set (set v 0 a) 1 b) (set q 1 p) a b s r
pair_is N x v q a b s p r lx lv lq lt hp hr g f w bd hs ha hb = (
  lo_step g w N f 1 0 r none asked.0,
  keep_end N x₀ v₀ q 0 0 1 b 0 p 1 (set x₀ 1 1) (set v₀ 1 b) (set q 1 p) (keep_start N x₀ v₀ q 0 0 1 b p (omega (arith, left (b - 1)))) (omega arith) (omega arith) (λ h. absurd (omega arith)) refl
      (simp length-set lx) (simp length-set lv) lq refl refl refl g f r (λ i. omega (arith, bd i)) hb asked.1,
)
  where
    x₀ : List ℕ
    x₀ = set x 0 0

    v₀ : List ℕ
    v₀ = set v 0 a

    at_x : get_or x₀ 0 0 ≡ 0
    at_x = get_or-set_same x 0 0 0 (omega arith)

    at_v : get_or v₀ 0 0 ≡ a
    at_v = get_or-set_same v 0 a 0 (omega arith)

    left : (t : ℕ) → left_at x₀ v₀ 0 1 t ≡ t - a
    left t = rw (at_x, at_v) (omega arith)

    turned : (a b s : ℕ) → b - a - 1 - s ≡ b - s - 1 - a
    turned a b s = omega arith

    above : (n : ℕ) → r ≡ n → r ≡ max 0 n
    above n e = omega arith

    none : 0 ≡ lo g w N f 1
    none = lo_none g w N f

    asked : (r ≡ row_lo g w N f (f + 1) 1 0) × Chain g N f x₀ v₀ q 0 0 1 r
    asked = ask_end N x₀ v₀ q 0 0 1 b s 0 0 r (ask_start N x₀ v₀ q 0 0 1 b s 0 r (above (left_at x₀ v₀ 0 1 (b - s - 1)) (hr ∙ ap (λ (n : ℕ). n - s) hp ∙ turned a b s ∙ sym (left (b - s - 1))))) (λ h. absurd (omega arith)) g f w bd hs hb
        (chain_one g N f x₀ v₀ q at_x (at_v ∙ ha))
