-- A chain of samples, as it loses its first, loses its last and gains one behind: at each rate one of it stays as good as any sample of the run.
use mathlib.Core.Path.{◌≡◌, refl, sym, ap, subst, ◌∙◌}
use mathlib.Core.List.{List}
use Prim.Native.Nat.{ℕ, zero, suc, ◌+◌, ◌*◌, ◌/◌, ◌-◌, ◌≤◌, ◌<◌}
use native.Mathlib.Nat.{add-mul, mul-one}
use mathlib.Core.Logic.{◌↔◌, ◌⊎◌, inl, inr, ⊎_elim}
use native.Mathlib.Omega.{arith}
use lib.ListN.{get_or, set, length}
use lib.Seq.{get_or-set_same, get_or-set_other}
use Rattle.fit.specs.Rates.{low, row_lo}
use Rattle.fit.specs.Chains.{Leaves, Under, Order, Covers, Nearly, Chain}
use Rattle.fit.proofs.Pairs.{low_le, Above, row_lo_le, split}
use Rattle.fit.proofs.Tests.{lt_or, at_or}

-- a difference that is one less stands for one that is rounded up
one_less : (a b v t z G p q : ℕ) → a + q ≡ b + (G + z + p) → q + v ≤ G → 1 ≤ z → t ≡ a - v - 1 → t - b ≡ G + p - (q + v) + z - 1
one_less a b v t z G p q s o h e = omega arith

module _ (g : ℕ → ℕ) (N f : ℕ) where
  -- a rate is left where it is no less than the least
  pub low_leaves : (w p k j : ℕ) → k < j → (low g w N (f + k) (f + j) ≤ p) ↔ Leaves g N f (2 * w) p k j
  low_leaves w p k j h = (
    (λ l. let y : Above g w N p (f + k) (f + j) = (low_le g w N p (f + k) (f + j) (omega arith)).0 l in omega (arith, split p k j d e, split N k j d e)),
    (λ l. (low_le g w N p (f + k) (f + j) (omega arith)).1 (omega (arith, split p k j d e, split N k j d e))),
  )
    where
      d : ℕ
      d = f + j - (f + k)

      e : j ≡ k + d
      e = omega arith

  -- as the code has it
  pub low_is : (w k j r a b v d t : ℕ) → k < j → r ≡ (t - b) / d → t ≡ a - v - 1 → d ≡ j - k → a ≡ (N + 1) * j + g (f + j) → b ≡ (N + 1) * k + g (f + k) → v ≡ 2 * w
      → g (f + k) + 2 * w ≤ N → r ≡ low g w N (f + k) (f + j)
  unfolding low
  low_is w k j r a b v d t h hr ht hd ha hb hv hg =
      let z : ℕ = f + j - (f + k) in
      let e : d ≡ z = omega arith in
      let s : a + g (f + k) ≡ b + (N * z + z + g (f + j)) = omega (arith, split N k j z (omega arith), add-mul N 1 j, add-mul N 1 k) in
      let o : g (f + k) + 2 * w ≤ N * z = omega (arith, native.Mathlib.Nat.mul-le-mul_left {m = 1} {n = z} N (omega arith), mul-one N) in
      let n : t - b ≡ N * z + g (f + j) - (g (f + k) + 2 * w) + z - 1 = one_less a b (2 * w) t z (N * z) (g (f + j)) (g (f + k)) s o (omega arith) (omega arith) in
      cc

  module _ (x v q : List ℕ) where
    pub covers_up : (s z m l p : ℕ) → l ≤ p → Covers g N f x s z m l → Covers g N f x s z m p
    covers_up s z m l p h c = record { covers = λ r a b k. c.covers r a b (omega arith) }

    -- the first of the chain goes, once the next is better
    pub order_skip : (s z m : ℕ) → s < z → Order g N f x v q s z m → Order g N f x v q (s + 1) z m
    order_skip s z m h o = record {
      some = omega arith;
      before = λ i a. o.before i (omega arith);
      value = λ i a. o.value i (omega arith);
      splits = λ i j a. o.splits i j (omega arith);
      ordered = λ i j a. o.ordered i j (omega arith);
    }

    pub covers_skip : (s z m l : ℕ) → s < z → get_or q (s + 1) 0 ≤ l → Order g N f x v q s z m → Covers g N f x s z m l → Covers g N f x (s + 1) z m l
    covers_skip s z m l h t o c = record { covers = each }
      where
        each : (p a b : ℕ) → l ≤ p → ((i : ℕ) → s + 1 ≤ i → i ≤ z → Under g N f p a b (get_or x i 0)) → (k : ℕ) → k < m → Under g N f p a b k
        each p a b r u = c.covers p a b r (λ i y w. ⊎_elim (λ n. u i (omega arith) w) (λ e. subst (λ (i : ℕ). Under g N f p a b (get_or x i 0)) e first) (at_or s i y))
          where
            first : Under g N f p a b (get_or x s 0)
            first = omega (arith, u (s + 1) (omega arith) (omega arith), (o.splits s (s + 1) (omega arith) refl (omega arith) p).0 (omega arith))

    -- where the next is not better, the first is the best
    along : (s z m p a b : ℕ) → Order g N f x v q s z m → (s < z → p < get_or q (s + 1) 0) → Under g N f p a b (get_or x s 0)
        → (n i : ℕ) → i ≡ s + n → i ≤ z → Under g N f p a b (get_or x i 0)
    along s z m p a b o t u zero i e h = subst (λ (i : ℕ). Under g N f p a b (get_or x i 0)) (sym (e ∙ plain s)) u
      where
        plain : (s : ℕ) → s + 0 ≡ s
        plain s = omega arith
    along s z m p a b o t u (suc n) i e h = ⊎_elim
        (λ k. omega (arith, along s z m p a b o t u n (s + n) refl (omega arith), k))
        (λ k. absurd (omega (arith, (o.splits (s + n) i (omega arith) (omega arith) h p).1 k, o.ordered (s + 1) i (omega arith) (omega arith) h, t (omega arith))))
        (lt_or (N * get_or x (s + n) 0 + g (f + get_or x (s + n) 0) + p * get_or x i 0 + 0) (N * get_or x i 0 + g (f + get_or x i 0) + p * get_or x (s + n) 0))

    pub best : (s z m l w : ℕ) → Order g N f x v q s z m → Covers g N f x s z m l → (s < z → l < get_or q (s + 1) 0) → low g w N (f + get_or x s 0) (f + m) ≤ l
        → (n : ℕ) → n ≤ l → row_lo g w N f (f + m) m n ≤ l
    best s z m l w o c t h n u = row_lo_le g w N f l (f + m) m n u (λ k y. (low_leaves w l k m y).1 (omega (arith, all k y)))
      where
        first : Leaves g N f (2 * w) l (get_or x s 0) m
        first = (low_leaves w l (get_or x s 0) m (o.before s (omega arith) o.some)).0 h

        all : (k : ℕ) → k < m → Under g N f l (N * m + g (f + m)) (l * m + 2 * w) k
        all = c.covers l (N * m + g (f + m)) (l * m + 2 * w) (omega arith)
            (λ i a b. along s z m l (N * m + g (f + m)) (l * m + 2 * w) o t (omega (arith, first)) (i - s) i (omega arith) b)

    -- the last of the chain goes, where m is better than it before it is better than the one before it
    pub nearly : (s z m l : ℕ) → Covers g N f x s z m l → Nearly g N f x s z m l
    nearly s z m l c = record { covers = λ p a b h u n. c.covers p a b h u }

    pub nearly-drop : (s z y m l : ℕ) → z ≡ y + 1 → s ≤ y → low g 0 N (f + get_or x z 0) (f + m) ≤ get_or q z 0 → Order g N f x v q s z m → Nearly g N f x s z m l → Nearly g N f x s y m l
    nearly-drop s z y m l e h t o c = record { covers = each }
      where
        each : (p a b : ℕ) → l ≤ p → ((i : ℕ) → s ≤ i → i ≤ y → Under g N f p a b (get_or x i 0)) → Under g N f p a b m → (k : ℕ) → k < m → Under g N f p a b k
        each p a b r u n = c.covers p a b r (λ i c d. ⊎_elim (λ j. u i c (omega arith)) (λ j. subst (λ (i : ℕ). Under g N f p a b (get_or x i 0)) (sym j) last) (at_or i z d)) n
          where
            last : Under g N f p a b (get_or x z 0)
            last = ⊎_elim
                (λ k. ⊎_elim
                (λ j. omega (arith, u y h (omega arith)))
                (λ j. absurd (omega (arith, (o.splits y z h e (omega arith) p).1 j)))
                (lt_or (N * get_or x y 0 + g (f + get_or x y 0) + p * get_or x z 0 + 0) (N * get_or x z 0 + g (f + get_or x z 0) + p * get_or x y 0)))
                (λ k. omega (arith, (low_leaves 0 p (get_or x z 0) m (o.before z (omega arith) (omega arith))).0 (omega arith)))
                (lt_or p (get_or q z 0))

    pub order_part : (s z y m : ℕ) → s ≤ y → y ≤ z → Order g N f x v q s z m → Order g N f x v q s y m
    order_part s z y m h k o = record {
      some = h;
      before = λ i a b. o.before i a (omega arith);
      value = λ i a b. o.value i a (omega arith);
      splits = λ i j a b c. o.splits i j a b (omega arith);
      ordered = λ i j a b c. o.ordered i j a b (omega arith);
    }

-- m put behind the chain
module _ (l : List ℕ) (i a : ℕ) where
  kept : (j : ℕ) → j < i → get_or (set l i a) j 0 ≡ get_or l j 0
  kept j h = get_or-set_other l i j a 0 (λ k. let d : j ≡ i = k in omega arith)

module _ (g : ℕ → ℕ) (N f : ℕ) (x v q : List ℕ) (s z y m l a r : ℕ) (e : y ≡ z + 1) (inx : y < length x) (inv : y < length v) (inq : y < length q)
    (va : a ≡ (N + 1) * m + g (f + m)) (vr : r ≡ low g 0 N (f + get_or x z 0) (f + m)) (up : s < z → get_or q z 0 ≤ r) (o : Order g N f x v q s z m) (c : Nearly g N f x s z m l) where
  x_old : (i : ℕ) → i ≤ z → get_or (set x y m) i 0 ≡ get_or x i 0
  x_old i h = kept x y m i (omega arith)

  x_new : get_or (set x y m) y 0 ≡ m
  x_new = get_or-set_same x y m 0 inx

  old_or : (i : ℕ) → i ≤ y → (i ≤ z) ⊎ (i ≡ y)
  old_or i h = ⊎_elim (λ l. inl (omega arith)) (λ e. inr e) (at_or i y h)

  pub push : Chain g N f (set x y m) (set v y a) (set q y r) s y (m + 1) l
  push = record {
    order = record {
      some = omega (arith, o.some);
      before = λ i h k. ⊎_elim (λ j. omega (arith, x_old i j, o.before i h j)) (λ j. subst (λ (i : ℕ). get_or (set x y m) i 0 < m + 1) (sym j) (omega (arith, x_new))) (old_or i k);
      value = λ i h k. ⊎_elim (λ j. kept v y a i (omega arith) ∙ o.value i h j ∙ ap (λ (n : ℕ). (N + 1) * n + g (f + n)) (sym (x_old i j)))
          (λ j. subst (λ (i : ℕ). get_or (set v y a) i 0 ≡ (N + 1) * get_or (set x y m) i 0 + g (f + get_or (set x y m) i 0)) (sym j) (get_or-set_same v y a 0 inv ∙ va ∙ ap (λ (n : ℕ). (N + 1) * n + g (f + n)) (sym x_new))) (old_or i k);
      splits = λ i j h k n. ⊎_elim
          (λ b. rw (kept q y r j (omega arith), x_old i (omega arith), x_old j b) (o.splits i j h k b))
          (λ b. new i j (omega arith) b) (old_or j n);
      ordered = λ i j h k n. ⊎_elim
          (λ b. omega (arith, kept q y r j (omega arith), kept q y r i (omega arith), o.ordered i j h k b))
          (λ b. subst (λ (j : ℕ). get_or (set q y r) i 0 ≤ get_or (set q y r) j 0) (sym b) (last i h (omega arith))) (old_or j n);
    };
    cover = record { covers = each };
  }
    where
      new : (i j : ℕ) → i ≡ z → j ≡ y → (p : ℕ) → (get_or (set q y r) j 0 ≤ p) ↔ Leaves g N f 0 p (get_or (set x y m) i 0) (get_or (set x y m) j 0)
      new i j d b p = rw (d, b, get_or-set_same q y r 0 inq, x_old z (omega arith), x_new, vr) (low_leaves g N f 0 p (get_or x z 0) m (o.before z o.some (omega arith)))

      last : (i : ℕ) → s < i → i ≤ y → get_or (set q y r) i 0 ≤ get_or (set q y r) y 0
      last i h k = ⊎_elim (λ j. omega (arith, kept q y r i (omega arith), get_or-set_same q y r 0 inq, o.ordered i z h j (omega arith), up (omega arith)))
          (λ j. subst (λ (i : ℕ). get_or (set q y r) i 0 ≤ get_or (set q y r) y 0) (sym j) (omega arith)) (old_or i k)

      each : (p a b : ℕ) → l ≤ p → ((i : ℕ) → s ≤ i → i ≤ y → Under g N f p a b (get_or (set x y m) i 0)) → (k : ℕ) → k < m + 1 → Under g N f p a b k
      each p a b h u k n = ⊎_elim
          (λ j. c.covers p a b h (λ i w d. subst (λ (n : ℕ). Under g N f p a b n) (x_old i d) (u i w (omega arith))) top k (omega arith))
          (λ j. subst (λ (n : ℕ). Under g N f p a b n) (sym j) top) (at_or k m (omega arith))
        where
          top : Under g N f p a b m
          top = subst (λ (n : ℕ). Under g N f p a b n) x_new (u y (omega (arith, o.some)) (omega arith))

-- a chain of the first sample
pub chain_one : (g : ℕ → ℕ) (N f : ℕ) (x v q : List ℕ) → get_or x 0 0 ≡ 0 → get_or v 0 0 ≡ (N + 1) * 0 + g (f + 0) → Chain g N f x v q 0 0 1 0
chain_one g N f x v q hx hv = record {
  order = record {
    some = omega arith;
    before = λ i h k. subst (λ (i : ℕ). get_or x i 0 < 1) (nil i k) (omega (arith, hx));
    value = λ i h k. subst (λ (i : ℕ). get_or v i 0 ≡ (N + 1) * get_or x i 0 + g (f + get_or x i 0)) (nil i k) (hv ∙ ap (λ (n : ℕ). (N + 1) * n + g (f + n)) (sym hx));
    splits = λ i j h k n. absurd (omega arith);
    ordered = λ i j h k n. absurd (omega arith);
  };
  cover = record { covers = λ p a b h u k n. subst (λ (k : ℕ). Under g N f p a b k) (hx ∙ nil k (omega arith)) (u 0 (omega arith) (omega arith)) };
}
  where
    nil : (i : ℕ) → i ≤ 0 → 0 ≡ i
    nil i h = omega arith
