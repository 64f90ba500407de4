-- Laws of `all_below` and `firstNot`. Assumes nothing.
use mathlib.Core.Path.{◌≡◌, refl, sym, ap, ◌∙◌}
use Prim.Native.Nat.{ℕ, zero, suc, ◌+◌, ◌≤◌, ◌<◌}
use mathlib.Core.Bool.{Bool, true, false, ◌&&◌}
use native.Mathlib.Nat.{not-suc-le-zero, le_of_suc-le-suc, le_refl, add-zero, add-suc}
use lib.Arith.{lt_of_le-ne}
use native.Mathlib.Numerals.{add-one}
use native.Mathlib.Omega.{arith}
use native.Mathlib.Decide.{ℕ_discrete, dec_lt}
use mathlib.Core.Logic.{◌⊎◌, inl, inr, ⊎_elim}
use lib.Dec.{eqb}
use borrow.Author.Tests.{lt-ltb, le-ltb, eq-eqb, ne_eqb, eqb-true}
use Rattle.whole.specs.Each.{all_below, first_not}
use Rattle.whole.proofs.Linear.{and_true, no_ft}
use Rattle.whole.proofs.Tests.{and_yes, same_test}

-- ---- all_below

each : (n i : ℕ) (p : ℕ → Bool) → i < suc n → all_below n p && p n ≡ true → (i < n → all_below n p ≡ true → p i ≡ true) → Dec (i ≡ n) → p i ≡ true
each n i p h k r (yes e) = ap p e ∙ (and_true (all_below n p) (p n) k).1
each n i p h k r (no f) = r (lt_of_le-ne (le_of_suc-le-suc h) f) (and_true (all_below n p) (p n) k).0

-- what holds of all of them holds of each, and back
pub below_each : (n i : ℕ) (p : ℕ → Bool) → i < n → all_below n p ≡ true → p i ≡ true
unfolding all_below
below_each zero i p h k = absurd (not-suc-le-zero h)
below_each (suc n) i p h k = each n i p h k (below_each n i p) (ℕ_discrete i n)

pub below_all : (n : ℕ) (p : ℕ → Bool) → ((i : ℕ) → i < n → p i ≡ true) → all_below n p ≡ true
unfolding all_below
below_all zero p h = refl
below_all (suc n) p h = rw (below_all n p (λ i l. h i (omega arith)), h n (omega arith))

-- as a loop finds it: one number more, or one that fails
pub below_next : (n : ℕ) (p : ℕ → Bool) → all_below n p ≡ true → p n ≡ true → all_below (n + 1) p ≡ true
unfolding all_below
below_next n p h k = rw add-one (and_yes h k)

fails : (n i : ℕ) (p : ℕ → Bool) → i < n → p i ≡ false → (b : Bool) → all_below n p ≡ b → b ≡ false
fails n i p l k true e = no_ft (sym k ∙ below_each n i p l e)
fails n i p l k false e = refl

pub below_fails : (n i : ℕ) (p : ℕ → Bool) → i < n → p i ≡ false → all_below n p ≡ false
below_fails n i p l k = fails n i p l k (all_below n p) refl

-- ---- first_not, as a loop finds it

pub first_zero : (p : ℕ → Bool) → first_not 0 p ≡ 0
unfolding first_not
first_zero p = refl

next : (n : ℕ) (p : ℕ → Bool) → first_not n p ≡ n → p n ≡ true → first_not (suc n) p ≡ suc n
unfolding first_not
next n p h k = rw (h, le-ltb n n (le_refl n), k)

pub first_next : (n : ℕ) (p : ℕ → Bool) → first_not n p ≡ n → p n ≡ true → first_not (n + 1) p ≡ n + 1
first_next n p h k = rw add-one (next n p h k)

stop : (n : ℕ) (p : ℕ → Bool) → first_not n p ≡ n → p n ≡ false → first_not (suc n) p ≡ n
unfolding first_not
stop n p h k = rw (h, le-ltb n n (le_refl n), k)

stays : (n i : ℕ) (p : ℕ → Bool) → first_not n p ≡ i → i < n → first_not (suc n) p ≡ i
unfolding first_not
stays n i p h l = rw (h, lt-ltb i n l)

pub first_stays : (n d i : ℕ) (p : ℕ → Bool) → first_not n p ≡ i → i < n → first_not (n + d) p ≡ i
first_stays n zero i p h l = rw (add-zero n) h
first_stays n (suc d) i p h l = rw (add-suc n d) (stays (n + d) i p (first_stays n d i p h l) (omega arith))

hit : (n i : ℕ) (p : ℕ → Bool) → i < suc n → first_not i p ≡ i → p i ≡ false → (i < n → first_not n p ≡ i) → Dec (i ≡ n) → first_not (suc n) p ≡ i
hit n i p l h k r (yes e) = let f : first_not n p ≡ n = rw e at h in let g : p n ≡ false = rw e at k in stop n p f g ∙ sym e
hit n i p l h k r (no f) = let m : i < n = lt_of_le-ne (le_of_suc-le-suc l) f in stays n i p (r m) m

pub first_hit : (n i : ℕ) (p : ℕ → Bool) → i < n → first_not i p ≡ i → p i ≡ false → first_not n p ≡ i
first_hit zero i p l h k = absurd (not-suc-le-zero l)
first_hit (suc n) i p l h k = hit n i p l h k (λ m. first_hit n i p m h k) (ℕ_discrete i n)

-- ---- what first_not says

cases : (n : ℕ) (p : ℕ → Bool) → Dec (first_not n p < n) → (b : Bool) → p n ≡ b
    → ((first_not n p < n) × (first_not (suc n) p ≡ first_not n p))
    ⊎ (((n ≤ first_not n p) × (p n ≡ false) × (first_not (suc n) p ≡ n)) ⊎ ((n ≤ first_not n p) × (p n ≡ true) × (first_not (suc n) p ≡ suc n)))
unfolding first_not
cases n p (yes l) b e = inl (l, rw (lt-ltb _ _ l))
cases n p (no l) false e = let k : n ≤ first_not n p = omega arith in inr (inl (k, e, rw (le-ltb _ _ k, e)))
cases n p (no l) true e = let k : n ≤ first_not n p = omega arith in inr (inr (k, e, rw (le-ltb _ _ k, e)))

by_cases : (n : ℕ) (p : ℕ → Bool)
    → ((first_not n p < n) × (first_not (suc n) p ≡ first_not n p))
    ⊎ (((n ≤ first_not n p) × (p n ≡ false) × (first_not (suc n) p ≡ n)) ⊎ ((n ≤ first_not n p) × (p n ≡ true) × (first_not (suc n) p ≡ suc n)))
by_cases n p = cases n p (dec_lt (first_not n p) n) (p n) refl

pub first-most : (n : ℕ) (p : ℕ → Bool) → first_not n p ≤ n
first-most zero p = rw (first_zero p) (le_refl 0)
first-most (suc n) p =
    ⊎_elim (λ w. omega (arith, w.0, w.1)) (⊎_elim (λ w. omega (arith, w.2)) (λ w. omega (arith, w.2))) (by_cases n p)

-- where it is below n, p fails there
pub first_fails : (n : ℕ) (p : ℕ → Bool) → first_not n p < n → p (first_not n p) ≡ false
first_fails zero p h = absurd (not-suc-le-zero h)
first_fails (suc n) p h =
    ⊎_elim (λ w. ap p w.1 ∙ first_fails n p w.0)
    (⊎_elim (λ w. ap p w.2 ∙ w.1) (λ w. absurd (omega (arith, w.2, h))))
    (by_cases n p)

at_last : (n i : ℕ) (p : ℕ → Bool) → p n ≡ true → i < suc n → (i < n → p i ≡ true) → Dec (i ≡ n) → p i ≡ true
at_last n i p e l r (yes q) = ap p q ∙ e
at_last n i p e l r (no f) = r (lt_of_le-ne (le_of_suc-le-suc l) f)

-- and before it p holds
pub first-before : (n i : ℕ) (p : ℕ → Bool) → i < first_not n p → i < n → p i ≡ true
first-before zero i p h l = absurd (not-suc-le-zero l)
first-before (suc n) i p h l =
    ⊎_elim (λ w. first-before n i p (omega (arith, w.1, h)) (omega (arith, w.0, w.1, h)))
    (⊎_elim (λ w. first-before n i p (omega (arith, w.0, w.2, h)) (omega (arith, w.2, h)))
    (λ w. at_last n i p w.1 l (λ k. first-before n i p (omega (arith, w.0, k)) k) (ℕ_discrete i n)))
    (by_cases n p)

-- so that it is n exactly where p holds of all below n
pub all_none : (n : ℕ) (p : ℕ → Bool) → all_below n p ≡ true → first_not n p ≡ n
unfolding all_below
all_none zero p h = first_zero p
all_none (suc n) p h = let k = and_true (all_below n p) (p n) h in next n p (all_none n p k.0) k.1

pub none_all : (n : ℕ) (p : ℕ → Bool) → first_not n p ≡ n → all_below n p ≡ true
none_all n p h = below_all n p (λ i l. first-before n i p (omega arith) l)

pub all_first : (n : ℕ) (p : ℕ → Bool) → all_below n p ≡ eqb (first_not n p) n
all_first n p = same_test _ _ (λ h. eq-eqb _ _ (all_none n p h)) (λ h. none_all n p (eqb-true _ _ h))

pub some_first : (n : ℕ) (p : ℕ → Bool) → first_not n p < n → all_below n p ≡ false
some_first n p h = all_first n p ∙ ne_eqb (first_not n p) n (λ e. omega (arith, e, h))

-- tests that stand behind a others, b of them
pub first_add : (a b : ℕ) (p q : ℕ → Bool) → first_not a p ≡ a → ((k : ℕ) → k < b → p (a + k) ≡ q k) → first_not (a + b) p ≡ a + first_not b q
first_add a zero p q h e = rw (add-zero a, first_zero q, add-zero a) h
first_add a (suc b) p q h e =
    let r : first_not (a + b) p ≡ a + first_not b q = first_add a b p q h (λ k l. e k (omega arith)) in
    let s = e b (omega arith) in
    rw (add-suc a b)
    (⊎_elim (λ w. stays (a + b) (a + first_not b q) p r (omega (arith, w.0)) ∙ ap (λ (n : ℕ). a + n) (sym w.1))
    (⊎_elim
    (λ w. let m : first_not (a + b) p ≡ a + b = omega (arith, r, w.0, first-most b q) in stop (a + b) p m (s ∙ w.1) ∙ ap (λ (n : ℕ). a + n) (sym w.2))
    (λ w. let m : first_not (a + b) p ≡ a + b = omega (arith, r, w.0, first-most b q) in next (a + b) p m (s ∙ w.1) ∙ sym (ap (λ (n : ℕ). a + n) w.2 ∙ add-suc a b)))
    (by_cases b q))

pub all_past : (n : ℕ) (p : ℕ → Bool) → n ≤ first_not n p → all_below n p ≡ true
all_past n p h = none_all n p (omega (arith, first-most n p))

-- tests that are the same below n
pub first-same : (n : ℕ) (p q : ℕ → Bool) → ((i : ℕ) → i < n → p i ≡ q i) → first_not n p ≡ first_not n q
unfolding first_not
first-same zero p q e = refl
first-same (suc n) p q e = rw (first-same n p q (λ i l. e i (omega arith)), e n (omega arith))

pub all_same : (n : ℕ) (p q : ℕ → Bool) → ((i : ℕ) → i < n → p i ≡ q i) → all_below n p ≡ all_below n q
unfolding all_below
all_same zero p q e = refl
all_same (suc n) p q e = rw (all_same n p q (λ i l. e i (omega arith)), e n (omega arith))

not_all' : (n : ℕ) (p : ℕ → Bool) → all_below n p ≡ false → Dec (first_not n p < n) → first_not n p < n
not_all' n p h (yes l) = l
not_all' n p h (no l) = let k : n ≤ first_not n p = omega arith in no_ft (sym h ∙ all_past n p k)

pub not_all : (n : ℕ) (p : ℕ → Bool) → all_below n p ≡ false → first_not n p < n
not_all n p h = not_all' n p h (dec_lt (first_not n p) n)
