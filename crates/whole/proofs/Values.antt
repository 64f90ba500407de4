-- Laws of `firstValues`: the values of a rule, and such values written one after another from the start of a room. Assumes nothing.
use mathlib.Core.Path.{◌≡◌, refl, sym, ap, ap₂, ◌∙◌}
use mathlib.Core.List.{List, [], ◌∷◌, ◌++◌, append_assoc, append-nil}
use Prim.Native.Nat.{ℕ, zero, suc, ◌+◌, ◌*◌, ◌≤◌, ◌<◌}
use native.Mathlib.Nat.{mul-zero, add-zero, add-suc, not-suc-le-zero, le_of_suc-le-suc}
use native.Mathlib.Omega.{arith}
use native.Mathlib.Decide.{ℕ_discrete}
use lib.Arith.{lt_of_le-ne}
use lib.ListN.{length, drop, get_or, set, length-append, length-drop, get_or-append}
use lib.Seq.{drop-cons, get_or-append-add, set_at}
use lib.IntN.{ℤ, pos}
use Rattle.whole.specs.Values.{first_values, joined}

pub values_long : (n : ℕ) (f : ℕ → ℤ) → length (first_values n f) ≡ n
unfolding first_values
values_long zero f = refl
values_long (suc n) f = length-append (first_values n f) (f n ∷ []) ∙ omega (arith, values_long n f)

last_at : (n j : ℕ) (f : ℕ → ℤ) → j < suc n → (j < n → get_or (first_values n f) j (pos 0) ≡ f j) → Dec (j ≡ n) → get_or (first_values n f ++ (f n ∷ [])) j (pos 0) ≡ f j
last_at n j f l r (yes e) =
    let k : j ≡ length (first_values n f) + 0 = omega (arith, e, values_long n f) in
    ap (λ (i : ℕ). get_or (first_values n f ++ (f n ∷ [])) i (pos 0)) k ∙ get_or-append-add (first_values n f) (f n ∷ []) 0 (pos 0) ∙ ap f (sym e)
last_at n j f l r (no h) =
    let m : j < n = lt_of_le-ne (le_of_suc-le-suc l) h in
    get_or-append (first_values n f) (f n ∷ []) (pos 0) j (omega (arith, values_long n f, m)) ∙ r m

pub value_at : (n j : ℕ) (f : ℕ → ℤ) → j < n → get_or (first_values n f) j (pos 0) ≡ f j
unfolding first_values
value_at zero j f l = absurd (not-suc-le-zero l)
value_at (suc n) j f l = last_at n j f l (value_at n j f) (ℕ_discrete j n)

pub values_same : (n : ℕ) (f g : ℕ → ℤ) → ((k : ℕ) → k < n → f k ≡ g k) → first_values n f ≡ first_values n g
unfolding first_values
values_same zero f g e = refl
values_same (suc n) f g e = ap₂ (λ (x : List ℤ) (y : ℤ). x ++ (y ∷ [])) (values_same n f g (λ k l. e k (omega arith))) (e n (omega arith))

pub values_join : (a b : ℕ) (g : ℕ → ℤ) → first_values a g ++ first_values b (λ (k : ℕ). g (a + k)) ≡ first_values (a + b) g
unfolding first_values
values_join a zero g = append-nil (first_values a g) ∙ ap (λ (n : ℕ). first_values n g) (sym (add-zero a))
values_join a (suc b) g =
    sym (append_assoc (first_values a g) (first_values b (λ (k : ℕ). g (a + k))) (g (a + b) ∷ []))
    ∙ ap (λ (x : List ℤ). x ++ (g (a + b) ∷ [])) (values_join a b g)
    ∙ ap (λ (n : ℕ). first_values n g) (sym (add-suc a b))

-- ---- written from the start of a room

-- the room keeps its length
pub room-length : (i : ℕ) (f : ℕ → ℤ) (room : List ℤ) → i ≤ length room → length (first_values i f ++ drop i room) ≡ length room
room-length i f room h =
    length-append (first_values i f) (drop i room) ∙ omega (arith, values_long i f, length-drop i room)

-- none is written yet
pub value_none : (f : ℕ → ℤ) (room : List ℤ) → room ≡ first_values 0 f ++ drop 0 room
unfolding first_values
value_none f room = refl

-- one more
pub value-next : (i : ℕ) (f : ℕ → ℤ) (room : List ℤ) → i < length room → set (first_values i f ++ drop i room) i (f i) ≡ first_values (suc i) f ++ drop (suc i) room
unfolding first_values
value-next i f room h =
    ap (λ (t : List ℤ). set (first_values i f ++ t) i (f i)) (drop-cons room i (pos 0) h)
    ∙ set_at (first_values i f) (get_or room i (pos 0)) (drop (suc i) room) (f i) i (values_long i f)
    ∙ sym (append_assoc (first_values i f) (f i ∷ []) (drop (suc i) room))

-- value j of them
pub sample_at_lem : (n : ℕ) (f : ℕ → ℤ) (rest : List ℤ) (j : ℕ) → j < n → get_or (first_values n f ++ rest) j (pos 0) ≡ f j
sample_at_lem n f rest j h = get_or-append (first_values n f) rest (pos 0) j (rw (values_long n f) h) ∙ value_at n j f h

-- ---- lists joined: how long they are, where each is as long

pub joined_even : {A : Type 0} (f : ℕ → List A) (size n : ℕ) → ((i : ℕ) → i < n → length (f i) ≡ size) → length (joined n f) ≡ size * n
unfolding joined
joined_even f size zero e = sym (mul-zero size)
joined_even f size (suc n) e = length-append (joined n f) (f n) ∙ omega (arith, joined_even f size n (λ i l. e i (omega arith)), e n (omega arith))

-- lists that are the same
pub joined_same : {A : Type 0} (f g : ℕ → List A) (n : ℕ) → ((i : ℕ) → i < n → f i ≡ g i) → joined n f ≡ joined n g
unfolding joined
joined_same f g zero e = refl
joined_same f g (suc n) e = ap₂ (λ (x y : List _). x ++ y) (joined_same f g n (λ i l. e i (omega arith))) (e n (omega arith))
