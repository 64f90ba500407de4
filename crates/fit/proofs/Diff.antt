-- An integer as the difference of two naturals, `sub_ℕ a b`: its sums, products, size and order as facts of naturals, which `omega` reads.
use mathlib.Core.Path.{◌≡◌, sym, ap, ap₂, subst, ◌∙◌}
use mathlib.Core.Logic.{◌↔◌}
use Prim.Native.Nat.{ℕ, zero, suc, ◌+◌, ◌*◌, ◌-◌, ◌≤◌, ◌<◌}
use native.Mathlib.Nat.{add-mul, mul-add}
use native.Mathlib.Omega.{arith}
use lib.Dec.{ltb, ltb→lt, nltb→le, leb→le, le→leb}
use lib.IntN.{ℤ, pos, negsuc, neg_ℤ, sub_ℕ, ◌+ℤ◌, ◌-ℤ◌, ◌*ℤ◌}
use lib.Signed.{◌≤ℤ◌}
use Rattle.whole.specs.Whole.{∣◌∣}
use Rattle.fit.proofs.Tests.{by_test}

-- a difference is a natural, or less than 0
pub sub_ind : (a b : ℕ) (Q : ℤ → Type 0) → ((k : ℕ) → a ≡ b + k → Q (pos k)) → ((k : ℕ) → b ≡ suc (a + k) → Q (negsuc k)) → Q (sub_ℕ a b)
sub_ind a b Q f g = by_test (ltb a b) (negsuc (b - suc a)) (pos (a - b)) Q
    (λ t. g (b - suc a) (let l : a < b = ltb→lt a b t in omega arith))
    (λ t. f (a - b) (let l : b ≤ a = nltb→le a b t in omega arith))

pub sub_pos : (a b k : ℕ) → a ≡ b + k → sub_ℕ a b ≡ pos k
sub_pos a b k e = sub_ind a b (λ z. z ≡ pos k) (λ m h. ap pos (omega arith)) (λ m h. absurd (omega arith))

pub sub_neg : (a b k : ℕ) → b ≡ suc (a + k) → sub_ℕ a b ≡ negsuc k
sub_neg a b k e = sub_ind a b (λ z. z ≡ negsuc k) (λ m h. absurd (omega arith)) (λ m h. ap negsuc (omega arith))

pub sub_eq : (a b c d : ℕ) → a + d ≡ c + b → sub_ℕ a b ≡ sub_ℕ c d
sub_eq a b c d e = sub_ind c d (λ z. sub_ℕ a b ≡ z) (λ k h. sub_pos a b k (omega arith)) (λ k h. sub_neg a b k (omega arith))

-- each integer is a difference
unfoldable pub plus : ℤ → ℕ
plus (pos n) = n
plus (negsuc n) = 0

unfoldable pub minus : ℤ → ℕ
minus (pos n) = 0
minus (negsuc n) = suc n

pub sub_of : (z : ℤ) → z ≡ sub_ℕ (plus z) (minus z)
unfolding plus minus
sub_of (pos n) = sym (sub_pos n 0 n (omega arith))
sub_of (negsuc n) = sym (sub_neg 0 (suc n) n (omega arith))

pub sub_add : (a b c d : ℕ) → sub_ℕ a b +ℤ sub_ℕ c d ≡ sub_ℕ (a + c) (b + d)
sub_add a b c d = sub_ind a b (λ z. z +ℤ sub_ℕ c d ≡ sub_ℕ (a + c) (b + d))
    (λ k h. sub_ind c d (λ z. pos k +ℤ z ≡ sub_ℕ (a + c) (b + d))
    (λ m i. sym (sub_pos (a + c) (b + d) (k + m) (omega arith)))
    (λ m i. sub_eq k (suc m) (a + c) (b + d) (omega arith)))
    (λ k h. sub_ind c d (λ z. negsuc k +ℤ z ≡ sub_ℕ (a + c) (b + d))
    (λ m i. sub_eq m (suc k) (a + c) (b + d) (omega arith))
    (λ m i. sym (sub_neg (a + c) (b + d) (suc (k + m)) (omega arith))))

neg-pos : (m a b : ℕ) → b ≡ a + m → neg_ℤ (pos m) ≡ sub_ℕ a b
neg-pos zero a b e = sym (sub_pos a b 0 (omega arith))
neg-pos (suc m) a b e = sym (sub_neg a b m (omega arith))

pub neg_sub : (a b : ℕ) → neg_ℤ (sub_ℕ a b) ≡ sub_ℕ b a
neg_sub a b = sub_ind a b (λ z. neg_ℤ z ≡ sub_ℕ b a) (λ k h. neg-pos k b a h) (λ k h. sym (sub_pos b a (suc k) (omega arith)))

pub sub_sub : (a b c d : ℕ) → sub_ℕ a b -ℤ sub_ℕ c d ≡ sub_ℕ (a + d) (b + c)
sub_sub a b c d = ap (λ (z : ℤ). sub_ℕ a b +ℤ z) (neg_sub c d) ∙ sub_add a b d c

pub sub_mul : (a b j : ℕ) → sub_ℕ a b *ℤ pos j ≡ sub_ℕ (a * j) (b * j)
sub_mul a b j = sub_ind a b (λ z. z *ℤ pos j ≡ sub_ℕ (a * j) (b * j))
    (λ k h. sym (sub_pos (a * j) (b * j) (k * j) (ap (λ (z : ℕ). z * j) h ∙ add-mul b k j)))
    (λ k h. neg-pos (suc k * j) (a * j) (b * j) (ap (λ (z : ℕ). z * j) (up a b k h) ∙ add-mul a (suc k) j))
  where
    up : (a b k : ℕ) → b ≡ suc (a + k) → b ≡ a + suc k
    up a b k h = omega arith

-- the size of a difference, and the order of two
pub sub_abs : (a b m : ℕ) → (∣ sub_ℕ a b ∣ ≤ m) ↔ ((a ≤ b + m) × (b ≤ a + m))
sub_abs a b m = sub_ind a b (λ z. (∣ z ∣ ≤ m) ↔ ((a ≤ b + m) × (b ≤ a + m)))
    (λ k h. (λ l. omega arith, λ l. omega arith)) (λ k h. (λ l. omega arith, λ l. omega arith))

pub sub_le : (a b c d : ℕ) → a + d ≤ c + b → sub_ℕ a b ≤ℤ sub_ℕ c d
sub_le a b c d e = sub_ind a b (λ z. z ≤ℤ sub_ℕ c d)
    (λ k h. sub_ind c d (λ z. pos k ≤ℤ z) (λ m i. record { le = le→leb k m (omega arith) }) (λ m i. absurd (omega arith)))
    (λ k h. sub_ind c d (λ z. negsuc k ≤ℤ z) (λ m i. record { le = tt }) (λ m i. record { le = le→leb m k (omega arith) }))

pub mul_pos_add : (r : ℤ) (k j : ℕ) → r *ℤ pos k +ℤ r *ℤ pos j ≡ r *ℤ pos (k + j)
mul_pos_add r k j = subst (λ (z : ℤ). z *ℤ pos k +ℤ z *ℤ pos j ≡ z *ℤ pos (k + j)) (sym (sub_of r)) (at (plus r) (minus r))
  where
    at : (a b : ℕ) → sub_ℕ a b *ℤ pos k +ℤ sub_ℕ a b *ℤ pos j ≡ sub_ℕ a b *ℤ pos (k + j)
    at a b = ap₂ (λ (x y : ℤ). x +ℤ y) (sub_mul a b k) (sub_mul a b j) ∙ sub_add (a * k) (b * k) (a * j) (b * j)
        ∙ ap₂ (λ (x y : ℕ). sub_ℕ x y) (sym (mul-add a k j)) (sym (mul-add b k j)) ∙ sym (sub_mul a b (k + j))

pub ≤ℤ-antisym : (x y : ℤ) → x ≤ℤ y → y ≤ℤ x → x ≡ y
≤ℤ-antisym (pos a) (pos b) h k = ap pos (omega (arith, leb→le a b h.le, leb→le b a k.le))
≤ℤ-antisym (pos a) (negsuc b) h k = absurd h.le
≤ℤ-antisym (negsuc a) (pos b) h k = absurd k.le
≤ℤ-antisym (negsuc a) (negsuc b) h k = ap negsuc (omega (arith, leb→le b a h.le, leb→le a b k.le))
