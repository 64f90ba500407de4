-- Laws of R, floor and modulo: symmetry, size, nearness, exactness at a multiple, order; and of the line between two days.
use mathlib.Core.Path.{◌≡◌, refl, sym, ap, ◌∙◌}
use Prim.Native.Nat.{ℕ, zero, suc, ◌+◌, ◌*◌, ◌/◌, ◌≤◌, ◌<◌}
use Prim.Native.Nat.{◌-◌, ◌%◌}
use native.Mathlib.Nat.{div-mul-le_self, le-div_iff_mul-le, mul-div-le, lt-div-mul-add, div-eq_of_lt-le, mod-lt, div-add-mod', div-lt_iff_lt-mul, mul-le-mul_left, le_of_suc-le-suc, mul-pos}
use native.Mathlib.Omega.{arith}
use native.Mathlib.Nat.{add-zero, zero-add, div-div-eq-div-mul, div-le_of_le-mul, mod_self, mod-eq_of_lt, sub-zero}
use lib.Dec.{leb-suc-zero}
use mathlib.Core.Bool.{Bool, true, false}
use lib.Signed.{le_z, lt_z, ◌≤ℤ◌, ◌<ℤ◌}
use lib.IntN.{ℤ, pos, negsuc, neg_ℤ, neg_ℤ-neg_ℤ, ◌+ℤ◌, ◌-ℤ◌, ◌*ℤ◌}
use Rattle.whole.specs.Steps.{half_for}
use Rattle.whole.specs.Whole.{near, R, sign_of, floor_z, mod_z, line}
use Rattle.whole.specs.Whole.{pos_part, neg_part, ∣◌∣}
use Rattle.whole.proofs.Linear.{add_law, pos_part-neg, neg_part-neg, zarith, mul_nonneg, mul_mono, abs_of, le_parts, le_z_true, le_z_false, ⇒le}
use Rattle.whole.proofs.Quote.{⟨◌⟩, #, ◌⊕◌, ◌⊝◌, ◌⊗◌, ⊖, bal, by≡, by≤, by<, of≡, of≤, of<}

pub near_le : (a b : ℕ) → 0 < b → near a b ≤ a
near_le a b h =
    le_of_suc-le-suc ((div-lt_iff_lt-mul (mul-pos {m = 2} {n = b} (omega arith) h)).1 (omega (arith, mul-le-mul_left (2 * a) h)))

pub near_zero : (b : ℕ) → 0 < b → near 0 b ≡ 0
near_zero b h = omega (arith, near_le 0 b h)

pub R_neg : (z : ℤ) (b : ℕ) → 0 < b → R (neg_ℤ z) b ≡ neg_ℤ (R z b)
R_neg (pos zero) b h = simp (near_zero b h)
R_neg (pos (suc n)) b h = refl
R_neg (negsuc n) b h = sym (neg_ℤ-neg_ℤ (pos (near (suc n) b)))

pub R_abs : (z : ℤ) (b : ℕ) → 0 < b → ∣ R z b ∣ ≤ ∣ z ∣
R_abs (pos n) b h = omega (arith, near_le n b h)
R_abs (negsuc n) b h = omega (arith, near_le (suc n) b h, pos_part-neg (pos (near (suc n) b)), neg_part-neg (pos (near (suc n) b)))

-- a number by its sign and its size
pub sign_split : (z : ℤ) → sign_of (lt_z z (pos 0)) ∣ z ∣ ≡ z
sign_split (pos n) = simp (leb-suc-zero, add-zero)
sign_split (negsuc n) = simp zero-add

-- and by any test that tells its sign
pub sign_by : (t : Bool) (z : ℤ) → (t ≡ true → z ≤ℤ pos 0) → (t ≡ false → pos 0 ≤ℤ z) → sign_of t ∣ z ∣ ≡ z
sign_by true (pos n) neg non = let l = neg refl in let e : n ≡ 0 = omega zarith in rw e
sign_by true (negsuc n) neg non = simp zero-add
sign_by false (pos n) neg non = simp add-zero
sign_by false (negsuc n) neg non = absurd (non refl).le

-- ---- how far: |2 (z - R z b · b)| ≤ b
pub near_lo : (a b : ℕ) → 2 * (near a b * b) ≤ 2 * a + b
near_lo a b = omega (arith, mul-div-le (2 * a + b) (2 * b))

pub near_hi : (a b : ℕ) → 0 < b → 2 * a < 2 * (near a b * b) + b
near_hi a b h = omega (arith, lt-div-mul-add {a = 2 * a + b} {b = 2 * b} (mul-pos {m = 2} {n = b} (omega arith) h))

-- |x| from both sides, where x is u less d
pub abs_diff : (x : ℤ) (u d k : ℕ) → pos_part x + d ≡ neg_part x + u → 2 * u ≤ 2 * d + k → 2 * d ≤ 2 * u + k → 2 * ∣ x ∣ ≤ k
abs_diff (pos n) u d k e h l = omega arith
abs_diff (negsuc n) u d k e h l = omega arith

pub R_near : (z : ℤ) (b : ℕ) → 0 < b → 2 * ∣ z -ℤ R z b *ℤ pos b ∣ ≤ b
R_near (pos a) b h =
    abs_diff (pos a -ℤ pos (near a b * b)) a (near a b * b) b (omega (arith, bal (# a ⊝ # (near a b * b)))) (omega (arith, near_hi a b h)) (omega (arith, near_lo a b))
R_near (negsuc a) b h =
    let q = near (suc a) b in
    abs_diff (negsuc a -ℤ neg_ℤ (pos q) *ℤ pos b) (q * b) (suc a) b (omega (arith, bal (⟨ negsuc a ⟩ ⊝ ⊖ (# q) ⊗ # b))) (omega (arith, near_lo (suc a) b)) (omega (arith, near_hi (suc a) b h))

-- ---- exact at a multiple
pub near_mul : (a b : ℕ) → 0 < b → near (a * b) b ≡ a
near_mul a b h = div-eq_of_lt-le (2 * b) (omega arith) (omega arith)

pub R_mul : (z : ℤ) (b : ℕ) → 0 < b → R (z *ℤ pos b) b ≡ z
R_mul (pos a) b h = ap pos (near_mul a b h)
R_mul (negsuc a) b h = R_neg (pos (suc a * b)) b h ∙ ap (λ (n : ℕ). neg_ℤ (pos n)) (near_mul (suc a) b h)

-- ---- swapping the ends turns the step round
pub swap : (v0 v1 u : ℤ) → line v0 v1 u -ℤ v0 ≡ neg_ℤ (line v1 v0 u -ℤ v1)
swap v0 v1 u =
    let r = R ((v1 -ℤ v0) *ℤ u) 86400000 in
    let e : R ((v0 -ℤ v1) *ℤ u) 86400000 ≡ neg_ℤ r =
    ap (λ (z : ℤ). R z 86400000) (by≡ ((⟨ v0 ⟩ ⊝ ⟨ v1 ⟩) ⊗ ⟨ u ⟩) (⊖ ((⟨ v1 ⟩ ⊝ ⟨ v0 ⟩) ⊗ ⟨ u ⟩)) (omega arith)) ∙ R_neg ((v1 -ℤ v0) *ℤ u) 86400000 (omega arith) in
    by≡ (⟨ v0 ⟩ ⊕ ⟨ r ⟩ ⊝ ⟨ v0 ⟩) (⊖ (⟨ v1 ⟩ ⊕ ⊖ ⟨ r ⟩ ⊝ ⟨ v1 ⟩)) (omega arith) ∙ ap (λ (z : ℤ). neg_ℤ (v1 +ℤ z -ℤ v1)) (sym e)

-- ---- rounded down: the quotient and the rest
pub mod_below : (z : ℤ) (b : ℕ) → 0 < b → mod_z z b < b
mod_below (pos a) b h = mod-lt a h
mod_below (negsuc a) b h = omega (arith, mod-lt a h)

pub floor_mod : (z : ℤ) (b : ℕ) → 0 < b → floor_z z b *ℤ pos b +ℤ pos (mod_z z b) ≡ z
floor_mod (pos a) b h = ap pos (div-add-mod' a b)
floor_mod (negsuc a) b h =
    by≡ (⟨ negsuc (a / b) ⟩ ⊗ # b ⊕ # (b - suc (a % b))) ⟨ negsuc a ⟩ (omega (arith, mod-lt a h, div-add-mod' a b))

-- ---- monotone, and so between the ends
pub near_mono : (a c b : ℕ) → 0 < b → a ≤ c → near a b ≤ near c b
near_mono a c b h k = (le-div_iff_mul-le (mul-pos {m = 2} {n = b} (omega arith) h)).1 (omega (arith, div-mul-le_self (2 * a + b) (2 * b)))

pub R_mono : (z w : ℤ) (b : ℕ) → 0 < b → z ≤ℤ w → R z b ≤ℤ R w b
R_mono (pos a) (pos c) b h k = omega (zarith, near_mono a c b h (omega zarith))
R_mono (pos a) (negsuc c) b h k = absurd k.le
R_mono (negsuc a) (pos c) b h k = omega (zarith, pos_part-neg (pos (near (suc a) b)), neg_part-neg (pos (near (suc a) b)))
R_mono (negsuc a) (negsuc c) b h k =
    omega (zarith, near_mono (suc c) (suc a) b h (omega zarith), pos_part-neg (pos (near (suc a) b)), neg_part-neg (pos (near (suc a) b)), pos_part-neg (pos (near (suc c) b)), neg_part-neg (pos (near (suc c) b)))

pub between : (v0 v1 u : ℤ) → v0 ≤ℤ v1 → pos 0 ≤ℤ u → u ≤ℤ pos 86400000 → (v0 ≤ℤ line v0 v1 u) × (line v0 v1 u ≤ℤ v1)
between v0 v1 u h lo hi =
    let d = v1 -ℤ v0 in
    let r = R (d *ℤ u) 86400000 in
    let nd : pos 0 ≤ℤ d = by≤ (# 0) (⟨ v1 ⟩ ⊝ ⟨ v0 ⟩) (omega zarith) in
    let l : pos 0 ≤ℤ r = R_mono (pos 0) (d *ℤ u) 86400000 (omega arith) (mul_nonneg d u nd lo) in
    let m : r ≤ℤ d = rw (R_mul d 86400000 (omega arith)) at (R_mono (d *ℤ u) (d *ℤ pos 86400000) 86400000 (omega arith) (mul_mono d u (pos 86400000) nd hi)) in
    (by≤ ⟨ v0 ⟩ (⟨ v0 ⟩ ⊕ ⟨ r ⟩) (omega zarith), by≤ (⟨ v0 ⟩ ⊕ ⟨ r ⟩) ⟨ v1 ⟩ (omega (zarith, of≤ ⟨ r ⟩ (⟨ v1 ⟩ ⊝ ⟨ v0 ⟩) m)))

-- the mirrored law, line v0 v1 u ≡ line v1 v0 (86400000 - u), fails at a tie: halves go away from zero on both ways
tie_up : line (pos 0) (pos 1) (pos 43200000) ≡ pos 1
tie_up = refl

tie_down : line (pos 1) (pos 0) (pos 43200000) ≡ pos 0
tie_down = refl

-- ---- the code's forms of R
-- (a + h) / b is the nearest too, where h is half of b, rounded down
pub near_by : (a b h : ℕ) → 2 * h ≤ b → b ≤ 2 * h + 1 → (a + h) / b ≡ near a b
near_by a b h l u =
    let e : a + h ≡ (2 * a + b) / 2 = omega arith in
    ap (λ (n : ℕ). n / b) e ∙ div-div-eq-div-mul (2 * a + b) 2 b

pub near_half : (a b : ℕ) → (a + b / 2) / b ≡ near a b
near_half a b = near_by a b (b / 2) (omega arith) (omega arith)

-- the floor is the one whole number q with q·b ≤ z < q·b + b
pub floor_unique : (z q : ℤ) (b : ℕ) → 0 < b → (q *ℤ pos b) ≤ℤ z → z <ℤ (q *ℤ pos b +ℤ pos b) → floor_z z b ≡ q
floor_unique (pos a) (pos q) b h l u =
    ap pos (div-eq_of_lt-le b (omega (zarith, bal (# q ⊗ # b))) (omega (zarith, bal (# q ⊗ # b ⊕ # b))))
floor_unique (pos a) (negsuc q) b h l u = absurd (omega (zarith, bal (⟨ negsuc q ⟩ ⊗ # b ⊕ # b)))
floor_unique (negsuc a) (pos q) b h l u = absurd (omega (zarith, bal (# q ⊗ # b)))
floor_unique (negsuc a) (negsuc q) b h l u =
    ap negsuc
    (div-eq_of_lt-le b
    (omega (zarith, bal (⟨ negsuc q ⟩ ⊗ # b ⊕ # b)))
    (omega (zarith, bal (⟨ negsuc q ⟩ ⊗ # b))))

-- and it is such a number
pub floor_lo : (z : ℤ) (b : ℕ) → 0 < b → (floor_z z b *ℤ pos b) ≤ℤ z
floor_lo z b h =
    let e = floor_mod z b h in
    omega (zarith, add_law (floor_z z b *ℤ pos b) (pos (mod_z z b)))

pub floor_hi : (z : ℤ) (b : ℕ) → 0 < b → z <ℤ (floor_z z b *ℤ pos b +ℤ pos b)
floor_hi z b h =
    let e = floor_mod z b h in
    let q = floor_z z b *ℤ pos b in
    omega (zarith, add_law q (pos (mod_z z b)), add_law q (pos b), mod_below z b h)

-- what is left of z is the one m below b with z = q·b + m
pub mod_unique : (z q : ℤ) (b m : ℕ) → m < b → q *ℤ pos b +ℤ pos m ≡ z → mod_z z b ≡ m
mod_unique z q b m h e =
    let p : 0 < b = omega arith in
    let f = of≡ (⟨ q ⟩ ⊗ # b ⊕ # m) ⟨ z ⟩ e in
    let g : floor_z z b ≡ q =
    floor_unique z q b p (by≤ (⟨ q ⟩ ⊗ # b) ⟨ z ⟩ (omega arith)) (by< ⟨ z ⟩ (⟨ q ⟩ ⊗ # b ⊕ # b) (omega arith)) in
    let i = ap (λ (x : ℤ). x *ℤ pos b +ℤ pos (mod_z z b)) (sym g) ∙ floor_mod z b p in
    omega (arith, of≡ (⟨ q ⟩ ⊗ # b ⊕ # (mod_z z b)) ⟨ z ⟩ i)

-- of a number with its sign turned
neg_by : (k q r b : ℕ) → r < b → q * b + r ≡ k → mod_z (neg_ℤ (pos k)) b ≡ (b - r) % b
neg_by k q zero b h e = mod_unique (neg_ℤ (pos k)) (neg_ℤ (pos q)) b 0 h (by≡ (⊖ (# q) ⊗ # b ⊕ # 0) (⊖ (# k)) (omega arith)) ∙ sym (ap (λ (n : ℕ). n % b) (sub-zero b) ∙ mod_self b)
neg_by k q (suc r) b h e =
    mod_unique (neg_ℤ (pos k)) (neg_ℤ (pos (q + 1))) b (b - suc r) (omega arith) (by≡ (⊖ (# (q + 1)) ⊗ # b ⊕ # (b - suc r)) (⊖ (# k)) (omega arith))
    ∙ sym (mod-eq_of_lt {n = b - suc r} {m = b} (omega arith))

pub mod_neg : (k b : ℕ) → 0 < b → mod_z (neg_ℤ (pos k)) b ≡ (b - k % b) % b
mod_neg k b h = neg_by k (k / b) (k % b) b (mod-lt k h) (div-add-mod' k b)

-- of a sum
pub mod_add : (c : ℕ) (z : ℤ) (b : ℕ) → 0 < b → mod_z (pos c +ℤ z) b ≡ (c + mod_z z b) % b
mod_add c z b h =
    let m = c + mod_z z b in
    let e = of≡ (⟨ floor_z z b ⟩ ⊗ # b ⊕ # (mod_z z b)) ⟨ z ⟩ (floor_mod z b h) in
    mod_unique (pos c +ℤ z) (pos (m / b) +ℤ floor_z z b) b (m % b) (mod-lt m h)
    (by≡ ((# (m / b) ⊕ ⟨ floor_z z b ⟩) ⊗ # b ⊕ # (m % b)) (# c ⊕ ⟨ z ⟩) (omega (arith, div-add-mod' m b)))

-- in two steps, the low part first: floor((2^15·h + l) / 2^30)
pub floor_steps : (h l : ℤ) → floor_z (pos 32768 *ℤ h +ℤ l) 1073741824 ≡ floor_z (h +ℤ floor_z l 32768) 32768
floor_steps h l =
    let f = floor_z l 32768 in
    let g = floor_z (h +ℤ f) 32768 in
    let a = floor_lo l 32768 (omega arith) in
    let b = floor_hi l 32768 (omega arith) in
    let c = floor_lo (h +ℤ f) 32768 (omega arith) in
    let d = floor_hi (h +ℤ f) 32768 (omega arith) in
    floor_unique (pos 32768 *ℤ h +ℤ l) g 1073741824 (omega arith)
    (by≤ (⟨ g ⟩ ⊗ # 1073741824) (# 32768 ⊗ ⟨ h ⟩ ⊕ ⟨ l ⟩) (omega (zarith, of≤ (⟨ f ⟩ ⊗ # 32768) ⟨ l ⟩ a, of≤ (⟨ g ⟩ ⊗ # 32768) (⟨ h ⟩ ⊕ ⟨ f ⟩) c)))
    (by< (# 32768 ⊗ ⟨ h ⟩ ⊕ ⟨ l ⟩) (⟨ g ⟩ ⊗ # 1073741824 ⊕ # 1073741824) (omega (zarith, of< ⟨ l ⟩ (⟨ f ⟩ ⊗ # 32768 ⊕ # 32768) b, of< (⟨ h ⟩ ⊕ ⟨ f ⟩) (⟨ g ⟩ ⊗ # 32768 ⊕ # 32768) d)))

-- a bound on the floor, and on what is left
pub floor_abs : (z : ℤ) (b k : ℕ) → 0 < b → ∣ z ∣ ≤ k * b → ∣ floor_z z b ∣ ≤ k
floor_abs (pos a) b k h l = omega (arith, div-le_of_le-mul b {m = a} {n = k} (omega arith))
floor_abs (negsuc a) b k h l = omega (arith, (div-lt_iff_lt-mul {x = a} {y = k} h).1 (omega arith))

-- R by a floor, for an even divisor
pub R_floor : (z : ℤ) (h : ℕ) → 0 < h → floor_z (z +ℤ half_for z (pos h)) (2 * h) ≡ R z (2 * h)
R_floor (pos a) h l =
    let e : h ≡ 2 * h / 2 = omega arith in
    ap pos (ap (λ (k : ℕ). (a + k) / (2 * h)) e ∙ near_half a (2 * h))
R_floor (negsuc a) h l =
    let b = 2 * h in
    let n = near (suc a) b in
    floor_unique (negsuc a +ℤ (pos h -ℤ pos 1)) (neg_ℤ (pos n)) b (omega arith)
    (by≤ (⊖ (# n) ⊗ # b) (⟨ negsuc a ⟩ ⊕ (# h ⊝ # 1)) (omega (arith, near_hi (suc a) b (omega arith))))
    (by< (⟨ negsuc a ⟩ ⊕ (# h ⊝ # 1)) (⊖ (# n) ⊗ # b ⊕ # b) (omega (arith, near_lo (suc a) b)))

pub half_above : (z h : ℤ) → pos 0 ≤ℤ z → half_for z h ≡ h
half_above (pos n) h l = refl
half_above (negsuc n) h l = absurd l.le

pub half_abs : (z : ℤ) (h : ℕ) → 0 < h → ∣ half_for z (pos h) ∣ ≤ h
half_abs (pos n) h l = omega arith
half_abs (negsuc n) h l =
    let e : pos h -ℤ pos 1 ≡ pos (h - 1) = by≡ (# h ⊝ # 1) (# (h - 1)) (omega arith) in
    rw e (omega arith)

-- the sign of 2^15·h + l is that of its floor by 2^15
half_by : (a b : ℤ) → (a *ℤ pos 32768) ≤ℤ b → b <ℤ (a *ℤ pos 32768 +ℤ pos 32768) → (k : ℤ) → half_for a k ≡ half_for b k
half_by (pos m) (pos n) l u k = refl
half_by (pos m) (negsuc n) l u k = absurd (omega (zarith, bal (# m ⊗ # 32768)))
half_by (negsuc m) (pos n) l u k = absurd (omega (zarith, bal (⟨ negsuc m ⟩ ⊗ # 32768 ⊕ # 32768)))
half_by (negsuc m) (negsuc n) l u k = refl

pub half_same : (h l k : ℤ) → half_for (h +ℤ floor_z l 32768) k ≡ half_for (pos 32768 *ℤ h +ℤ l) k
half_same h l k =
    let f = floor_z l 32768 in
    let a = floor_lo l 32768 (omega arith) in
    let b = floor_hi l 32768 (omega arith) in
    half_by (h +ℤ f) (pos 32768 *ℤ h +ℤ l)
    (by≤ ((⟨ h ⟩ ⊕ ⟨ f ⟩) ⊗ # 32768) (# 32768 ⊗ ⟨ h ⟩ ⊕ ⟨ l ⟩) (omega (arith, of≤ (⟨ f ⟩ ⊗ # 32768) ⟨ l ⟩ a)))
    (by< (# 32768 ⊗ ⟨ h ⟩ ⊕ ⟨ l ⟩) ((⟨ h ⟩ ⊕ ⟨ f ⟩) ⊗ # 32768 ⊕ # 32768) (omega (arith, of< ⟨ l ⟩ (⟨ f ⟩ ⊗ # 32768 ⊕ # 32768) b))) k

-- the two steps of the code: the half goes to the low part
pub R_steps : (h l : ℤ) → floor_z (h +ℤ floor_z (l +ℤ half_for (h +ℤ floor_z l 32768) (pos 536870912)) 32768) 32768 ≡ R (pos 32768 *ℤ h +ℤ l) 1073741824
R_steps h l =
    let z = pos 32768 *ℤ h +ℤ l in
    ap (λ (x : ℤ). floor_z (h +ℤ floor_z (l +ℤ x) 32768) 32768) (half_same h l (pos 536870912))
    ∙ sym (floor_steps h (l +ℤ half_for z (pos 536870912)))
    ∙ ap (λ (x : ℤ). floor_z x 1073741824) (by≡ (# 32768 ⊗ ⟨ h ⟩ ⊕ (⟨ l ⟩ ⊕ ⟨ half_for z (pos 536870912) ⟩)) (# 32768 ⊗ ⟨ h ⟩ ⊕ ⟨ l ⟩ ⊕ ⟨ half_for z (pos 536870912) ⟩) (omega arith))
    ∙ R_floor z 536870912 (omega arith)

-- R of a number of at most k·b is at most k
near_size : (a b k : ℕ) → 0 < b → a ≤ k * b → near a b ≤ k
near_size a b k h l = rw (near_mul k b h) at (near_mono a (k * b) b h l)

pub R_size : (z : ℤ) (b k : ℕ) → 0 < b → ∣ z ∣ ≤ k * b → ∣ R z b ∣ ≤ k
R_size (pos a) b k h l = omega (arith, near_size a b k h (omega arith))
R_size (negsuc a) b k h l =
    omega (arith, near_size (suc a) b k h (omega arith), pos_part-neg (pos (near (suc a) b)), neg_part-neg (pos (near (suc a) b)))

-- a value between two days is no larger than the larger of the days' values
between_size : (z v w : ℤ) (k : ℕ) → v ≤ℤ z → z ≤ℤ w → ∣ v ∣ ≤ k → ∣ w ∣ ≤ k → ∣ z ∣ ≤ k
between_size z v w k l u a b = abs_of z k (omega (arith, le_parts u)) (omega (arith, le_parts l))

line_by : (v0 v1 u : ℤ) (k : ℕ) → pos 0 ≤ℤ u → u ≤ℤ pos 86400000 → ∣ v0 ∣ ≤ k → ∣ v1 ∣ ≤ k → (t : Bool) → le_z v0 v1 ≡ t → ∣ line v0 v1 u ∣ ≤ k
line_by v0 v1 u k lo hi a b true e =
    let h = between v0 v1 u (⇒le v0 v1 (le_z_true v0 v1 e)) lo hi in
    between_size (line v0 v1 u) v0 v1 k h.0 h.1 a b
line_by v0 v1 u k lo hi a b false e =
    let n = le_z_false v0 v1 e in
    let o : v1 ≤ℤ v0 = omega zarith in
    let z = line v0 v1 u in
    let m = line v1 v0 u in
    let h = between v1 v0 u o lo hi in
    let s = of≡ (⟨ z ⟩ ⊝ ⟨ v0 ⟩) (⊖ (⟨ m ⟩ ⊝ ⟨ v1 ⟩)) (swap v0 v1 u) in
    let l = of≤ ⟨ v1 ⟩ ⟨ m ⟩ h.0 in
    let r = of≤ ⟨ m ⟩ ⟨ v0 ⟩ h.1 in
    between_size z v1 v0 k (by≤ ⟨ v1 ⟩ ⟨ z ⟩ (omega arith)) (by≤ ⟨ z ⟩ ⟨ v0 ⟩ (omega arith)) b a

pub line_size : (v0 v1 u : ℤ) (k : ℕ) → pos 0 ≤ℤ u → u ≤ℤ pos 86400000 → ∣ v0 ∣ ≤ k → ∣ v1 ∣ ≤ k → ∣ line v0 v1 u ∣ ≤ k
line_size v0 v1 u k lo hi a b = line_by v0 v1 u k lo hi a b (le_z v0 v1) refl
