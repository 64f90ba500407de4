-- ℤ read as two naturals, for `omega`: z is `posPart z` less `negPart z`. Each operation has a law that is linear in these, each test of order and each
-- equation is one statement of them, so a linear goal over ℤ is one `omega` with the laws of the sums that it names in the list.
use mathlib.Core.Path.{◌≡◌, refl, sym, ap, ◌∙◌, subst}
use mathlib.Core.Bool.{Bool, true, false, cond, ◌&&◌}
use Prim.Native.Nat.{ℕ, zero, suc, ◌+◌, ◌*◌, ◌-◌, ◌/◌, ◌^◌, ◌≤◌, ◌<◌}
use native.Mathlib.Omega.{arith}
use native.Mathlib.Nat.{lt_of_le_of_lt, div-le_self, mul-le-mul, mul-le-mul_left}
use lib.IntN.{ℤ, pos, negsuc, neg_ℤ, sub_ℕ, ◌+ℤ◌, ◌-ℤ◌, ◌*ℤ◌}
use lib.Dec.{T, ltb, ltb→lt, lt→ltb, leb→le, le→leb}
use lib.Signed.{mag, lt_z, le_z, ◌≤ℤ◌, ◌<ℤ◌, quot_z}
use borrow.Author.Tests.{ltb-true, ltb-false, leb-false}
use mir.Syntax.{w64}
use mir.Val.{SFits, to_z, of_z}
use mir.Facts.{to_z-of_z}
use Rattle.whole.specs.Whole.{pos_part, neg_part, ∣◌∣}
use Rattle.whole.specs.Ranges.{In}

sub_by : (a b : ℕ) (t : Bool) → ltb a b ≡ t → pos_part (cond t (negsuc (b - suc a)) (pos (a - b))) + b ≡ neg_part (cond t (negsuc (b - suc a)) (pos (a - b))) + a
sub_by a b true e = omega (arith, ltb-true a b e)
sub_by a b false e = omega (arith, ltb-false a b e)

pub sub_law : (a b : ℕ) → pos_part (sub_ℕ a b) + b ≡ neg_part (sub_ℕ a b) + a
sub_law a b = sub_by a b (ltb a b) refl

-- (a + b)⁺ + a⁻ + b⁻ = (a + b)⁻ + a⁺ + b⁺
pub add_law : (a b : ℤ) → pos_part (a +ℤ b) + (neg_part a + neg_part b) ≡ neg_part (a +ℤ b) + (pos_part a + pos_part b)
add_law (pos a) (pos b) = omega arith
add_law (pos a) (negsuc b) = omega (arith, sub_law a (suc b))
add_law (negsuc a) (pos b) = omega (arith, sub_law b (suc a))
add_law (negsuc a) (negsuc b) = omega arith

pub pos_part-neg : (a : ℤ) → pos_part (neg_ℤ a) ≡ neg_part a
pos_part-neg (pos zero) = refl
pos_part-neg (pos (suc n)) = refl
pos_part-neg (negsuc n) = refl

pub neg_part-neg : (a : ℤ) → neg_part (neg_ℤ a) ≡ pos_part a
neg_part-neg (pos zero) = refl
neg_part-neg (pos (suc n)) = refl
neg_part-neg (negsuc n) = refl

pub sub_lawℤ : (a b : ℤ) → pos_part (a -ℤ b) + (neg_part a + pos_part b) ≡ neg_part (a -ℤ b) + (pos_part a + neg_part b)
sub_lawℤ a b = omega (arith, add_law a (neg_ℤ b), pos_part-neg b, neg_part-neg b)

-- a * b, multiplied out
pub mul_pos_part : (a b : ℤ) → pos_part (a *ℤ b) ≡ pos_part a * pos_part b + neg_part a * neg_part b
mul_pos_part (pos a) (pos b) = omega arith
mul_pos_part (pos a) (negsuc b) = pos_part-neg (pos (a * suc b)) ∙ omega arith
mul_pos_part (negsuc a) (pos b) = pos_part-neg (pos (suc a * b)) ∙ omega arith
mul_pos_part (negsuc a) (negsuc b) = omega arith

pub mul_neg_part : (a b : ℤ) → neg_part (a *ℤ b) ≡ pos_part a * neg_part b + neg_part a * pos_part b
mul_neg_part (pos a) (pos b) = omega arith
mul_neg_part (pos a) (negsuc b) = neg_part-neg (pos (a * suc b)) ∙ omega arith
mul_neg_part (negsuc a) (pos b) = neg_part-neg (pos (suc a * b)) ∙ omega arith
mul_neg_part (negsuc a) (negsuc b) = omega arith

-- ---- equations and orders, one statement each
pub eq⇒ : (a b : ℤ) → a ≡ b → pos_part a + neg_part b ≡ pos_part b + neg_part a
eq⇒ a b e = subst (λ (z : ℤ). pos_part a + neg_part z ≡ pos_part z + neg_part a) e refl

pub ⇒eq : (a b : ℤ) → pos_part a + neg_part b ≡ pos_part b + neg_part a → a ≡ b
⇒eq (pos a) (pos b) h = ap pos (omega arith)
⇒eq (pos a) (negsuc b) h = absurd (omega arith)
⇒eq (negsuc a) (pos b) h = absurd (omega arith)
⇒eq (negsuc a) (negsuc b) h = ap negsuc (omega arith)

pub le_z⇒ : (a b : ℤ) → T (le_z a b) → pos_part a + neg_part b ≤ pos_part b + neg_part a
le_z⇒ (pos a) (pos b) t = omega (arith, leb→le a b t)
le_z⇒ (pos a) (negsuc b) t = elim t [ ]
le_z⇒ (negsuc a) (pos b) t = omega arith
le_z⇒ (negsuc a) (negsuc b) t = omega (arith, leb→le b a t)

pub ⇒le_z : (a b : ℤ) → pos_part a + neg_part b ≤ pos_part b + neg_part a → T (le_z a b)
⇒le_z (pos a) (pos b) h = le→leb a b (omega arith)
⇒le_z (pos a) (negsuc b) h = absurd (omega arith)
⇒le_z (negsuc a) (pos b) h = tt
⇒le_z (negsuc a) (negsuc b) h = le→leb b a (omega arith)

pub le⇒ : (a b : ℤ) → a ≤ℤ b → pos_part a + neg_part b ≤ pos_part b + neg_part a
le⇒ a b h = le_z⇒ a b h.le

pub ⇒le : (a b : ℤ) → pos_part a + neg_part b ≤ pos_part b + neg_part a → a ≤ℤ b
⇒le a b h = record { le = ⇒le_z a b h }

pub lt_z⇒ : (a b : ℤ) → T (lt_z a b) → pos_part a + neg_part b < pos_part b + neg_part a
lt_z⇒ (pos a) (pos b) t = omega (arith, ltb→lt a b t)
lt_z⇒ (pos a) (negsuc b) t = elim t [ ]
lt_z⇒ (negsuc a) (pos b) t = omega arith
lt_z⇒ (negsuc a) (negsuc b) t = omega (arith, ltb→lt b a t)

pub ⇒lt_z : (a b : ℤ) → pos_part a + neg_part b < pos_part b + neg_part a → T (lt_z a b)
⇒lt_z (pos a) (pos b) h = lt→ltb a b (omega arith)
⇒lt_z (pos a) (negsuc b) h = absurd (omega arith)
⇒lt_z (negsuc a) (pos b) h = tt
⇒lt_z (negsuc a) (negsuc b) h = lt→ltb b a (omega arith)

pub lt⇒ : (a b : ℤ) → a <ℤ b → pos_part a + neg_part b < pos_part b + neg_part a
lt⇒ a b h = lt_z⇒ a b h.lt

pub ⇒lt : (a b : ℤ) → pos_part a + neg_part b < pos_part b + neg_part a → a <ℤ b
⇒lt a b h = record { lt = ⇒lt_z a b h }

-- ---- a width's range
pub ⇒sfits : (z : ℤ) → pos_part z < 2 ^ 63 + neg_part z → neg_part z ≤ 2 ^ 63 + pos_part z → SFits w64 z
⇒sfits (pos a) h k = record { sfits = omega arith }
⇒sfits (negsuc a) h k = record { sfits = omega arith }

-- with one premise, so that `omega` takes it as a rule for a goal: `mag z` is (z⁺ - z⁻) + (z⁻ - z⁺ - 1)
pub fits! : (z : ℤ) → (pos_part z - neg_part z) + (neg_part z - pos_part z - 1) < 2 ^ 63 → SFits w64 z
fits! (pos a) h = record { sfits = omega arith }
fits! (negsuc a) h = record { sfits = omega arith }

pub fits-pos_part : (z : ℤ) → SFits w64 z → pos_part z < 2 ^ 63
fits-pos_part (pos a) f = f.sfits
fits-pos_part (negsuc a) f = omega arith

pub fits-neg_part : (z : ℤ) → SFits w64 z → neg_part z ≤ 2 ^ 63
fits-neg_part (pos a) f = omega arith
fits-neg_part (negsuc a) f = omega (arith, f.sfits)

-- a test's outcome, as a branch leaves it
T_of : {b : Bool} → b ≡ true → T b
T_of e = subst T (sym e) tt

pub le_z_true : (a b : ℤ) → le_z a b ≡ true → pos_part a + neg_part b ≤ pos_part b + neg_part a
le_z_true a b e = le_z⇒ a b (T_of e)

pub le_z_false : (a b : ℤ) → le_z a b ≡ false → pos_part b + neg_part a < pos_part a + neg_part b
le_z_false (pos a) (pos b) e = omega (arith, leb-false a b e)
le_z_false (pos a) (negsuc b) e = omega arith
le_z_false (negsuc a) (pos b) e = absurd (subst T e tt)
le_z_false (negsuc a) (negsuc b) e = omega (arith, leb-false b a e)

pub lt_z_true : (a b : ℤ) → lt_z a b ≡ true → pos_part a + neg_part b < pos_part b + neg_part a
lt_z_true a b e = lt_z⇒ a b (T_of e)

pub lt_z_false : (a b : ℤ) → lt_z a b ≡ false → pos_part b + neg_part a ≤ pos_part a + neg_part b
lt_z_false (pos a) (pos b) e = omega (arith, ltb-false a b e)
lt_z_false (pos a) (negsuc b) e = omega arith
lt_z_false (negsuc a) (pos b) e = absurd (subst T e tt)
lt_z_false (negsuc a) (negsuc b) e = omega (arith, ltb-false b a e)

-- the bound as one statement, for `omega`'s rules, which take one rule for a hypothesis. It is not exact, so that it splits no case: where the
-- edge of the range matters, list `known f`
pub fits⇒ : (z : ℤ) → SFits w64 z → pos_part z + neg_part z ≤ 2 ^ 63
fits⇒ (pos a) f = omega (arith, f.sfits)
fits⇒ (negsuc a) f = omega (arith, f.sfits)

-- an impossible test
pub no_tf {ℓ} : {X : Type ℓ} → true ≡ false → X
no_tf e = absurd (subst T e tt)

pub no_ft {ℓ} : {X : Type ℓ} → false ≡ true → X
no_ft e = absurd (subst T (sym e) tt)

-- `omega`'s kit for ℤ: it reads orders, equations, tests and ranges of ℤ among the hypotheses, and takes such a goal
pub ruleset zarith = (arith, le⇒, ⇒le, lt⇒, ⇒lt, le_z⇒, ⇒le_z, lt_z⇒, ⇒lt_z, le_z_true, le_z_false, lt_z_true, lt_z_false, eq⇒, ⇒eq, fits⇒, fits!)

-- ---- the machine's division, by a positive number
pub quot_fits : (x b : ℤ) → pos 1 ≤ℤ b → SFits w64 x → SFits w64 (quot_z x b)
quot_fits (pos a) (pos b) h f = record { sfits = lt_of_le_of_lt (div-le_self a b) f.sfits }
quot_fits (negsuc a) (pos b) h f = omega (zarith, pos_part-neg (pos (suc a / b)), neg_part-neg (pos (suc a / b)), div-le_self (suc a) b)
quot_fits x (negsuc b) h f = absurd h.le

pub bits_pos : (b : ℤ) → pos 1 ≤ℤ b → 0 < of_z w64 b
bits_pos (pos b) h = omega zarith
bits_pos (negsuc b) h = absurd h.le

-- the whole need of a division
pub div_ok : (x b : ℤ) → pos 1 ≤ℤ b → SFits w64 x → (0 < of_z w64 b) × SFits w64 (quot_z x b)
div_ok x b h f = (bits_pos b h, quot_fits x b h f)

-- a quotient is no larger
pub quot_pos_part : (x b : ℤ) → pos 1 ≤ℤ b → pos_part (quot_z x b) ≤ pos_part x
quot_pos_part (pos a) (pos b) h = div-le_self a b
quot_pos_part (negsuc a) (pos b) h = omega (arith, pos_part-neg (pos (suc a / b)))
quot_pos_part x (negsuc b) h = absurd h.le

pub quot_neg_part : (x b : ℤ) → pos 1 ≤ℤ b → neg_part (quot_z x b) ≤ neg_part x
quot_neg_part (pos a) (pos b) h = omega arith
quot_neg_part (negsuc a) (pos b) h = omega (arith, neg_part-neg (pos (suc a / b)), div-le_self (suc a) b)
quot_neg_part x (negsuc b) h = absurd h.le

-- z⁺ and z⁻ are the least two naturals whose difference is z
pub least : (z : ℤ) (u d : ℕ) → pos_part z + d ≡ neg_part z + u → (pos_part z ≤ u) × (neg_part z ≤ d)
least (pos n) u d h = omega arith
least (negsuc n) u d h = omega arith

-- an order, part by part: what a bound by a literal is best read as
pub le_parts : {a b : ℤ} → a ≤ℤ b → (pos_part a ≤ pos_part b) × (neg_part b ≤ neg_part a)
le_parts {a = pos a} {b = pos b} h = omega zarith
le_parts {a = pos a} {b = negsuc b} h = absurd h.le
le_parts {a = negsuc a} {b = pos b} h = omega arith
le_parts {a = negsuc a} {b = negsuc b} h = omega zarith

pub parts_le : (a b : ℤ) → pos_part a ≤ pos_part b → neg_part b ≤ neg_part a → a ≤ℤ b
parts_le a b h k = omega zarith

pub in_le : {lo hi z : ℤ} → lo ≤ℤ z → z ≤ℤ hi → In lo hi z
in_le h k = record { n_lo = (le_parts h).1; p_lo = (le_parts h).0; p_hi = (le_parts k).0; n_hi = (le_parts k).1 }

-- all that `omega` can use of a value that fits, and of what the machine reads back from its bits: `omega (zarith, known c.fits.x)`
pub record Known (z : ℤ) : Type 0 where
  pub below : pos_part z < 2 ^ 63
  pub above : neg_part z ≤ 2 ^ 63
  pub back_p : pos_part (to_z w64 (of_z w64 z)) ≡ pos_part z
  pub back_n : neg_part (to_z w64 (of_z w64 z)) ≡ neg_part z

pub known : {z : ℤ} → SFits w64 z → Known z
known {z} f = record { below = fits-pos_part z f; above = fits-neg_part z f; back_p = ap pos_part (to_z-of_z f); back_n = ap neg_part (to_z-of_z f) }

-- ---- bounds on magnitudes, from the bounds of the parts
pub abs_fits : {z : ℤ} → ∣ z ∣ < 2 ^ 63 → SFits w64 z
abs_fits {z} h = omega zarith

pub abs_add : (a b : ℤ) → ∣ a +ℤ b ∣ ≤ ∣ a ∣ + ∣ b ∣
abs_add a b = let h = least (a +ℤ b) (pos_part a + pos_part b) (neg_part a + neg_part b) (add_law a b) in omega arith

pub abs_sub : (a b : ℤ) → ∣ a -ℤ b ∣ ≤ ∣ a ∣ + ∣ b ∣
abs_sub a b = let h = least (a -ℤ b) (pos_part a + neg_part b) (neg_part a + pos_part b) (sub_lawℤ a b) in omega arith

pub abs_mul : (a b : ℤ) → ∣ a *ℤ b ∣ ≡ ∣ a ∣ * ∣ b ∣
abs_mul a b = omega (arith, mul_pos_part a b, mul_neg_part a b)

pub abs_mul≤ : (a b : ℤ) (k l : ℕ) → ∣ a ∣ ≤ k → ∣ b ∣ ≤ l → ∣ a *ℤ b ∣ ≤ k * l
abs_mul≤ a b m n h k = rw (abs_mul a b) (mul-le-mul h k)

-- what the machine reads back: of a value that fits, and of a call's result, `ret c.f.result c.f.ok`
pub back : {z : ℤ} → SFits w64 z → to_z w64 (of_z w64 z) ≡ z
back f = to_z-of_z f

pub ret : (z : ℤ) → mag z < 2 ^ 63 → to_z w64 (of_z w64 z) ≡ z
ret z h = to_z-of_z {w = w64} (record { sfits = h })

-- a range test that passed, `le_z lo z && le_z z hi`
pub and_true : (s t : Bool) → (s && t) ≡ true → (s ≡ true) × (t ≡ true)
and_true true t e = (refl, e)
and_true false t e = no_ft e

pub in_yes : (lo hi z : ℤ) → (le_z lo z && le_z z hi) ≡ true → In lo hi z
in_yes lo hi z e =
    let h = and_true (le_z lo z) (le_z z hi) e in
    in_le (record { le = T_of h.0 }) (record { le = T_of h.1 })

pub abs_of : (z : ℤ) (k : ℕ) → pos_part z ≤ k → neg_part z ≤ k → ∣ z ∣ ≤ k
abs_of (pos n) k h l = omega arith
abs_of (negsuc n) k h l = omega arith

-- a number that is u less d is at most k in size exactly if neither is more than k above the other
pub size_to : (x : ℤ) (u d k : ℕ) → pos_part x + d ≡ neg_part x + u → u ≤ d + k → d ≤ u + k → ∣ x ∣ ≤ k
size_to (pos n) u d k e h l = omega arith
size_to (negsuc n) u d k e h l = omega arith

pub size_from_lem : (x : ℤ) (u d k : ℕ) → pos_part x + d ≡ neg_part x + u → ∣ x ∣ ≤ k → (u ≤ d + k) × (d ≤ u + k)
size_from_lem (pos n) u d k e h = (omega arith, omega arith)
size_from_lem (negsuc n) u d k e h = (omega arith, omega arith)

-- `==` on signed numbers compares bits
pub bits_eq : {x y : ℤ} → SFits w64 x → SFits w64 y → of_z w64 x ≡ of_z w64 y → x ≡ y
bits_eq f g e = sym (back f) ∙ ap (to_z w64) e ∙ back g

-- ---- products and orders
pub mul_nonneg : (a b : ℤ) → pos 0 ≤ℤ a → pos 0 ≤ℤ b → pos 0 ≤ℤ (a *ℤ b)
mul_nonneg (pos a) (pos b) h k = omega zarith
mul_nonneg (pos a) (negsuc b) h k = absurd k.le
mul_nonneg (negsuc a) b h k = absurd h.le

pub mul_mono : (a b c : ℤ) → pos 0 ≤ℤ a → b ≤ℤ c → (a *ℤ b) ≤ℤ (a *ℤ c)
mul_mono (pos n) b c h k =
    let l = le_parts k in
    parts_le (pos n *ℤ b) (pos n *ℤ c)
    (omega (arith, mul_pos_part (pos n) b, mul_pos_part (pos n) c, mul-le-mul_left n l.0))
    (omega (arith, mul_neg_part (pos n) b, mul_neg_part (pos n) c, mul-le-mul_left n l.1))
mul_mono (negsuc n) b c h k = absurd h.le

pub ≤ℤ-trans : {a b c : ℤ} → a ≤ℤ b → b ≤ℤ c → a ≤ℤ c
≤ℤ-trans {a} {b} {c} h k = omega zarith

pub quot_nonneg : (x : ℤ) (d : ℕ) → pos 0 ≤ℤ x → pos 0 ≤ℤ quot_z x (pos d)
quot_nonneg (pos a) d h = omega zarith
quot_nonneg (negsuc a) d h = absurd h.le

-- at any divisor a quotient is no larger
pub quot_abs : (x b : ℤ) → ∣ quot_z x b ∣ ≤ ∣ x ∣
quot_abs (pos a) (pos b) = omega (arith, div-le_self a b)
quot_abs (pos a) (negsuc b) = omega (arith, pos_part-neg (pos (a / suc b)), neg_part-neg (pos (a / suc b)), div-le_self a (suc b))
quot_abs (negsuc a) (pos b) = omega (arith, pos_part-neg (pos (suc a / b)), neg_part-neg (pos (suc a / b)), div-le_self (suc a) b)
quot_abs (negsuc a) (negsuc b) = omega (arith, div-le_self (suc a) (suc b))

pub mul_one≤ : (a b : ℤ) → pos 1 ≤ℤ a → pos 1 ≤ℤ b → pos 1 ≤ℤ (a *ℤ b)
mul_one≤ (pos a) (pos b) h k = omega (zarith, mul-le-mul {n₁ = 1} {m₁ = 1} {n₂ = a} {m₂ = b} (omega zarith) (omega zarith))
mul_one≤ (pos a) (negsuc b) h k = absurd k.le
mul_one≤ (negsuc a) b h k = absurd h.le
