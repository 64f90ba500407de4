-- Straight-line signed arithmetic by computation. An expression `M` is what the code computes: its leaves are values with a bound on each,
-- `val` is the number that it means, `raw` what the machine has (each operand read back from its bits), `bnd` a bound on its magnitude.
-- `safe` computes: where it is true no operation of the expression wraps. `ok` answers the need of the expression's last operation,
-- and `is` says that the machine's number is the meant one: `ok e tt`, `is e tt`.
use mathlib.Core.Path.{◌≡◌, refl, sym, ap, ◌∙◌, subst}
use mathlib.Core.Bool.{Bool, true, false, ◌&&◌}
use Prim.Native.Nat.{ℕ, ◌+◌, ◌*◌, ◌^◌, ◌≤◌, ◌<◌}
use native.Mathlib.Omega.{arith}
use native.Mathlib.Nat.{le_refl, lt_of_le_of_lt}
use lib.IntN.{ℤ, pos, negsuc, nat_abs, ◌+ℤ◌, ◌-ℤ◌, ◌*ℤ◌}
use lib.Dec.{T, ltb, ltb→lt}
use lib.Signed.{◌≤ℤ◌, ◌<ℤ◌, le_z, lt_z, non_neg, quot_z}
use mir.Syntax.{w64}
use mir.Val.{Fits, SFits, to_z, of_z}
use Rattle.whole.specs.Whole.{∣◌∣}
use Rattle.whole.proofs.Linear.{zarith, abs_fits, abs_add, abs_sub, abs_mul≤, back, quot_fits, fits⇒, quot_abs, bits_pos, mul_one≤, add_law, ⇒le, ⇒lt_z, le_z_true, le_z_false, lt_z_true, lt_z_false}

infixl 6 ◌⊞◌ ◌⊟◌
infixl 7 ◌⊠◌ ◌⊘◌
pub data M : Type 0 where
  -- a literal; a value that is at most k from 0
  lit : ℤ → M
  var : (z : ℤ) (k : ℕ) → ∣ z ∣ ≤ k → M
  -- a value of which no more is known than that it fits: for a test or a copy
  any : (z : ℤ) → SFits w64 z → M
  ◌⊞◌ ◌⊟◌ ◌⊠◌ : M → M → M
  -- a value that is positive, and at most k
  pvar : (z : ℤ) (k : ℕ) → ∣ z ∣ ≤ k → pos 1 ≤ℤ z → M
  -- by what `posi` finds positive
  ◌⊘◌ : M → M → M

abbrev pub val : M → ℤ
val (lit z) = z
val (var z k h) = z
val (any z f) = z
val (a ⊞ b) = val a +ℤ val b
val (a ⊟ b) = val a -ℤ val b
val (a ⊠ b) = val a *ℤ val b
val (pvar z k h p) = z
val (a ⊘ b) = quot_z (val a) (val b)

abbrev pub raw : M → ℤ
raw (lit z) = z
raw (var z k h) = z
raw (any z f) = z
raw (a ⊞ b) = to_z w64 (of_z w64 (raw a)) +ℤ to_z w64 (of_z w64 (raw b))
raw (a ⊟ b) = to_z w64 (of_z w64 (raw a)) -ℤ to_z w64 (of_z w64 (raw b))
raw (a ⊠ b) = to_z w64 (of_z w64 (raw a)) *ℤ to_z w64 (of_z w64 (raw b))
raw (pvar z k h p) = z
raw (a ⊘ b) = quot_z (to_z w64 (of_z w64 (raw a))) (to_z w64 (of_z w64 (raw b)))

abbrev pub bnd : M → ℕ
bnd (lit z) = ∣ z ∣
bnd (var z k h) = k
bnd (any z f) = 2 ^ 63
bnd (a ⊞ b) = bnd a + bnd b
bnd (a ⊟ b) = bnd a + bnd b
bnd (a ⊠ b) = bnd a * bnd b
bnd (pvar z k h p) = k
bnd (a ⊘ b) = bnd a

-- it is positive, as far as its form shows
abbrev pub posi : M → Bool
posi (lit z) = le_z (pos 1) z
posi (var z k h) = false
posi (any z f) = false
posi (pvar z k h p) = true
posi (a ⊞ b) = posi a && posi b
posi (a ⊟ b) = false
posi (a ⊠ b) = posi a && posi b
posi (a ⊘ b) = false

abbrev pub safe : M → Bool
safe (lit z) = ltb ∣ z ∣ (2 ^ 63)
safe (var z k h) = ltb k (2 ^ 63)
safe (any z f) = true
safe (a ⊞ b) = ltb (bnd a + bnd b) (2 ^ 63) && (safe a && safe b)
safe (a ⊟ b) = ltb (bnd a + bnd b) (2 ^ 63) && (safe a && safe b)
safe (a ⊠ b) = ltb (bnd a * bnd b) (2 ^ 63) && (safe a && safe b)
safe (pvar z k h p) = ltb k (2 ^ 63)
safe (a ⊘ b) = posi b && (safe a && safe b)

and_T : (s t : Bool) → T (s && t) → T s × T t
and_T true t p = (tt, p)
and_T false t p = absurd p

pub bounded : (m : M) → ∣ val m ∣ ≤ bnd m
bounded (lit z) = le_refl ∣ z ∣
bounded (var z k h) = h
bounded (any z f) = fits⇒ z f
bounded (a ⊞ b) = omega (arith, abs_add (val a) (val b), bounded a, bounded b)
bounded (a ⊟ b) = omega (arith, abs_sub (val a) (val b), bounded a, bounded b)
bounded (a ⊠ b) = abs_mul≤ (val a) (val b) (bnd a) (bnd b) (bounded a) (bounded b)
bounded (pvar z k h p) = h
bounded (a ⊘ b) = omega (arith, quot_abs (val a) (val b), bounded a)

pub positive : (m : M) → T (posi m) → pos 1 ≤ℤ val m
positive (lit z) t = record { le = t }
positive (pvar z k h p) t = p
positive (a ⊞ b) t =
    let u = and_T (posi a) (posi b) t in
    let ha = positive a u.0 in
    let hb = positive b u.1 in
    omega (zarith, add_law (val a) (val b))
positive (a ⊠ b) t = let u = and_T (posi a) (posi b) t in mul_one≤ (val a) (val b) (positive a u.0) (positive b u.1)
positive (var z k h) t = absurd t
positive (any z f) t = absurd t
positive (a ⊟ b) t = absurd t
positive (a ⊘ b) t = absurd t

fits_if : (m : M) → T (ltb (bnd m) (2 ^ 63)) → SFits w64 (val m)
fits_if m t = abs_fits (lt_of_le_of_lt (bounded m) (ltb→lt (bnd m) (2 ^ 63) t))

pub fits : (m : M) → T (safe m) → SFits w64 (val m)
fits (lit z) t = fits_if (lit z) t
fits (var z k h) t = fits_if (var z k h) t
fits (any z f) t = f
fits (a ⊞ b) t = fits_if (a ⊞ b) (and_T (ltb (bnd a + bnd b) (2 ^ 63)) (safe a && safe b) t).0
fits (a ⊟ b) t = fits_if (a ⊟ b) (and_T (ltb (bnd a + bnd b) (2 ^ 63)) (safe a && safe b) t).0
fits (a ⊠ b) t = fits_if (a ⊠ b) (and_T (ltb (bnd a * bnd b) (2 ^ 63)) (safe a && safe b) t).0
fits (pvar z k h p) t = fits_if (pvar z k h p) t
fits (a ⊘ b) t =
    let u = and_T (posi b) (safe a && safe b) t in
    quot_fits (val a) (val b) (positive b u.0) (fits a (and_T (safe a) (safe b) u.1).0)

pub plain : (m : M) → T (safe m) → raw m ≡ val m
plain (lit z) t = refl
plain (var z k h) t = refl
plain (any z f) t = refl
plain (a ⊞ b) t =
    let u = and_T (safe a) (safe b) (and_T (ltb (bnd a + bnd b) (2 ^ 63)) (safe a && safe b) t).1 in
    simp (plain a u.0, plain b u.1, back (fits a u.0), back (fits b u.1))
plain (a ⊟ b) t =
    let u = and_T (safe a) (safe b) (and_T (ltb (bnd a + bnd b) (2 ^ 63)) (safe a && safe b) t).1 in
    simp (plain a u.0, plain b u.1, back (fits a u.0), back (fits b u.1))
plain (a ⊠ b) t =
    let u = and_T (safe a) (safe b) (and_T (ltb (bnd a * bnd b) (2 ^ 63)) (safe a && safe b) t).1 in
    simp (plain a u.0, plain b u.1, back (fits a u.0), back (fits b u.1))
plain (pvar z k h p) t = refl
plain (a ⊘ b) t =
    let u = and_T (safe a) (safe b) (and_T (posi b) (safe a && safe b) t).1 in
    simp (plain a u.0, plain b u.1, back (fits a u.0), back (fits b u.1))

-- the need of the last operation
pub ok : (m : M) → T (safe m) → SFits w64 (raw m)
ok m t = subst (SFits w64) (sym (plain m t)) (fits m t)

-- the need of a division, which asks of the divisor's bits too
pub ok÷ : (a b : M) → T (safe (a ⊘ b)) → (0 < of_z w64 (raw b)) × SFits w64 (raw (a ⊘ b))
ok÷ a b t =
    let u = and_T (posi b) (safe a && safe b) t in
    (rw (plain b (and_T (safe a) (safe b) u.1).1) (bits_pos (val b) (positive b u.0)), ok (a ⊘ b) t)

-- what the machine has is what is meant
pub is : (m : M) → T (safe m) → to_z w64 (of_z w64 (raw m)) ≡ val m
is m t = ap (λ (z : ℤ). to_z w64 (of_z w64 z)) (plain m t) ∙ back (fits m t)

-- a cast to u64 of a number that is not negative: the need, and what it gives
nat_ok : (z : ℤ) → pos 0 ≤ℤ z → SFits w64 z → T (non_neg z) × Fits w64 (nat_abs z)
nat_ok (pos n) h f = (tt, record { fits = omega (arith, f.sfits) })
nat_ok (negsuc n) h f = absurd h.le

nat_is : (z : ℤ) → pos 0 ≤ℤ z → pos (nat_abs z) ≡ z
nat_is (pos n) h = refl
nat_is (negsuc n) h = absurd h.le

pub cast_ok : (m : M) → T (safe m) → pos 0 ≤ℤ val m → T (non_neg (to_z w64 (of_z w64 (raw m)))) × Fits w64 (nat_abs (to_z w64 (of_z w64 (raw m))))
cast_ok m t h = rw (is m t) (nat_ok (val m) h (fits m t))

pub cast_is : (m : M) → T (safe m) → pos 0 ≤ℤ val m → pos (nat_abs (to_z w64 (of_z w64 (raw m)))) ≡ val m
cast_is m t h = rw (is m t) (nat_is (val m) h)

-- a test of two expressions that came out so, of the numbers meant
pub le_yes : (a b : M) → T (safe a) → T (safe b) → le_z (to_z w64 (of_z w64 (raw a))) (to_z w64 (of_z w64 (raw b))) ≡ true → val a ≤ℤ val b
le_yes a b s t e = ⇒le (val a) (val b) (le_z_true (val a) (val b) (rw (is a s, is b t) at e))

pub le_no : (a b : M) → T (safe a) → T (safe b) → le_z (to_z w64 (of_z w64 (raw a))) (to_z w64 (of_z w64 (raw b))) ≡ false → val b <ℤ val a
le_no a b s t e = record { lt = ⇒lt_z (val b) (val a) (le_z_false (val a) (val b) (rw (is a s, is b t) at e)) }

pub lt_yes : (a b : M) → T (safe a) → T (safe b) → lt_z (to_z w64 (of_z w64 (raw a))) (to_z w64 (of_z w64 (raw b))) ≡ true → val a <ℤ val b
lt_yes a b s t e = record { lt = ⇒lt_z (val a) (val b) (lt_z_true (val a) (val b) (rw (is a s, is b t) at e)) }

pub lt_no : (a b : M) → T (safe a) → T (safe b) → lt_z (to_z w64 (of_z w64 (raw a))) (to_z w64 (of_z w64 (raw b))) ≡ false → val b ≤ℤ val a
lt_no a b s t e = ⇒le (val b) (val a) (lt_z_false (val a) (val b) (rw (is a s, is b t) at e))

abs_nat : (z : ℤ) → nat_abs z ≡ ∣ z ∣
abs_nat (pos n) = omega arith
abs_nat (negsuc n) = omega arith

pub cast_bnd : (m : M) → T (safe m) → nat_abs (to_z w64 (of_z w64 (raw m))) ≤ bnd m
cast_bnd m t = rw (is m t) (omega (arith, abs_nat (val m), bounded m))
