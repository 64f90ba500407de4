-- Floors and rests over ℤ: how they move with whole multiples of the divisor and with sums, and that the machine's quotient and remainder of a
-- number that is not negative are they; and the code's expressions as the proofs above read them. Assumes nothing.
use Rattle.std.proofs.Common.{◌≡◌, ℕ, ◌+◌, ◌/◌, ◌%◌, ◌^◌, ◌<◌, ◌≤◌, max, ◌&&◌, T, ltb, ℤ, pos, negsuc, ◌+ℤ◌, ◌*ℤ◌, nat_abs, ◌≤ℤ◌, refl, ap, ◌∙◌, mod-lt, div-add-mod', arith, w64, to_z, of_z}
use lib.Signed.{non_neg, quot_z, rem_z}
use mir.Facts.{and_yes, ltb_yes}
use Rattle.whole.specs.Whole.{pos_part, neg_part, ∣◌∣, floor_z, mod_z}
use Rattle.whole.specs.Ranges.{In}
use Rattle.whole.proofs.Linear.{ret}
use Rattle.whole.proofs.Quote.{E, ⟨◌⟩, #, ◌⊕◌, ◌⊝◌, ◌⊗◌, by≡, by≤, by<, of≡}
use Rattle.whole.proofs.Machine.{M, lit, var, any, pvar, ◌⊞◌, ◌⊟◌, ◌⊠◌, ◌⊘◌, val, raw, safe, is}
use Rattle.whole.proofs.Rounding.{floor_mod, mod_below, mod_unique, floor_unique}

-- k divisors more
module _ (z k : ℤ) (b : ℕ) (h : 0 < b) where
  more : (floor_z z b +ℤ k) *ℤ pos b +ℤ pos (mod_z z b) ≡ z +ℤ k *ℤ pos b
  more =
      by≡ ((⟨ floor_z z b ⟩ ⊕ ⟨ k ⟩) ⊗ # b ⊕ # (mod_z z b)) (⟨ floor_z z b ⟩ ⊗ # b ⊕ # (mod_z z b) ⊕ ⟨ k ⟩ ⊗ # b) (omega arith)
      ∙ ap (λ (t : ℤ). t +ℤ k *ℤ pos b) (floor_mod z b h)

  pub mod_more : mod_z (z +ℤ k *ℤ pos b) b ≡ mod_z z b
  mod_more = mod_unique (z +ℤ k *ℤ pos b) (floor_z z b +ℤ k) b (mod_z z b) (mod_below z b h) more

  pub floor_more : floor_z (z +ℤ k *ℤ pos b) b ≡ floor_z z b +ℤ k
  floor_more =
      let e = of≡ ((⟨ floor_z z b ⟩ ⊕ ⟨ k ⟩) ⊗ # b ⊕ # (mod_z z b)) (⟨ z ⟩ ⊕ ⟨ k ⟩ ⊗ # b) more in
      floor_unique (z +ℤ k *ℤ pos b) (floor_z z b +ℤ k) b h
      (by≤ ((⟨ floor_z z b ⟩ ⊕ ⟨ k ⟩) ⊗ # b) (⟨ z ⟩ ⊕ ⟨ k ⟩ ⊗ # b) (omega arith))
      (by< (⟨ z ⟩ ⊕ ⟨ k ⟩ ⊗ # b) ((⟨ floor_z z b ⟩ ⊕ ⟨ k ⟩) ⊗ # b ⊕ # b) (omega (arith, mod_below z b h)))

-- a sum, from the rests of its parts
pub mod_sum : (x y : ℤ) (b : ℕ) → 0 < b → mod_z (x +ℤ y) b ≡ (mod_z x b + mod_z y b) % b
mod_sum x y b h =
    let t = mod_z x b + mod_z y b in
    mod_unique (x +ℤ y) (floor_z x b +ℤ floor_z y b +ℤ pos (t / b)) b (t % b) (mod-lt t h)
    (by≡ ((⟨ floor_z x b ⟩ ⊕ ⟨ floor_z y b ⟩ ⊕ # (t / b)) ⊗ # b ⊕ # (t % b)) (⟨ floor_z x b ⟩ ⊗ # b ⊕ # (mod_z x b) ⊕ (⟨ floor_z y b ⟩ ⊗ # b ⊕ # (mod_z y b))) (omega (arith, div-add-mod' t b))
    ∙ (λ i. floor_mod x b h i +ℤ floor_mod y b h i))

-- ---- what the machine gives, of a number that is not negative
pub quot_floor : (z : ℤ) (b : ℕ) → pos 0 ≤ℤ z → quot_z z (pos b) ≡ floor_z z b
quot_floor (pos a) b h = refl
quot_floor (negsuc a) b h = absurd h.le

rem_mod : (z : ℤ) (b : ℕ) → pos 0 ≤ℤ z → rem_z z (pos b) ≡ pos (mod_z z b)
rem_mod (pos a) b h = refl
rem_mod (negsuc a) b h = absurd h.le

-- the remainder of an expression, read back
pub rest_is : (m : M) (b : ℕ) → T (safe m) → T (ltb 0 b && ltb b (2 ^ 63)) → pos 0 ≤ℤ val m → to_z w64 (of_z w64 (rem_z (to_z w64 (of_z w64 (raw m))) (pos b))) ≡ pos (mod_z (val m) b)
rest_is m b t s h =
    let u = and_yes (ltb 0 b) (ltb b (2 ^ 63)) s in
    let lo : 0 < b = ltb_yes u.0 in
    let hi : b < 2 ^ 63 = ltb_yes u.1 in
    let f : mod_z (val m) b < 2 ^ 63 = omega (arith, mod_below (val m) b lo) in
    ap (λ (z : ℤ). to_z w64 (of_z w64 (rem_z z (pos b)))) (is m t) ∙ ap (λ (z : ℤ). to_z w64 (of_z w64 z)) (rem_mod (val m) b h) ∙ ret (pos (mod_z (val m) b)) f

-- ---- an expression of the code, for `by≡` and `by≤` to read: its operands stand once, in the expression
abbrev pub read : M → E
read (lit z) = ⟨ z ⟩
read (var z k h) = ⟨ z ⟩
read (any z f) = ⟨ z ⟩
read (pvar z k h p) = ⟨ z ⟩
read (a ⊞ b) = read a ⊕ read b
read (a ⊟ b) = read a ⊝ read b
read (a ⊠ b) = read a ⊗ read b
read (a ⊘ b) = ⟨ val (a ⊘ b) ⟩

-- what its cast to u64 gives, where the cast's need is met
abbrev pub cast : M → ℕ
cast m = nat_abs (to_z w64 (of_z w64 (raw m)))

not_below : (z : ℤ) → T (non_neg z) → pos (nat_abs z) ≡ z
not_below (pos n) h = refl
not_below (negsuc n) h = absurd h

pub cast_gives : (m : M) → T (safe m) → T (non_neg (to_z w64 (of_z w64 (raw m)))) → pos (cast m) ≡ val m
cast_gives m t h = not_below (to_z w64 (of_z w64 (raw m))) h ∙ is m t

-- ---- a value that lies in a range, as a leaf of an expression
pub in_abs : {lo hi : ℤ} (z : ℤ) → In lo hi z → ∣ z ∣ ≤ max (neg_part lo) (pos_part hi)
in_abs (pos n) i = omega (arith, i.p_hi)
in_abs (negsuc n) i = omega (arith, i.n_lo)

abbrev pub leaf : {lo hi : ℤ} (z : ℤ) → In lo hi z → M
leaf {lo} {hi} z i = var z (max (neg_part lo) (pos_part hi)) (in_abs z i)
