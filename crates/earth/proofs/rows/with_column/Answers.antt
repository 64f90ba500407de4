-- `earth::rows::with_column` meets its contract.
use Rattle.std.proofs.Common.{rules, ◌≡◌, ℕ, ◌+◌, ◌*◌, ◌/◌, ◌%◌, ◌^◌, ◌<◌, false, true, ℤ, pos, negsuc, neg_ℤ, ◌+ℤ◌, ◌-ℤ◌, ◌*ℤ◌, sym, ap, ◌∙◌, arith, add-zero, zero-add}
use lib.Signed.{lt_z}
use Rattle.whole.specs.Whole.{∣◌∣, floor_z, mod_z}
use Rattle.whole.proofs.Linear.{back}
use Rattle.whole.proofs.Quote.{⟨◌⟩, #, ◌⊕◌, ◌⊝◌, ◌⊗◌, ⊖, by≡, of≡}
use Rattle.whole.proofs.Rounding.{floor_mod, mod_unique}
use Rattle.earth.proofs.rows.with_column.Goals as goal

module _ (s a : ℕ) where
  -- s less i times a, wrapped
  abbrev less : ℕ → ℕ
  less i = mod_z (pos s +ℤ neg_ℤ (pos (i * a))) (2 ^ 32)

  less_none : s < 2 ^ 32 → less 0 ≡ s
  less_none h = mod_unique (pos s +ℤ neg_ℤ (pos (0 * a))) (pos 0) (2 ^ 32) s h (by≡ (# 0 ⊗ # 4294967296 ⊕ # s) (# s ⊕ ⊖ (# (0 * a))) (omega arith))

  less_once : (i next : ℕ) → next < 2 ^ 32 → (next + a) % 2 ^ 32 ≡ less i → next ≡ less (i + 1)
  less_once i next b f =
      let z = pos s +ℤ neg_ℤ (pos (i * a)) in
      let q = (next + a) / 4294967296 in
      let e = of≡ (⟨ floor_z z (2 ^ 32) ⟩ ⊗ # 4294967296 ⊕ # (less i)) (# s ⊕ ⊖ (# (i * a))) (floor_mod z (2 ^ 32) (omega arith)) in
      sym (mod_unique (pos s +ℤ neg_ℤ (pos ((i + 1) * a))) (floor_z z (2 ^ 32) -ℤ pos q) (2 ^ 32) next b (by≡ ((⟨ floor_z z (2 ^ 32) ⟩ ⊝ # q) ⊗ # 4294967296 ⊕ # next) (# s ⊕ ⊖ (# ((i + 1) * a))) (omega (arith, e, f))))

  less_all : (z : ℤ) → lt_z z (pos 0) ≡ true → less ∣ z ∣ ≡ mod_z (pos s +ℤ z *ℤ pos a) (2 ^ 32)
  less_all (pos n) h = absurd (search rules)
  less_all (negsuc n) h = simp zero-add

  more_all : (z : ℤ) → lt_z z (pos 0) ≡ false → (s + ∣ z ∣ * a) % 2 ^ 32 ≡ mod_z (pos s +ℤ z *ℤ pos a) (2 ^ 32)
  more_all (pos n) h = simp add-zero
  more_all (negsuc n) h = absurd (search rules)

pub returns-then-multiplier-lt0 : goal.returns-then-multiplier-lt0
returns-then-multiplier-lt0 c =
    let s = c.args.sum in
    let a = c.args.argument in
    let b = back c.ranges.multiplier in
    let e = c.stepped.ensures (less s a) (less_none s a (omega arith)) (λ i next h. less_once s a i next (search rules) (search rules)) in
    e ∙ ap (less s a) (simp b at c.size.ensures) ∙ less_all s a c.args.multiplier (simp b at c.if-multiplier-lt0.true)

pub returns-else-multiplier-lt0 : goal.returns-else-multiplier-lt0
returns-else-multiplier-lt0 c =
    let s = c.args.sum in
    let a = c.args.argument in
    let b = back c.ranges.multiplier in
    let e = c.stepped-else-multiplier-lt0.ensures (λ i. (s + i * a) % 2 ^ 32) (search rules)
    (λ i next h. let f : next ≡ ((s + i * a) % 2 ^ 32 + a) % 2 ^ 32 = search rules in omega (arith, f)) in
    e ∙ ap (λ (n : ℕ). (s + n * a) % 2 ^ 32) (simp b at c.size-else-multiplier-lt0.ensures) ∙ more_all s a c.args.multiplier (simp b at c.if-multiplier-lt0.false)
