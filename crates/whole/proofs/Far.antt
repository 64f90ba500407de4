-- A product r·j judged by its upper part floor(r / 1,024)·j: where that is large, r·j is beyond what the other terms of a segment can balance;
-- where it is small, r·j fits. Assumes nothing.
use mathlib.Core.Path.{◌≡◌, ap, ◌∙◌}
use mathlib.Core.Logic.{⊎_elim}
use mathlib.Core.Bool.{true, false}
use Prim.Native.Nat.{ℕ, ◌+◌, ◌*◌, ◌^◌, ◌≤◌, ◌<◌}
use native.Mathlib.Omega.{arith}
use lib.IntN.{ℤ, pos, negsuc, neg_ℤ, ◌+ℤ◌, ◌-ℤ◌, ◌*ℤ◌}
use lib.Signed.{le_z}
use Rattle.whole.specs.Ranges.{within}
use Rattle.whole.specs.Whole.{pos_part, neg_part, ∣◌∣, floor_z, mod_z}
use Rattle.whole.proofs.Linear.{pos_part-neg, neg_part-neg, abs_mul≤, le_z_true, le_z_false, and_true}
use Rattle.whole.proofs.Quote.{⟨◌⟩, #, ◌⊕◌, ◌⊝◌, ◌⊗◌, bal, by≡, of≡}
use Rattle.whole.proofs.Tests.{and_false}
use Rattle.whole.proofs.Rounding.{floor_mod, mod_below}

-- a number is no larger than what both its sides are
size_of : (z : ℤ) (k : ℕ) → pos_part z ≤ neg_part z + k → neg_part z ≤ pos_part z + k → ∣ z ∣ ≤ k
size_of (pos n) k h l = omega arith
size_of (negsuc n) k h l = omega arith

-- r·j = 1,024·(floor(r / 1,024)·j) + e, with a small e
module _ (r j : ℤ) (h : ∣ j ∣ ≤ 1023) where
  abbrev upper : ℤ
  upper = floor_z r 1024 *ℤ j

  abbrev rest : ℤ
  rest = pos (mod_z r 1024) *ℤ j

  rest_small : ∣ rest ∣ ≤ 1023 * 1023
  rest_small = abs_mul≤ (pos (mod_z r 1024)) j 1023 1023 (omega (arith, mod_below r 1024 (omega arith))) h

  parts : upper *ℤ pos 1024 +ℤ rest ≡ r *ℤ j
  parts =
      by≡ (⟨ floor_z r 1024 ⟩ ⊗ ⟨ j ⟩ ⊗ # 1024 ⊕ # (mod_z r 1024) ⊗ ⟨ j ⟩) ((⟨ floor_z r 1024 ⟩ ⊗ # 1024 ⊕ # (mod_z r 1024)) ⊗ ⟨ j ⟩) (omega arith)
      ∙ ap (λ (z : ℤ). z *ℤ j) (floor_mod r 1024 (omega arith))

  -- within a limit that is small enough, the product fits
  pub near : (m : ℕ) → 1024 * m + 1023 * 1023 ≤ 2 ^ 56 → within (neg_ℤ (pos m)) (pos m) upper ≡ true → ∣ r *ℤ j ∣ ≤ 2 ^ 56
  near m small e =
      let t = and_true (le_z (neg_ℤ (pos m)) upper) (le_z upper (pos m)) e in
      let l = le_z_true (neg_ℤ (pos m)) upper t.0 in
      let u = le_z_true upper (pos m) t.1 in
      let f = of≡ (⟨ upper ⟩ ⊗ # 1024 ⊕ ⟨ rest ⟩) ⟨ r *ℤ j ⟩ parts in
      size_of (r *ℤ j) (2 ^ 56) (omega (arith, rest_small, pos_part-neg (pos m), neg_part-neg (pos m))) (omega (arith, rest_small, pos_part-neg (pos m), neg_part-neg (pos m)))

  -- beyond one that is large enough, the sum of a segment's terms is beyond any tolerance
  pub far : (m : ℕ) (a s k : ℤ) → ∣ a ∣ + 65536 * ∣ s ∣ + ∣ k ∣ + 1023 * 1023 ≤ 1024 * m → within (neg_ℤ (pos m)) (pos m) upper ≡ false → ∣ k ∣ < ∣ a +ℤ r *ℤ j -ℤ pos 65536 *ℤ s ∣
  far m a s k large e =
      let f = of≡ (⟨ upper ⟩ ⊗ # 1024 ⊕ ⟨ rest ⟩) ⟨ r *ℤ j ⟩ parts in
      let b = bal (⟨ a ⟩ ⊕ ⟨ r *ℤ j ⟩ ⊝ # 65536 ⊗ ⟨ s ⟩) in
      ⊎_elim
      (λ l. let n = le_z_false (neg_ℤ (pos m)) upper l in omega (arith, rest_small, pos_part-neg (pos m), neg_part-neg (pos m)))
      (λ u. let n = le_z_false upper (pos m) u in omega (arith, rest_small))
      (and_false (le_z (neg_ℤ (pos m)) upper) (le_z upper (pos m)) e)
