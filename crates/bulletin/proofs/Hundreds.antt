-- A number times 100: nothing is left of it by 100, and its floor by 100 is the number. Assumes nothing.
use mathlib.Core.Path.{◌≡◌, sym, ap, ◌∙◌}
use Prim.Native.Nat.{ℕ}
use native.Mathlib.Omega.{arith}
use lib.IntN.{ℤ, pos, ◌+ℤ◌, ◌*ℤ◌}
use Rattle.whole.specs.Whole.{floor_z, mod_z}
use Rattle.whole.proofs.Quote.{by≡, by≤, by<, #, ⟨◌⟩, ◌⊗◌, ◌⊕◌}
use Rattle.whole.proofs.Rounding.{floor_mod, floor_unique, mod_unique}

pub hundreds_left : (z : ℤ) → mod_z (pos 100 *ℤ z) 100 ≡ 0
hundreds_left z = mod_unique (pos 100 *ℤ z) z 100 0 (omega arith) (by≡ (⟨ z ⟩ ⊗ # 100 ⊕ # 0) (# 100 ⊗ ⟨ z ⟩) (omega arith))

pub hundreds_floor : (z : ℤ) → floor_z (pos 100 *ℤ z) 100 ≡ z
hundreds_floor z =
    floor_unique (pos 100 *ℤ z) z 100 (omega arith)
    (by≤ (⟨ z ⟩ ⊗ # 100) (# 100 ⊗ ⟨ z ⟩) (omega arith))
    (by< (# 100 ⊗ ⟨ z ⟩) (⟨ z ⟩ ⊗ # 100 ⊕ # 100) (omega arith))

-- of whole hundreds the floor, times 100, is the number
pub hundreds_back : (z : ℤ) → mod_z z 100 ≡ 0 → pos 100 *ℤ floor_z z 100 ≡ z
hundreds_back z e =
    let q = floor_z z 100 in
    by≡ (# 100 ⊗ ⟨ q ⟩) (⟨ q ⟩ ⊗ # 100 ⊕ # 0) (omega arith)
    ∙ ap (λ (m : ℕ). q *ℤ pos 100 +ℤ pos m) (sym e)
    ∙ floor_mod z 100 (omega arith)
