-- Polynomials over ℤ as lists of coefficients, the constant's first, and their values. Assumes nothing.
use Rattle.std.proofs.Common.{◌≡◌, ℕ, ◌+◌, ◌*◌, ◌≤◌, List, [], ◌∷◌, ◌++◌, ℤ, pos, negsuc, ◌+ℤ◌, ◌*ℤ◌, neg_ℤ, ◌≤ℤ◌, refl, mul-le-mul_right, arith}
use Rattle.whole.specs.Whole.{pos_part}
use Rattle.whole.proofs.Linear.{zarith, mul_mono}
use Rattle.whole.proofs.Quote.{⟨◌⟩, #, ◌⊕◌, ◌⊗◌, ⊖, by≡, by≤}

abbrev pub peval : List ℤ → ℤ → ℤ
peval [] x = pos 0
peval (c ∷ p) x = c +ℤ x *ℤ peval p x

abbrev pub padd : List ℤ → List ℤ → List ℤ
padd [] q = q
padd (a ∷ p) [] = a ∷ p
padd (a ∷ p) (b ∷ q) = (a +ℤ b) ∷ padd p q

abbrev pub pscale : ℤ → List ℤ → List ℤ
pscale k [] = []
pscale k (a ∷ p) = (k *ℤ a) ∷ pscale k p

abbrev pub pmul : List ℤ → List ℤ → List ℤ
pmul [] q = []
pmul (a ∷ p) q = padd (pscale a q) (pos 0 ∷ pmul p q)

abbrev pub pneg : List ℤ → List ℤ
pneg [] = []
pneg (a ∷ p) = neg_ℤ a ∷ pneg p

pub eval_add : (p q : List ℤ) (x : ℤ) → peval (padd p q) x ≡ peval p x +ℤ peval q x
eval_add [] q x = by≡ ⟨ peval q x ⟩ (# 0 ⊕ ⟨ peval q x ⟩) (omega arith)
eval_add (a ∷ p) [] x = by≡ (⟨ a ⟩ ⊕ ⟨ x ⟩ ⊗ ⟨ peval p x ⟩) (⟨ a ⟩ ⊕ ⟨ x ⟩ ⊗ ⟨ peval p x ⟩ ⊕ # 0) (omega arith)
eval_add (a ∷ p) (b ∷ q) x =
    rw (eval_add p q x)
    (by≡ (⟨ a ⟩ ⊕ ⟨ b ⟩ ⊕ ⟨ x ⟩ ⊗ (⟨ peval p x ⟩ ⊕ ⟨ peval q x ⟩)) (⟨ a ⟩ ⊕ ⟨ x ⟩ ⊗ ⟨ peval p x ⟩ ⊕ (⟨ b ⟩ ⊕ ⟨ x ⟩ ⊗ ⟨ peval q x ⟩)) (omega arith))

pub eval_scale : (k : ℤ) (p : List ℤ) (x : ℤ) → peval (pscale k p) x ≡ k *ℤ peval p x
eval_scale k [] x = by≡ (# 0) (⟨ k ⟩ ⊗ # 0) (omega arith)
eval_scale k (a ∷ p) x =
    rw (eval_scale k p x)
    (by≡ (⟨ k ⟩ ⊗ ⟨ a ⟩ ⊕ ⟨ x ⟩ ⊗ (⟨ k ⟩ ⊗ ⟨ peval p x ⟩)) (⟨ k ⟩ ⊗ (⟨ a ⟩ ⊕ ⟨ x ⟩ ⊗ ⟨ peval p x ⟩)) (omega arith))

pub eval_mul : (p q : List ℤ) (x : ℤ) → peval (pmul p q) x ≡ peval p x *ℤ peval q x
eval_mul [] q x = by≡ (# 0) (# 0 ⊗ ⟨ peval q x ⟩) (omega arith)
eval_mul (a ∷ p) q x =
    rw (eval_add (pscale a q) (pos 0 ∷ pmul p q) x, eval_scale a q x, eval_mul p q x)
    (by≡ (⟨ a ⟩ ⊗ ⟨ peval q x ⟩ ⊕ (# 0 ⊕ ⟨ x ⟩ ⊗ (⟨ peval p x ⟩ ⊗ ⟨ peval q x ⟩))) ((⟨ a ⟩ ⊕ ⟨ x ⟩ ⊗ ⟨ peval p x ⟩) ⊗ ⟨ peval q x ⟩) (omega arith))

pub eval_neg : (p : List ℤ) (x : ℤ) → peval (pneg p) x ≡ neg_ℤ (peval p x)
eval_neg [] x = refl
eval_neg (a ∷ p) x =
    rw (eval_neg p x)
    (by≡ (⊖ ⟨ a ⟩ ⊕ ⟨ x ⟩ ⊗ ⊖ ⟨ peval p x ⟩) (⊖ (⟨ a ⟩ ⊕ ⟨ x ⟩ ⊗ ⟨ peval p x ⟩)) (omega arith))

-- with one more term at the top: the power that it takes
abbrev pub pow_of : List ℤ → ℤ → ℤ
pow_of [] x = pos 1
pow_of (a ∷ p) x = x *ℤ pow_of p x

pub eval_snoc : (p : List ℤ) (c x : ℤ) → peval (p ++ (c ∷ [])) x ≡ peval p x +ℤ c *ℤ pow_of p x
eval_snoc [] c x = by≡ (⟨ c ⟩ ⊕ ⟨ x ⟩ ⊗ # 0) (# 0 ⊕ ⟨ c ⟩ ⊗ # 1) (omega arith)
eval_snoc (a ∷ p) c x =
    rw (eval_snoc p c x)
    (by≡ (⟨ a ⟩ ⊕ ⟨ x ⟩ ⊗ (⟨ peval p x ⟩ ⊕ ⟨ c ⟩ ⊗ ⟨ pow_of p x ⟩)) (⟨ a ⟩ ⊕ ⟨ x ⟩ ⊗ ⟨ peval p x ⟩ ⊕ ⟨ c ⟩ ⊗ (⟨ x ⟩ ⊗ ⟨ pow_of p x ⟩)) (omega arith))

-- an upper bound on [0, m]: the coefficients that are positive, at m
abbrev pub pup : List ℤ → ℕ → ℕ
pup [] m = 0
pup (c ∷ p) m = pos_part c + m * pup p m

pub eval_up : (p : List ℤ) (w m : ℕ) → w ≤ m → peval p (pos w) ≤ℤ pos (pup p m)
eval_up [] w m h = omega zarith
eval_up (c ∷ p) w m h =
    let k : (pos w *ℤ peval p (pos w)) ≤ℤ pos (w * pup p m) = mul_mono (pos w) (peval p (pos w)) (pos (pup p m)) (omega zarith) (eval_up p w m h) in
    let l = mul-le-mul_right (pup p m) h in
    by≤ (⟨ c ⟩ ⊕ ⟨ pos w *ℤ peval p (pos w) ⟩) (# (pos_part c + m * pup p m)) (omega zarith)

-- a square is not negative
pub sq_nonneg : (x : ℤ) → pos 0 ≤ℤ (x *ℤ x)
sq_nonneg (pos n) = omega zarith
sq_nonneg (negsuc n) = omega zarith
