-- What is proved of bytes that are pasted into a list, byte by byte, and of a fact that holds of each byte. Assumes nothing.
use mathlib.Core.Path.{◌≡◌, sym, ap, ◌∙◌}
use mathlib.Core.List.{List, [], ◌∷◌, ◌++◌}
use Prim.Native.Nat.{ℕ, zero, suc, ◌+◌, ◌-◌, ◌≤◌, ◌<◌}
use native.Mathlib.Nat.{not-suc-le-zero, le_of_suc-le-suc}
use native.Mathlib.Omega.{arith}
use lib.ListN.{length, get_or, take, drop, get_or-append}
use lib.Seq.{length-take-le, get_or-take, get_or-drop, get_or-append-add}
use Rattle.text.specs.Bytes.{pasted}

-- ---- behind a list of length n stands another

pub append_at : (xs ys : List ℕ) (n i : ℕ) → length xs ≡ n → get_or (xs ++ ys) (n + i) 0 ≡ get_or ys i 0
append_at xs ys n i e = ap (λ (k : ℕ). get_or (xs ++ ys) (k + i) 0) (sym e) ∙ get_or-append-add xs ys i 0

-- ---- bytes bs pasted into d

module _ (d : List ℕ) (at : ℕ) (bs : List ℕ) (h : at + length bs ≤ length d) where
  start_long : length (take at d) ≡ at
  start_long = length-take-le at d (omega arith)

  pub pasted-low : (i : ℕ) → i < at → get_or (pasted d at bs) i 0 ≡ get_or d i 0
  unfolding pasted
  pasted-low i l = get_or-append (take at d) (bs ++ drop (at + length bs) d) 0 i (omega (arith, start_long)) ∙ get_or-take at d i 0 l

  pub pasted_in : (i : ℕ) → i < length bs → get_or (pasted d at bs) (at + i) 0 ≡ get_or bs i 0
  unfolding pasted
  pasted_in i l = append_at (take at d) (bs ++ drop (at + length bs) d) at i start_long ∙ get_or-append bs (drop (at + length bs) d) 0 i l

  pub pasted_high : (i : ℕ) → at + length bs ≤ i → get_or (pasted d at bs) i 0 ≡ get_or d i 0
  unfolding pasted
  pasted_high i l =
      let j = i - (at + length bs) in
      let e : at + (length bs + j) ≡ i = omega arith in
      let f : at + length bs + j ≡ i = omega arith in
      ap (λ (k : ℕ). get_or (pasted d at bs) k 0) (sym e)
      ∙ append_at (take at d) (bs ++ drop (at + length bs) d) at (length bs + j) start_long
      ∙ get_or-append-add bs (drop (at + length bs) d) j 0
      ∙ get_or-drop (at + length bs) d j 0
      ∙ ap (λ (k : ℕ). get_or d k 0) f

-- ---- a fact of each byte

abbrev pub Each : (ℕ → Type 0) → List ℕ → Type 0
Each P xs = (i : ℕ) → i < length xs → P (get_or xs i 0)

module _ (P : ℕ → Type 0) where
  pub each_none : Each P []
  each_none i l = absurd (not-suc-le-zero l)

  pub each_more : (b : ℕ) (xs : List ℕ) → P b → Each P xs → Each P (b ∷ xs)
  each_more b xs p h zero l = p
  each_more b xs p h (suc i) l = h i (le_of_suc-le-suc l)

  pub each_both : (xs ys : List ℕ) → Each P xs → Each P ys → Each P (xs ++ ys)
  each_both [] ys h k = k
  each_both (b ∷ xs) ys h k = each_more b (xs ++ ys) (h 0 (omega arith)) (each_both xs ys (λ i l. h (suc i) (omega arith)) k)
