-- Bytes that are put into a list, one run after the other. Assumes nothing.
use mathlib.Core.Path.{◌≡◌, refl, sym, ap, ap₂, ◌∙◌}
use Prim.Native.Nat.{ℕ, ◌+◌, ◌*◌, ◌^◌, ◌≤◌, ◌<◌}
use native.Mathlib.Nat.{add-zero}
use native.Mathlib.Numerals.{add-one}
use native.Mathlib.Omega.{arith}
use mathlib.Core.List.{List, [], ◌∷◌, ◌++◌, append_assoc, append-nil}
use lib.ListN.{length, get_or, set, take, drop, length-append, length-drop, take-append-drop}
use borrow.Rule.Slice.PartMut.{put_mid}
use lib.Seq.{length-take-le, take_at, drop-append-add, drop-drop, take-suc, set_split}
use Rattle.std.specs.Int.{w64, to_le_bytes}
use Rattle.text.specs.Bytes.{bytes_of, bytes_of_all}
use Rattle.text.specs.Bytes.{pasted}
use Rattle.text.proofs.Eight.{word_bytes}
use Rattle.text.proofs.All.{all_long}

pub pasted-none : (d : List ℕ) (at : ℕ) → pasted d at [] ≡ d
unfolding pasted
pasted-none d at = rw add-zero (take-append-drop at d)

-- a part of the list that is written over
pub part_pasted : (d b s : List ℕ) (at k : ℕ) → b ≡ s → k ≡ length s → put_mid at k d b ≡ pasted d at s
unfolding pasted
part_pasted d b s at k e f = ap₂ (λ (x : List ℕ) (n : ℕ). take at d ++ (x ++ drop n (drop at d))) e f ∙ ap (λ (x : List ℕ). take at d ++ (s ++ x)) (drop-drop (length s) at d)

module _ (d : List ℕ) (at : ℕ) (bs : List ℕ) (h : at + length bs ≤ length d) where
  front : length (take at d ++ bs) ≡ at + length bs
  front = length-append (take at d) bs ∙ ap (λ (n : ℕ). n + length bs) (length-take-le at d (omega arith))

  pasted_is : pasted d at bs ≡ (take at d ++ bs) ++ drop (at + length bs) d
  unfolding pasted
  pasted_is = sym (append_assoc (take at d) bs (drop (at + length bs) d))

  pub pasted-long : length (pasted d at bs) ≡ length d
  pasted-long = ap length pasted_is ∙ length-append (take at d ++ bs) (drop (at + length bs) d) ∙ omega (arith, front, length-drop (at + length bs) d)

  pub pasted-take : take (at + length bs) (pasted d at bs) ≡ take at d ++ bs
  pasted-take = rw pasted_is (take_at (take at d ++ bs) (drop (at + length bs) d) (at + length bs) front)

  pub pasted-drop : (k : ℕ) → drop (at + length bs + k) (pasted d at bs) ≡ drop (at + length bs + k) d
  pasted-drop k =
      rw pasted_is
      (ap (λ (n : ℕ). drop (n + k) ((take at d ++ bs) ++ drop (at + length bs) d)) (sym front)
      ∙ drop-append-add (take at d ++ bs) (drop (at + length bs) d) k
      ∙ drop-drop k (at + length bs) d)

  -- a run that follows one
  pub pasted-next : (cs : List ℕ) → pasted (pasted d at bs) (at + length bs) cs ≡ pasted d at (bs ++ cs)
  unfolding pasted
  pasted-next cs =
      let e : at + length bs + length cs ≡ at + length (bs ++ cs) = omega (arith, length-append bs cs) in
      ap₂ (λ (x y : List ℕ). x ++ (cs ++ y)) pasted-take (pasted-drop (length cs))
      ∙ append_assoc (take at d) bs (cs ++ drop (at + length bs + length cs) d)
      ∙ ap (λ (l : List ℕ). take at d ++ l)
      (sym (append_assoc bs cs (drop (at + length bs + length cs) d))
      ∙ ap (λ (n : ℕ). (bs ++ cs) ++ drop n d) e)

pub bytes-append : (xs ys : List ℕ) → bytes_of_all (xs ++ ys) ≡ bytes_of_all xs ++ bytes_of_all ys
unfolding bytes_of_all
bytes-append [] ys = refl
bytes-append (x ∷ xs) ys = rw (bytes-append xs ys) (sym (append_assoc (bytes_of x) (bytes_of_all xs) (bytes_of_all ys)))

one : (w : ℕ) → bytes_of_all (w ∷ []) ≡ bytes_of w
unfolding bytes_of_all
one w = append-nil (bytes_of w)

all_more : (ws : List ℕ) (j : ℕ) → j < length ws → bytes_of_all (take (j + 1) ws) ≡ bytes_of_all (take j ws) ++ bytes_of (get_or ws j 0)
all_more ws j h = rw (add-one j, take-suc ws j 0 h, bytes-append (take j ws) (get_or ws j 0 ∷ []), one (get_or ws j 0))

-- one word more
pub words_more : (d d₁ d₂ b ws : List ℕ) (at j w : ℕ) → at + 8 * length ws ≤ length d → j < length ws → get_or ws j 0 ≡ w → w < 2 ^ 64
    → d₁ ≡ pasted d at (bytes_of_all (take j ws)) → b ≡ to_le_bytes w64 w → d₂ ≡ pasted d₁ (at + 8 * j) b → d₂ ≡ pasted d at (bytes_of_all (take (j + 1) ws))
words_more d d₁ d₂ b ws at j w h k q f e₁ eb e₂ =
    let bs = bytes_of_all (take j ws) in
    let l : length bs ≡ 8 * j = all_long (take j ws) ∙ ap (λ (n : ℕ). 8 * n) (length-take-le j ws (omega arith)) in
    let e : at + 8 * j ≡ at + length bs = omega arith in
    let m : bytes_of_all (take (j + 1) ws) ≡ bs ++ bytes_of w = all_more ws j k ∙ ap (λ (n : ℕ). bs ++ bytes_of n) q in
    rw (e₂, e₁, eb, word_bytes w f, e, m) (pasted-next d at bs (omega arith) (bytes_of w))

-- words behind words
pub more : (d d₁ d₂ xs ys : List ℕ) (n : ℕ) → d₁ ≡ pasted d 0 (bytes_of_all xs) → d₂ ≡ pasted d₁ n (bytes_of_all ys) → n ≡ 8 * length xs → 8 * length xs ≤ length d
    → d₂ ≡ pasted d 0 (bytes_of_all (xs ++ ys))
more d d₁ d₂ xs ys n e f g h =
    let l = all_long xs in
    let m : n ≡ 0 + length (bytes_of_all xs) = omega arith in
    f ∙ ap₂ (λ (x : List ℕ) (k : ℕ). pasted x k (bytes_of_all ys)) e m ∙ pasted-next d 0 (bytes_of_all xs) (omega arith) (bytes_of_all ys) ∙ ap (pasted d 0) (sym (bytes-append xs ys))

-- one byte
pub byte_one : (d : List ℕ) (at b : ℕ) → at < length d → set d at b ≡ pasted d at (b ∷ [])
unfolding pasted
byte_one d at b h = rw (add-one at) (set_split d at b h)
