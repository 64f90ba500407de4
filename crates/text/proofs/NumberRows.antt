-- Lines made number by number. Assumes nothing.
use mathlib.Core.Path.{◌≡◌, refl, sym, ap, ◌∙◌}
use mathlib.Core.List.{List, [], ◌∷◌, ◌++◌, append-nil, append_assoc}
use Prim.Native.Nat.{ℕ, ◌+◌, ◌*◌, ◌/◌, ◌<◌}
use native.Mathlib.Numerals.{add-one}
use native.Mathlib.Omega.{arith}
use lib.IntN.{ℤ, pos}
use lib.ListN.{length, get_or, take, drop, length-append}
use lib.Seq.{take-suc, take_at, drop_at, drop-drop}
use Rattle.std.proofs.lemmas.List.{drop-take, take-take}
use Rattle.std.proofs.lemmas.Nat.{div-mul-add}
use Rattle.text.specs.Decimal.{decimal}
use Rattle.text.specs.Table.{line_of, row_line, row_lines}

-- numbers with a space behind each
unfoldable pub spaced : List ℤ → List ℕ
spaced [] = []
spaced (z ∷ zs) = (decimal z ++ (32 ∷ [])) ++ spaced zs

spaced_more : (zs : List ℤ) (z : ℤ) → spaced (zs ++ (z ∷ [])) ≡ spaced zs ++ (decimal z ++ (32 ∷ []))
unfolding spaced
spaced_more [] z = append-nil (decimal z ++ (32 ∷ []))
spaced_more (y ∷ ys) z =
    let y-spaced = decimal y ++ (32 ∷ []) in
    ap (λ (bs : List ℕ). y-spaced ++ bs) (spaced_more ys z) ∙ sym (append_assoc y-spaced (spaced ys) (decimal z ++ (32 ∷ [])))

line_last : (y : ℤ) (zs : List ℤ) (z : ℤ) → line_of y (zs ++ (z ∷ [])) ≡ spaced (y ∷ zs) ++ (decimal z ++ (10 ∷ []))
unfolding spaced line_of
line_last y [] z = ap (λ (bs : List ℕ). bs ++ (decimal z ++ (10 ∷ []))) (sym (append-nil (decimal y ++ (32 ∷ []))))
line_last y (x ∷ xs) z =
    let y-spaced = decimal y ++ (32 ∷ []) in
    ap (λ (bs : List ℕ). y-spaced ++ bs) (line_last x xs z) ∙ sym (append_assoc y-spaced (spaced (x ∷ xs)) (decimal z ++ (10 ∷ [])))

pub row_last : (zs : List ℤ) (z : ℤ) → row_line (zs ++ (z ∷ [])) ≡ spaced zs ++ (decimal z ++ (10 ∷ []))
unfolding spaced line_of row_line
row_last [] z = refl
row_last (y ∷ ys) z = line_last y ys z

-- one number more of a row, and its last one
pub spaced_next : (zs : List ℤ) (i : ℕ) → i < length zs → spaced (take (i + 1) zs) ≡ spaced (take i zs) ++ (decimal (get_or zs i (pos 0)) ++ (32 ∷ []))
spaced_next zs i h =
    ap spaced (ap (λ (k : ℕ). take k zs) (add-one i) ∙ take-suc zs i (pos 0) h) ∙ spaced_more (take i zs) (get_or zs i (pos 0))

-- ---- rows of w numbers, taken from the front of what is left

-- where fewer than w are left, no row is
pub rows_done : (w j m r : ℕ) → w * j + r ≡ w * m → r < w → j ≡ m
rows_done w j m r e h =
    let p : j * w + r ≡ m * w + 0 = omega arith in
    sym (div-mul-add j w r h) ∙ ap (λ (n : ℕ). n / w) p ∙ div-mul-add m w 0 (omega arith)

module _ (w j m : ℕ) (zs left : List ℤ) (l : w * j + length left ≡ w * m) (e : left ≡ drop (w * j) (take (w * m) zs)) where
  left_is : left ≡ take (length left) (drop (w * j) zs)
  left_is = e ∙ ap (λ (n : ℕ). drop (w * j) (take n zs)) (sym l) ∙ drop-take (w * j) (length left) zs

  module _ (row more : List ℤ) (f : left ≡ row ++ more) (k : length row ≡ w) where
    long : length left ≡ w + length more
    long = ap length f ∙ length-append row more ∙ ap (λ (n : ℕ). n + length more) k

    pub row_next : row ≡ take w (drop (w * j) zs)
    row_next = sym (take_at row more w k) ∙ ap (take w) (sym f ∙ left_is) ∙ take-take w (length left) (drop (w * j) zs) (omega (arith, long))

    pub row_more : w * (j + 1) + length more ≡ w * m
    row_more = omega (arith, long)

    pub row_behind : more ≡ drop (w * (j + 1)) (take (w * m) zs)
    row_behind =
        let p : w * j + w ≡ w * (j + 1) = omega arith in
        sym (drop_at row more w k) ∙ ap (drop w) (sym f ∙ e) ∙ drop-drop w (w * j) (take (w * m) zs) ∙ ap (λ (n : ℕ). drop n (take (w * m) zs)) p

-- the lines of one row more
pub rows_next : (w j : ℕ) (zs row : List ℤ) → row ≡ take w (drop (w * j) zs) → row_lines w zs j ++ row_line row ≡ row_lines w zs (j + 1)
unfolding row_lines
rows_next w j zs row e = ap (λ (r : List ℤ). row_lines w zs j ++ row_line r) e ∙ sym (ap (row_lines w zs) (add-one j))
