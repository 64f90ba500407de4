-- The rows of a written text are those of its records, and the first row with a day is that day's. Assumes nothing.
use mathlib.Core.Path.{◌≡◌, refl, sym, ap, ◌∙◌}
use mathlib.Core.List.{List, [], ◌∷◌, ◌++◌, append_assoc, append-nil}
use Prim.Native.Nat.{ℕ, zero, suc, ◌+◌, ◌<◌}
use native.Mathlib.Decide.{ℕ_discrete}
use native.Mathlib.Nat.{not-suc-le-zero, le_of_suc-le-suc}
use native.Mathlib.Omega.{arith}
use borrow.Author.Tests.{ne_eqb}
use lib.Arith.{lt_of_le-ne}
use lib.ListN.{length, get_or, length-append, get_or-append}
use lib.Seq.{append_snoc, get_or-append-add}
use lib.IntN.{ℤ, pos}
use Rattle.whole.specs.Values.{joined}
use Rattle.whole.specs.Ranges.{eq_z}
use Rattle.whole.proofs.Order.{eq_z_true, eq_z_refl, not_so}
use Rattle.bulletin.specs.Rows.{rows_from, rows_of, first_in_rule}
use Rattle.bulletin.specs.Writing.{row_for_rule, records_in, record_at_rule, rows_text}
use Rattle.bulletin.specs.ReadBack.{row_of, TextIsRead}
use Rattle.bulletin.proofs.Pasting.{Each}
use Rattle.bulletin.proofs.RowRead.{row_is_read, row_plain}
use Rattle.bulletin.proofs.RowText.{NoFeed}
use Rattle.bulletin.proofs.Standing.{right_stands}

-- ---- lists of one, joined

module _ {A : Type 0} (f : ℕ → A) where
  pub ones_long : (n : ℕ) → length (joined n (λ (i : ℕ). f i ∷ [])) ≡ n
  unfolding joined
  ones_long zero = refl
  ones_long (suc n) = length-append (joined n (λ (i : ℕ). f i ∷ [])) (f n ∷ []) ∙ omega (arith, ones_long n)

  last_at : (n j : ℕ) (a : A) → j < suc n → (j < n → get_or (joined n (λ (i : ℕ). f i ∷ [])) j a ≡ f j) → Dec (j ≡ n) → get_or (joined n (λ (i : ℕ). f i ∷ []) ++ (f n ∷ [])) j a ≡ f j
  last_at n j a l r (yes e) =
      let xs = joined n (λ (i : ℕ). f i ∷ []) in
      let k : j ≡ length xs + 0 = omega (arith, e, ones_long n) in
      ap (λ (i : ℕ). get_or (xs ++ (f n ∷ [])) i a) k ∙ get_or-append-add xs (f n ∷ []) 0 a ∙ ap f (sym e)
  last_at n j a l r (no h) =
      let m : j < n = lt_of_le-ne (le_of_suc-le-suc l) h in
      get_or-append (joined n (λ (i : ℕ). f i ∷ [])) (f n ∷ []) a j (omega (arith, ones_long n, m)) ∙ r m

  pub ones_at : (n j : ℕ) (a : A) → j < n → get_or (joined n (λ (i : ℕ). f i ∷ [])) j a ≡ f j
  unfolding joined
  ones_at zero j a l = absurd (not-suc-le-zero l)
  ones_at (suc n) j a l = last_at n j a l (ones_at n j a) (ℕ_discrete j n)

-- ---- the rows of a text

-- a row without a line feed in it, and the line feed that ends it
row_ends : (met row rest : List ℕ) → Each NoFeed row → rows_from met (row ++ (10 ∷ rest)) ≡ (met ++ row) ∷ rows_from [] rest
unfolding rows_from
row_ends met [] rest h = ap (λ (x : List ℕ). x ∷ rows_from [] rest) (sym (append-nil met))
row_ends met (b ∷ row) rest h =
    rw (ne_eqb b 10 (h 0 (omega arith)))
    (row_ends (met ++ (b ∷ [])) row rest (λ i l. h (suc i) (omega arith)) ∙ ap (λ (x : List ℕ). x ∷ rows_from [] rest) (append_snoc met b row))

-- rows that are lines, one behind the other, and what follows them
rows_are : (f g : ℕ → List ℕ) (n : ℕ) (rest : List ℕ) → ((i : ℕ) → i < n → (f i ≡ g i ++ (10 ∷ [])) × Each NoFeed (g i))
    → rows_from [] (joined n f ++ rest) ≡ joined n (λ (i : ℕ). g i ∷ []) ++ rows_from [] rest
unfolding joined
rows_are f g zero rest h = refl
rows_are f g (suc n) rest h =
    let q = h n (omega arith) in
    let gs = joined n (λ (i : ℕ). g i ∷ []) in
    let e : joined n f ++ f n ++ rest ≡ joined n f ++ (g n ++ (10 ∷ rest)) =
    append_assoc (joined n f) (f n) rest ∙ ap (λ (x : List ℕ). joined n f ++ x) (ap (λ (x : List ℕ). x ++ rest) q.0 ∙ append_assoc (g n) (10 ∷ []) rest) in
    ap (rows_from []) e
    ∙ rows_are f g n (g n ++ (10 ∷ rest)) (λ i l. h i (omega arith))
    ∙ ap (λ (x : List (List ℕ)). gs ++ x) (row_ends [] (g n) rest q.1)
    ∙ sym (append_assoc gs (g n ∷ []) (rows_from [] rest))

pub text_is_read : (numbers : List ℤ) → TextIsRead numbers
unfolding rows_text rows_from
text_is_read numbers r =
    let n = records_in numbers in
    let f : ℕ → List ℕ = λ (i : ℕ). row_for_rule (record_at_rule numbers i) in
    let g : ℕ → List ℕ = λ (i : ℕ). row_of (record_at_rule numbers i) in
    ap rows_of (sym (append-nil (joined n f)))
    ∙ rows_are f g n []
    (λ i l.
    let s = right_stands numbers r i l in
    ((row_is_read (record_at_rule numbers i) s).1, row_plain (record_at_rule numbers i) s))
    ∙ append-nil (joined n (λ (i : ℕ). g i ∷ []))

-- ---- the first row with a day

pub first_at : (k : ℕ) (xs : List ℤ) (d : ℤ) → k < length xs → get_or xs k (pos 0) ≡ d → ((i : ℕ) → i < k → get_or xs i (pos 0) ≡ d → ⊥) → first_in_rule xs d ≡ k
unfolding first_in_rule
first_at zero (x ∷ xs) d l e f = rw (eq_z_refl x d e)
first_at (suc k) (x ∷ xs) d l e f =
    rw (not_so (eq_z x d) (λ t. f 0 (omega arith) (eq_z_true x d t))) (ap suc (first_at k xs d (le_of_suc-le-suc l) e (λ i m g. f (suc i) (omega arith) g)))
first_at k [] d l e f = absurd (not-suc-le-zero l)
