-- How long a file of right lists is, and how long at most, whatever the table of layouts says. Assumes nothing.
use mathlib.Core.Path.{◌≡◌, refl, ◌∙◌}
use Prim.Native.Nat.{ℕ, zero, suc, ◌+◌, ◌*◌, ◌/◌, ◌≤◌, ◌<◌, max}
use native.Mathlib.Omega.{arith}
use mathlib.Core.Bool.{Bool, true, false, cond}
use mathlib.Core.List.{List, [], ◌∷◌}
use lib.ListN.{length, length-append, length-map}
use lib.IntN.{ℤ}
use lib.Dec.{leb, eqb}
use mir.Syntax.{w64}
use mir.Val.{of_z}
use borrow.Author.Tests.{leb-true}
use Rattle.whole.proofs.Linear.{and_true}
use Rattle.whole.proofs.Products.{below}
use Rattle.text.specs.Bytes.{words_of}
use Rattle.text.proofs.All.{all_long}
use Rattle.sections.specs.Layouts.{Layout, Table, places, no_layout, of_kind, layouts_in, layout_in_rule}
use Rattle.sections.proofs.Shapes.{today}
use Rattle.writer.specs.declared.Kinds.{Kinds}
use Rattle.whole.specs.Values.{joined}
use Rattle.writer.specs.Writing.{kind_at, list_at, start_for, size_in, lists_right_rule, contents_for_rule, file_words, file_of}
use Rattle.writer.proofs.Counts.{ListRight, lists_right_lem}

-- ---- the file's length

-- the bodies before place p, in words
abbrev pub bodies : List (List ℤ) → ℕ → List ℕ
bodies ls p = joined p (λ (q : ℕ). words_of (list_at ls q))

pub start_is : (ls : List (List ℤ)) (p : ℕ) → start_for ls p ≡ 8 * (13 + length (bodies ls p))
unfolding start_for joined
start_is ls zero = refl
start_is ls (suc p) = omega (arith, start_is ls p, length-append (bodies ls p) (words_of (list_at ls p)), length-map (list_at ls p) (of_z w64))

module _ (t : Table) (k : Kinds) (ls : List (List ℤ)) where
  pub contents_long : length (contents_for_rule t k ls) ≡ 13
  unfolding contents_for_rule joined
  contents_long = refl

  pub words_long : 8 * length (file_words t k ls) ≡ start_for ls 4
  unfolding file_words
  words_long = omega (arith, length-append (contents_for_rule t k ls) (bodies ls 4), contents_long, start_is ls 4)

  pub made-long : length (file_of t k ls) ≡ start_for ls 4
  unfolding file_of
  made-long = all_long (file_words t k ls) ∙ words_long

  -- a room for the file has room for its bodies
  pub made-fits : (n : ℕ) → length (file_of t k ls) ≤ n → start_for ls 4 ≤ n
  made-fits n h = rw made-long at h

-- ---- the most numbers that a place holds

-- of a layout, and the greatest of these layouts
abbrev most_by : Layout → ℕ
most_by l = length l.fields * l.most

abbrev most_of : List Layout → ℕ
most_of [] = 0
most_of (l ∷ ls) = max (most_by l) (most_of ls)

most_in : Table → ℕ → ℕ
most_in t p = most_of (layouts_in t p)

pick : (c : Bool) (l m : Layout) (n : ℕ) → most_by m ≤ n → most_by (cond c l m) ≤ max (most_by l) n
pick true l m n h = omega arith
pick false l m n h = omega arith

of_kind_lem : (ls : List Layout) (k : ℕ) → most_by (of_kind ls k) ≤ most_of ls
unfolding no_layout
of_kind_lem [] k = omega arith
of_kind_lem (l ∷ ls) k = pick (eqb k l.kind) l (of_kind ls k) (most_of ls) (of_kind_lem ls k)

in_place : (t : Table) (p k : ℕ) → most_by (layout_in_rule t p k) ≤ most_in t p
unfolding layout_in_rule most_in
in_place t p k = of_kind_lem (layouts_in t p) k

list_most : (t : Table) (p k n : ℕ) → ListRight t p k n → n ≤ most_in t p
list_most t p k n w =
    let c : n / size_in t p k ≤ (layout_in_rule t p k).most = leb-true _ _ (and_true (leb (layout_in_rule t p k).fewest (n / size_in t p k)) _ w.counted).1 in
    omega (arith, w.exact, below (size_in t p k) (layout_in_rule t p k).most {a = size_in t p k} {b = n / size_in t p k} (omega arith) c, in_place t p k)

-- ---- the contents table and the fullest places, computed from the table of layouts

fullest : 8 * (13 + most_in places 0 + most_in places 1 + most_in places 2 + most_in places 3) ≡ 15_464
unfolding most_in places
fullest = refl

module _ (k : Kinds) (ls : List (List ℤ)) (h : lists_right_rule places k ls ≡ true) where
  pub lists_short : start_for ls 4 ≤ 15_464
  unfolding start_for
  lists_short =
      let m : (p : ℕ) → p < 4 → length (list_at ls p) ≤ most_in places p = λ p l. list_most places p (kind_at k p) _ (lists_right_lem today k ls h p l) in
      omega (arith, fullest, m 0 (omega arith), m 1 (omega arith), m 2 (omega arith), m 3 (omega arith))

  pub made-short : length (file_of places k ls) ≤ 15_464
  made-short = omega (arith, made-long places k ls, lists_short)
