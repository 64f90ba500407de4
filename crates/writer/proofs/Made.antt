-- A file that the writer makes of right lists: its contents table is right, so that 1 is given for the lists alone, and its records are the lists. Assumes nothing.
use mathlib.Core.Path.{◌≡◌, refl, sym, ap, ap₂, ◌∙◌}
use Prim.Native.Nat.{ℕ, zero, suc, ◌+◌, ◌*◌, ◌/◌, ◌≤◌, ◌<◌}
use native.Mathlib.Omega.{arith}
use mathlib.Core.Bool.{Bool, true, false}
use mathlib.Core.List.{List, [], ◌∷◌, ◌++◌}
use lib.ListN.{length, get_or}
use lib.IntN.{ℤ}
use lib.Dec.{leb}
use borrow.Author.Tests.{eq-eqb, le-leb}
use Rattle.whole.proofs.Tests.{and_yes}
use Rattle.whole.proofs.Each.{below_all}
use Rattle.whole.specs.Refusals.{unless, first_of}
use Rattle.text.specs.Words.{word}
use Rattle.text.specs.Bytes.{words_of}
use Rattle.sections.specs.Layouts.{Table, places}
use Rattle.sections.specs.File.{present, kind_of, first_byte, count_of_rule, size_of, start_of, sections_right_rule, kind_right_rule, offset_right_rule, count_right_rule, length_right_rule, contents_right, ranges_right, ids_right, days_right, refusal_of_rule}
use Rattle.sections.proofs.Shapes.{Good, today}
use Rattle.sections.proofs.Accepted.{in_turn_lem}
use Rattle.writer.specs.declared.Kinds.{Kinds}
use Rattle.whole.specs.Values.{joined}
use Rattle.writer.specs.Writing.{kind_at, list_at, size_in, start_for, lists_right_rule, entry_for, contents_for_rule, file_words, file_of, write_refusal}
use Rattle.writer.specs.Handed.{rows_in}
use Rattle.writer.specs.Round.{Longs}
use Rattle.whole.proofs.Values.{joined_even}
use Rattle.writer.proofs.Runs.{Run, run_first, run_second, run_part, run_values, run_made}
use Rattle.writer.proofs.Counts.{lists_right_lem}
use Rattle.writer.proofs.Longest.{bodies, start_is, contents_long, made-long, made-short}
use Rattle.writer.proofs.Outcomes.{by_turn}
use Rattle.writer.proofs.Rows.{rows_values}

module _ {t : Table} (g : Good t) (k : Kinds) (ls : List (List ℤ)) where
  -- ---- the words of the file

  whole : Run (file_of t k ls) 0 (contents_for_rule t k ls ++ bodies ls 4)
  unfolding file_of file_words
  whole = run_made (file_words t k ls)

  table : Run (file_of t k ls) 0 ((4 ∷ []) ++ joined 4 (entry_for t k ls))
  unfolding contents_for_rule
  table = run_first (file_of t k ls) 0 (contents_for_rule t k ls) (bodies ls 4) whole

  -- the body of place p
  body_made : (p : ℕ) → p < 4 → Run (file_of t k ls) (13 + length (bodies ls p)) (words_of (list_at ls p))
  body_made p l =
      run_part (file_of t k ls) 13 (λ (q : ℕ). words_of (list_at ls q)) 4 p l
      (rw (contents_long t k ls) at (run_second (file_of t k ls) 0 (contents_for_rule t k ls) (bodies ls 4) whole))

  four_made : word (file_of t k ls) 0 ≡ 4
  four_made = sym (table 0 (omega arith))

  -- of place p the kind, the first byte and the count
  module _ (p : ℕ) (l : p < 4) where
    entry-made : (j i : ℕ) → j < 3 → i ≡ 3 * p + 1 + j → word (file_of t k ls) i ≡ get_or (entry_for t k ls p) j 0
    entry-made j i m e =
        let d : i ≡ 0 + 1 + length (joined p (entry_for t k ls)) + j = omega (arith, joined_even (entry_for t k ls) 3 p (λ q l. refl)) in
        ap (word (file_of t k ls)) d
        ∙ sym (run_part (file_of t k ls) (0 + 1) (entry_for t k ls) 4 p l (run_second (file_of t k ls) 0 (4 ∷ []) (joined 4 (entry_for t k ls)) table) j m)

    pub kind-made : kind_of (file_of t k ls) p ≡ kind_at k p
    kind-made = entry-made 0 _ (omega arith) (omega arith)

    pub first_made : first_byte (file_of t k ls) p ≡ start_for ls p
    first_made = entry-made 1 _ (omega arith) (omega arith)

    pub count-made : count_of_rule (file_of t k ls) p ≡ length (list_at ls p) / size_in t p (kind_at k p)
    count-made = entry-made 2 _ (omega arith) (omega arith)

  module _ (s : lists_right_rule t k ls ≡ true) where
    -- the numbers of place p, and where they start
    size_made : (p : ℕ) → p < 4 → size_of t (file_of t k ls) p * count_of_rule (file_of t k ls) p ≡ length (list_at ls p)
    size_made p l = ap₂ (λ (x y : ℕ). size_in t p x * y) (kind-made p l) (count-made p l) ∙ (lists_right_lem g k ls s p l).exact

    start_made : (p : ℕ) → p ≤ 4 → start_of t (file_of t k ls) p ≡ start_for ls p
    unfolding start_of start_for
    start_made zero l = refl
    start_made (suc p) l = ap₂ (λ (x y : ℕ). x + 8 * y) (start_made p (omega arith)) (size_made p (omega arith))

    -- ---- the contents table

    here : (j : ℕ) → j < 13 → present (file_of t k ls) j ≡ true
    here j l = le-leb (8 * j + 8) _ (omega (arith, made-long t k ls, start_is ls 4))

    pub contents_made : length (file_of t k ls) ≤ 65_536 → contents_right t (file_of t k ls) ≡ true
    unfolding contents_right sections_right_rule kind_right_rule count_right_rule offset_right_rule length_right_rule
    contents_made short =
        let f = file_of t k ls in
        let w = lists_right_lem g k ls s in
        and_yes (and_yes (here 0 (omega arith)) (eq-eqb _ _ four_made))
        (and_yes (below_all 4 (kind_right_rule t f) (λ p l. and_yes (here (3 * p + 1) (omega arith)) (rw (kind-made p l) (w p l).stands)))
        (and_yes (below_all 4 (count_right_rule t f) (λ p l. and_yes (here (3 * p + 3) (omega arith)) (rw (kind-made p l, count-made p l) (w p l).counted)))
        (and_yes (below_all 4 (offset_right_rule t f) (λ p l. and_yes (here (3 * p + 2) (omega arith)) (eq-eqb _ _ (first_made p l ∙ sym (start_made p (omega arith))))))
        (and_yes (le-leb _ _ short) (eq-eqb _ _ (made-long t k ls ∙ sym (start_made 4 (omega arith))))))))

    -- ---- the records

    pub rows_made : (p : ℕ) → p < 4 → Longs (list_at ls p) → rows_in t (file_of t k ls) p ≡ list_at ls p
    rows_made p l f =
        rows_values t (file_of t k ls) p (13 + length (bodies ls p)) (length (list_at ls p)) (first_made p l ∙ start_is ls p) (size_made p l)
        ∙ run_values (file_of t k ls) (13 + length (bodies ls p)) (list_at ls p) f (body_made p l)

-- ---- 1 is given exactly where the lists are no right counts of whole records

module _ (k : Kinds) (ls : List (List ℤ)) (room : ℕ) (h : write_refusal places k ls room ≡ 1) where
  after : (n : ℕ) (b : Bool) → first_of (n ∷ unless b 7 ∷ []) ≡ 1 → n ≡ 1
  after zero true e = absurd (omega arith)
  after zero false e = absurd (omega arith)
  after (suc n) b e = e

  wrong : (b c d : Bool) → first_of (0 ∷ unless b 2 ∷ unless c 3 ∷ unless d 4 ∷ []) ≡ 1 → ⊥
  wrong false c d e = omega arith
  wrong true false d e = omega arith
  wrong true true false e = omega arith
  wrong true true true e = omega arith

  not_right : lists_right_rule places k ls ≡ true → ⊥
  not_right s =
      let f = file_of places k ls in
      let c : contents_right places f ≡ true = contents_made today k ls s (omega (arith, made-short k ls s)) in
      let one : refusal_of_rule f ≡ 1 = after (refusal_of_rule f) (leb (length f) room) (rw s at (sym (by_turn today k ls room) ∙ h)) in
      wrong (ranges_right places f) (ids_right places f) (days_right places f) (rw c at (sym (in_turn_lem today f) ∙ one))

  pub one_for_lists : lists_right_rule places k ls ≡ false
  one_for_lists = by (lists_right_rule places k ls) not_right
    where
      by : (b : Bool) → (b ≡ true → ⊥) → b ≡ false
      by true f = absurd (f refl)
      by false f = refl
