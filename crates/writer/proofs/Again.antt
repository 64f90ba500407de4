-- An accepted file is the one that the writer makes of its own kinds and records. Assumes nothing.
use mathlib.Core.Path.{◌≡◌, refl, sym, ap, ap₂, ◌∙◌}
use Prim.Native.Nat.{ℕ, zero, suc, ◌+◌, ◌*◌, ◌/◌, ◌≤◌, ◌<◌}
use native.Mathlib.Nat.{mul-div_cancel_left}
use native.Mathlib.Omega.{arith}
use mathlib.Core.Bool.{true}
use mathlib.Core.List.{List, [], ◌∷◌, ◌++◌}
use lib.ListN.{length, get_or}
use lib.IntN.{ℤ}
use borrow.Author.Tests.{eqb-true, eq-eqb}
use Rattle.whole.proofs.Linear.{and_true}
use Rattle.whole.proofs.Tests.{and_yes}
use Rattle.whole.proofs.Each.{below_all}
use Rattle.text.specs.Words.{word}
use Rattle.text.specs.Bytes.{words_of}
use Rattle.text.proofs.Numbers.{Bytes}
use Rattle.sections.specs.Layouts.{Table, layout_in_rule, stands_in}
use Rattle.sections.specs.File.{refusal_by, count_of_rule, kind_of, size_of, first_byte, start_of, present, between, sections_right_rule, count_right_rule}
use Rattle.sections.proofs.Shapes.{Good}
use Rattle.sections.proofs.Accepted.{accepted_contents}
use Rattle.sections.proofs.Sound.{five, kind-stands, count_is_right, first_is, length_is, size_one}
use Rattle.writer.specs.declared.Kinds.{Kinds}
use Rattle.whole.specs.Values.{joined}
use Rattle.writer.specs.Writing.{kind_at, list_at, size_in, start_for, list_right_rule, lists_right_rule, entry_for, contents_for_rule, file_words, file_of}
use Rattle.writer.specs.Handed.{rows_in}
use Rattle.whole.proofs.Values.{joined_even}
use Rattle.writer.proofs.Runs.{Run, run_both, run_joined, values_run, run_whole}
use Rattle.writer.proofs.Rows.{rows_long, rows_values}
use Rattle.writer.proofs.Longest.{bodies, start_is, words_long}

module _ {t : Table} (g : Good t) (s : List ℕ) (h : refusal_by t s ≡ 0) (k : Kinds) (ls : List (List ℤ))
    (same : (p : ℕ) → p < 4 → kind_at k p ≡ kind_of s p) (rows : (p : ℕ) → p < 4 → list_at ls p ≡ rows_in t s p) where
  counted : (p : ℕ) → p < 4 → length (list_at ls p) ≡ size_of t s p * count_of_rule s p
  counted p l = ap length (rows p l) ∙ rows_long t s p

  starts : (p : ℕ) → p ≤ 4 → start_for ls p ≡ start_of t s p
  unfolding start_for start_of
  starts zero l = refl
  starts (suc p) l = ap₂ (λ (x y : ℕ). x + 8 * y) (starts p (omega arith)) (counted p (omega arith))

  -- the three words of place p
  module _ (p : ℕ) (l : p < 4) where
    first : start_for ls p ≡ first_byte s p
    first = starts p (omega arith) ∙ sym (first_is g s (accepted_contents g s h) p l)

    count : length (list_at ls p) / size_in t p (kind_at k p) ≡ count_of_rule s p
    count =
        ap₂ (λ (n x : ℕ). n / size_in t p x) (counted p l) (same p l)
        ∙ mul-div_cancel_left (count_of_rule s p) (size_one g s (accepted_contents g s h) p l)

    entry : (j : ℕ) → j < 3 → get_or (entry_for t k ls p) j 0 ≡ word s (3 * p + 1 + j)
    entry zero m = same p l ∙ ap (word s) (omega arith)
    entry (suc zero) m = first ∙ ap (word s) (omega arith)
    entry (suc (suc zero)) m = count ∙ ap (word s) (omega arith)
    entry (suc (suc (suc j))) m = absurd (omega arith)

  four : 4 ≡ word s 0
  unfolding sections_right_rule
  four = sym (eqb-true _ _ (and_true (present s 0) _ (five g s (accepted_contents g s h)).0).1)

  -- ---- the words of the file

  head : Run s 0 (4 ∷ [])
  head zero l = four
  head (suc j) l = absurd (omega arith)

  table : Run s 0 ((4 ∷ []) ++ joined 4 (entry_for t k ls))
  table =
      run_both s 0 (4 ∷ []) (joined 4 (entry_for t k ls)) head
      (run_joined s (0 + 1) (entry_for t k ls) 4
      (λ p l j m.
      let e : 3 * p + 1 + j ≡ 0 + 1 + length (joined p (entry_for t k ls)) + j = omega (arith, joined_even (entry_for t k ls) 3 p (λ q l. refl)) in
      entry p l j m ∙ ap (word s) e))

  bodies_run : Bytes s → Run s 13 (bodies ls 4)
  bodies_run b =
      run_joined s 13 (λ (p : ℕ). words_of (list_at ls p)) 4
      (λ p l.
      values_run s (13 + length (bodies ls p)) (list_at ls p) b _ (rows p l ∙ rows_values t s p (13 + length (bodies ls p)) _ (sym (first p l) ∙ start_is ls p) refl))

  pub written_again : Bytes s → file_of t k ls ≡ s
  unfolding file_of file_words contents_for_rule joined
  written_again b =
      run_whole s (file_words t k ls) b (length_is g s (accepted_contents g s h) ∙ sym (starts 4 (omega arith)) ∙ sym (words_long t k ls))
      (run_both s 0 (contents_for_rule t k ls) (bodies ls 4) table (bodies_run b))

  -- ---- the lists are right counts of whole records

  pub lists_again : lists_right_rule t k ls ≡ true
  unfolding lists_right_rule list_right_rule count_right_rule
  lists_again =
      below_all 4 (λ (p : ℕ). list_right_rule t p (kind_at k p) (length (list_at ls p)))
      (λ p l.
      let c = accepted_contents g s h in
      let a : stands_in t p (kind_at k p) ≡ true = rw (same p l) (kind-stands g s c p l) in
      let e : size_in t p (kind_at k p) * (length (list_at ls p) / size_in t p (kind_at k p)) ≡ length (list_at ls p) = ap₂ (λ (x n : ℕ). size_in t p x * n) (same p l) (count p l) ∙ sym (counted p l) in
      let b : between (layout_in_rule t p (kind_at k p)).fewest (layout_in_rule t p (kind_at k p)).most (length (list_at ls p) / size_in t p (kind_at k p)) ≡ true = rw (count p l, same p l) (and_true (present s (3 * p + 3)) _ (count_is_right g s c p l)).1 in
      and_yes a (and_yes (eq-eqb _ _ e) b))
