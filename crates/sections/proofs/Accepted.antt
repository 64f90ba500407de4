-- What the refusal says: the five conditions by the walk over the words, and the four tests by the number. Assumes nothing.
use mathlib.Core.Path.{◌≡◌, refl, sym, ◌∙◌}
use Prim.Native.Nat.{ℕ, zero, suc, ◌+◌, ◌*◌, ◌/◌, ◌%◌, ◌≤◌, ◌<◌}
use native.Mathlib.Omega.{arith}
use native.Mathlib.Decide.{dec_lt}
use mathlib.Core.Bool.{Bool, true, false}
use mathlib.Core.List.{List, [], ◌∷◌}
use borrow.Author.Tests.{lt-ltb, le-ltb}
use Rattle.whole.specs.Each.{all_below, first_not}
use Rattle.whole.specs.Refusals.{unless, first_of}
use Rattle.whole.proofs.Refusals.{end, test, in_order}
use Rattle.sections.specs.Layouts.{rising, consecutive, Table}
use Rattle.sections.specs.File.{kind_right_rule, offset_right_rule, count_right_rule, length_right_rule, contents_right, section_right_rule, ranges_right, order_right_rule, ids_right, days_right, refusal_by}
use Rattle.sections.specs.Table.{entry_right, word_right, wrong_word_rule}
use Rattle.whole.proofs.Tests.{and_yes}
use Rattle.whole.proofs.Each.{below_each, below_all, all_none, none_all, first-most, some_first, all_past}
use Rattle.sections.proofs.Walk.{entry_words}
use Rattle.sections.proofs.Sound.{five}
use Rattle.sections.proofs.Shapes.{Good}

module _ {t : Table} (g : Good t) where
  -- ---- the five conditions are those of the thirteen words and the length

  entry_all : (s : List ℕ) (p k : ℕ) → kind_right_rule t s p ≡ true → offset_right_rule t s p ≡ true → count_right_rule t s p ≡ true → entry_right t s p k ≡ true
  entry_all s p zero a b c = a
  entry_all s p (suc zero) a b c = b
  entry_all s p (suc (suc k)) a b c = c

  words_all : (s : List ℕ) → contents_right t s ≡ true → (j : ℕ) → j < 13 → word_right t s j ≡ true
  words_all s h zero l = (five g s h).0
  words_all s h (suc j) l =
      let w = five g s h in
      let m : j / 3 < 4 = omega arith in
      entry_all s (j / 3) (j % 3) (below_each 4 (j / 3) (kind_right_rule t s) m w.1) (below_each 4 (j / 3) (offset_right_rule t s) m w.3) (below_each 4 (j / 3) (count_right_rule t s) m w.2)

  module _ (s : List ℕ) (h : all_below 13 (word_right t s) ≡ true) where
    entry_of : (p k : ℕ) → p < 4 → k < 3 → entry_right t s p k ≡ true
    entry_of p k l m = sym (entry_words g s p k m) ∙ below_each 13 (3 * p + 1 + k) (word_right t s) (omega arith) h

    contents_of : length_right_rule t s ≡ true → contents_right t s ≡ true
    unfolding contents_right
    contents_of e =
        and_yes (below_each 13 0 (word_right t s) (omega arith) h)
        (and_yes (below_all 4 (kind_right_rule t s) (λ p l. entry_of p 0 l (omega arith)))
        (and_yes (below_all 4 (count_right_rule t s) (λ p l. entry_of p 2 l (omega arith)))
        (and_yes (below_all 4 (offset_right_rule t s) (λ p l. entry_of p 1 l (omega arith))) e)))

  last_word : (s : List ℕ) (b : Bool) → length_right_rule t s ≡ b → first_not 13 (word_right t s) ≡ 13 → wrong_word_rule t s ≡ 14 → contents_right t s ≡ true
  unfolding wrong_word_rule
  last_word s true e f h = contents_of s (none_all 13 (word_right t s) f) e
  last_word s false e f h = let g : ◌≡◌ {A = ℕ} 13 14 = rw (f, e) at h in absurd (omega arith)

  walked : (s : List ℕ) → Dec (first_not 13 (word_right t s) < 13) → wrong_word_rule t s ≡ 14 → contents_right t s ≡ true
  unfolding wrong_word_rule
  walked s (yes l) h = let g : first_not 13 (word_right t s) ≡ 14 = rw (lt-ltb _ _ l) at h in absurd (omega arith)
  walked s (no l) h = last_word s (length_right_rule t s) refl (omega (arith, first-most 13 (word_right t s))) h

  pub contents_walked : (s : List ℕ) → wrong_word_rule t s ≡ 14 → contents_right t s ≡ true
  contents_walked s h = walked s (dec_lt (first_not 13 (word_right t s)) 13) h

  pub walk_ends : (s : List ℕ) → contents_right t s ≡ true → wrong_word_rule t s ≡ 14
  unfolding wrong_word_rule
  walk_ends s h = rw (all_none 13 (word_right t s) (below_all 13 (word_right t s) (words_all s h)), (five g s h).4)

  wrong_most' : (s : List ℕ) (b : Bool) → Dec (first_not 13 (word_right t s) < 13) → length_right_rule t s ≡ b → wrong_word_rule t s ≤ 14
  unfolding wrong_word_rule
  wrong_most' s b (yes l) e = rw (lt-ltb _ _ l) (omega arith)
  wrong_most' s true (no l) e = let k : 13 ≤ first_not 13 (word_right t s) = omega arith in rw (le-ltb _ _ k, e) (omega arith)
  wrong_most' s false (no l) e = let k : 13 ≤ first_not 13 (word_right t s) = omega arith in rw (le-ltb _ _ k, e) (omega arith)

  pub wrong_most : (s : List ℕ) → wrong_word_rule t s ≤ 14
  wrong_most s = wrong_most' s (length_right_rule t s) (dec_lt (first_not 13 (word_right t s)) 13) refl

  no_contents' : (s : List ℕ) (b : Bool) → contents_right t s ≡ b → wrong_word_rule t s < 14 → b ≡ false
  no_contents' s true e h = absurd (omega (arith, walk_ends s e))
  no_contents' s false e h = refl

  pub no_contents : (s : List ℕ) → wrong_word_rule t s < 14 → contents_right t s ≡ false
  no_contents s h = no_contents' s (contents_right t s) refl h

  -- as the code tells it
  pub contents_past : (s : List ℕ) (r : ℕ) → r ≡ wrong_word_rule t s → 14 ≤ r → contents_right t s ≡ true
  contents_past s r e h = contents_walked s (omega (arith, wrong_most s))

  -- ---- the number, by the tests

  -- the number of a file by its four tests, as the code comes to it: they stand in the order of their numbers
  abbrev pub by_tests_lem : Bool → Bool → Bool → Bool → ℕ
  by_tests_lem a b c d = first_of (unless a 1 ∷ unless b 2 ∷ unless c 3 ∷ unless d 4 ∷ [])

  pub in_turn_lem : (s : List ℕ) → refusal_by t s ≡ by_tests_lem (contents_right t s) (ranges_right t s) (ids_right t s) (days_right t s)
  unfolding refusal_by
  in_turn_lem s =
      in_order
      (test 0 1 (contents_right t s) (omega arith)
      (test 1 2 (ranges_right t s) (omega arith) (test 2 3 (ids_right t s) (omega arith) (test 3 4 (days_right t s) (omega arith) end))))

  module _ (s : List ℕ) where
    pub is_one : contents_right t s ≡ false → refusal_by t s ≡ 1
    is_one a = in_turn_lem s ∙ rw a

    module _ (a : contents_right t s ≡ true) where
      pub is_two : first_not 4 (section_right_rule t s) < 4 → refusal_by t s ≡ 2
      unfolding ranges_right
      is_two h = in_turn_lem s ∙ rw (a, some_first 4 (section_right_rule t s) h)

      module _ (b : 4 ≤ first_not 4 (section_right_rule t s)) where
        pub is_three : first_not 4 (order_right_rule t s rising) < 4 → refusal_by t s ≡ 3
        unfolding ranges_right
        is_three h = in_turn_lem s ∙ rw (a, all_past 4 (section_right_rule t s) b, some_first 4 (order_right_rule t s rising) h)

        module _ (d : 4 ≤ first_not 4 (order_right_rule t s rising)) where
          pub is_four : first_not 4 (order_right_rule t s consecutive) < 4 → refusal_by t s ≡ 4
          unfolding ranges_right
          is_four h = in_turn_lem s ∙ rw (a, all_past 4 (section_right_rule t s) b, all_past 4 (order_right_rule t s rising) d, some_first 4 (order_right_rule t s consecutive) h)

          pub is_none : 4 ≤ first_not 4 (order_right_rule t s consecutive) → refusal_by t s ≡ 0
          unfolding ranges_right
          is_none h = in_turn_lem s ∙ rw (a, all_past 4 (section_right_rule t s) b, all_past 4 (order_right_rule t s rising) d, all_past 4 (order_right_rule t s consecutive) h)

  most : (a b c d : Bool) → by_tests_lem a b c d ≤ 4
  most false b c d = omega arith
  most true false c d = omega arith
  most true true false d = omega arith
  most true true true false = omega arith
  most true true true true = omega arith

  pub refusal-most : (s : List ℕ) → refusal_by t s ≤ 4
  refusal-most s = rw (in_turn_lem s) (most (contents_right t s) (ranges_right t s) (ids_right t s) (days_right t s))

  -- ---- the tests, by the number

  all_passed : (a b c d : Bool) → by_tests_lem a b c d ≡ 0 → (a ≡ true) × (b ≡ true) × (c ≡ true) × (d ≡ true)
  all_passed true true true true h = (refl, refl, refl, refl)
  all_passed true true true false h = absurd (omega arith)
  all_passed true true false d h = absurd (omega arith)
  all_passed true false c d h = absurd (omega arith)
  all_passed false b c d h = absurd (omega arith)

  module _ (s : List ℕ) (h : refusal_by t s ≡ 0) where
    tests : (contents_right t s ≡ true) × (ranges_right t s ≡ true) × (ids_right t s ≡ true) × (days_right t s ≡ true)
    tests = all_passed (contents_right t s) (ranges_right t s) (ids_right t s) (days_right t s) (sym (in_turn_lem s) ∙ h)

    pub accepted_contents : contents_right t s ≡ true
    accepted_contents = tests.0

    pub accepted-ranges : ranges_right t s ≡ true
    accepted-ranges = tests.1

    pub accepted_ids : ids_right t s ≡ true
    accepted_ids = tests.2

    pub accepted-days : days_right t s ≡ true
    accepted-days = tests.3
