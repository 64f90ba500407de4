-- The walk over the contents table. Assumes nothing.
use mathlib.Core.Path.{◌≡◌, refl, sym}
use Prim.Native.Nat.{ℕ, suc, ◌+◌, ◌-◌, ◌*◌, ◌/◌, ◌%◌, ◌≤◌, ◌<◌}
use mathlib.Core.Bool.{Bool, true, false, cond}
use mathlib.Core.List.{List}
use lib.ListN.{length}
use lib.Dec.{leb}
use native.Mathlib.Omega.{arith}
use native.Mathlib.Decide.{dec_lt}
use mathlib.Core.Logic.{◌⊎◌, inl, inr, ⊎_elim}
use borrow.Author.Tests.{leb-true, lt-ltb}
use Rattle.whole.proofs.Products.{below}
use Rattle.whole.specs.Each.{first_not}
use Rattle.sections.specs.File.{present, layout_of, size_of, count_of_rule, kind_of, sections_right_rule, kind_right_rule, offset_right_rule, count_right_rule, length_right_rule}
use Rattle.sections.specs.Table.{entry_right, word_right, wrong_word_rule}
use Rattle.whole.proofs.Linear.{and_true}
use Rattle.whole.proofs.Each.{first_zero, first_next, first_hit, first_stays, first_add, first-before, first-most}
use Rattle.sections.proofs.Shapes.{size_small, most-small, fewest-one, Good}
use Rattle.sections.specs.Layouts.{Table}

module _ {t : Table} (g : Good t) where
  -- ---- a count that is right

  module _ (s : List ℕ) (p : ℕ) (h : count_right_rule t s p ≡ true) where
    parts : (present s (3 * p + 3) ≡ true) × (leb (layout_of t s p).fewest (count_of_rule s p) ≡ true) × (leb (count_of_rule s p) (layout_of t s p).most ≡ true)
    unfolding count_right_rule
    parts =
        let a = and_true (present s (3 * p + 3)) _ h in
        let b = and_true (leb (layout_of t s p).fewest (count_of_rule s p)) _ a.1 in
        (a.0, b.0, b.1)

    pub count-present : 8 * (3 * p + 3) + 8 ≤ length s
    count-present = leb-true _ _ parts.0

    pub count_most : count_of_rule s p ≤ 256
    count_most = omega (arith, leb-true (count_of_rule s p) (layout_of t s p).most parts.2, most-small g p (kind_of s p))

    pub count-one : 1 ≤ count_of_rule s p
    count-one = omega (arith, leb-true (layout_of t s p).fewest (count_of_rule s p) parts.1, fewest-one g p (kind_of s p))

    pub body_small : size_of t s p * count_of_rule s p ≤ 2048
    body_small = below 8 256 (size_small g p (kind_of s p)) count_most

  -- ---- the words in their order

  -- the three words of place p stand behind word 3 p
  pub entry_words : (s : List ℕ) (p k : ℕ) → k < 3 → word_right t s (3 * p + 1 + k) ≡ entry_right t s p k
  entry_words s p k h =
      let e : 3 * p + 1 + k ≡ suc (3 * p + k) = omega arith in
      let f : (3 * p + k) / 3 ≡ p = omega arith in
      let g : (3 * p + k) % 3 ≡ k = omega arith in
      rw e (rw (f, g))

  wrong_word : (s : List ℕ) (i : ℕ) → first_not 13 (word_right t s) ≡ i → i < 13 → wrong_word_rule t s ≡ i
  unfolding wrong_word_rule
  wrong_word s i e h = rw (e, lt-ltb i 13 h)

  pub wrong_sections : (s : List ℕ) → sections_right_rule s ≡ false → wrong_word_rule t s ≡ 0
  wrong_sections s h = wrong_word s 0 (first_hit 13 0 (word_right t s) (omega arith) (first_zero (word_right t s)) h) (omega arith)

  pub sections_passed : (s : List ℕ) → sections_right_rule s ≡ true → first_not (3 * 0 + 1) (word_right t s) ≡ 3 * 0 + 1
  sections_passed s h = first_next 0 (word_right t s) (first_zero (word_right t s)) h

  module _ (s : List ℕ) (p : ℕ) (h : first_not (3 * p + 1) (word_right t s) ≡ 3 * p + 1) where
    entry : first_not (3 * p + 1 + 3) (word_right t s) ≡ 3 * p + 1 + first_not 3 (entry_right t s p)
    entry = first_add (3 * p + 1) 3 (word_right t s) (entry_right t s p) h (entry_words s p)

    pub entry_passed : first_not 3 (entry_right t s p) ≡ 3 → first_not (3 * (p + 1) + 1) (word_right t s) ≡ 3 * (p + 1) + 1
    entry_passed k =
        let e : 3 * p + 1 + 3 ≡ 3 * (p + 1) + 1 = omega arith in
        rw (k, e) at entry

    pub wrong_entry : p < 4 → (k : ℕ) → k ≡ first_not 3 (entry_right t s p) → k < 3 → wrong_word_rule t s ≡ 3 * p + 1 + k
    wrong_entry l k e m =
        let a : first_not (3 * p + 1 + 3) (word_right t s) ≡ 3 * p + 1 + k = rw (sym e) at entry in
        let d : 3 * p + 1 + 3 + (9 - 3 * p) ≡ 13 = omega arith in
        wrong_word s (3 * p + 1 + k) (rw d at (first_stays (3 * p + 1 + 3) (9 - 3 * p) (3 * p + 1 + k) (word_right t s) a (omega arith))) (omega arith)

  module _ (s : List ℕ) (h : first_not 13 (word_right t s) ≡ 13) where
    pub wrong_length : length_right_rule t s ≡ false → wrong_word_rule t s ≡ 13
    unfolding wrong_word_rule
    wrong_length k = rw (h, k)

    pub wrong_none : length_right_rule t s ≡ true → wrong_word_rule t s ≡ 14
    unfolding wrong_word_rule
    wrong_none k = rw (h, k)

  -- ---- the three words of a place

  module _ (s : List ℕ) (p : ℕ) where
    pub entry-kind : kind_right_rule t s p ≡ false → first_not 3 (entry_right t s p) ≡ 0
    entry-kind h = first_hit 3 0 (entry_right t s p) (omega arith) (first_zero (entry_right t s p)) h

    module _ (a : kind_right_rule t s p ≡ true) where
      one : first_not 1 (entry_right t s p) ≡ 1
      one = first_next 0 (entry_right t s p) (first_zero (entry_right t s p)) a

      pub entry-offset : offset_right_rule t s p ≡ false → first_not 3 (entry_right t s p) ≡ 1
      entry-offset h = first_hit 3 1 (entry_right t s p) (omega arith) one h

      module _ (b : offset_right_rule t s p ≡ true) where
        two : first_not 2 (entry_right t s p) ≡ 2
        two = first_next 1 (entry_right t s p) one b

        pub entry-count : count_right_rule t s p ≡ false → first_not 3 (entry_right t s p) ≡ 2
        entry-count h = first_hit 3 2 (entry_right t s p) (omega arith) two h

        pub entry-none : count_right_rule t s p ≡ true → first_not 3 (entry_right t s p) ≡ 3
        entry-none h = first_next 2 (entry_right t s p) two h

  pub entry-counted : (s : List ℕ) (p k : ℕ) → k ≡ first_not 3 (entry_right t s p) → 3 ≤ k → count_right_rule t s p ≡ true
  entry-counted s p k e h = first-before 3 2 (entry_right t s p) (omega arith) (omega arith)

  pub entry-three : (s : List ℕ) (p k : ℕ) → k ≡ first_not 3 (entry_right t s p) → 3 ≤ k → first_not 3 (entry_right t s p) ≡ 3
  entry-three s p k e h = omega (arith, first-most 3 (entry_right t s p))

  -- ---- back from the first wrong word

  by_words : (s : List ℕ) (b : Bool) → Dec (first_not 13 (word_right t s) < 13) → length_right_rule t s ≡ b
      → ((wrong_word_rule t s ≡ first_not 13 (word_right t s)) × (first_not 13 (word_right t s) < 13))
      ⊎ ((first_not 13 (word_right t s) ≡ 13) × (length_right_rule t s ≡ b) × (wrong_word_rule t s ≡ cond b 14 13))
  unfolding wrong_word_rule
  by_words s b (yes l) e = inl (rw (lt-ltb _ _ l), l)
  by_words s b (no l) e =
      let k : first_not 13 (word_right t s) ≡ 13 = omega (arith, first-most 13 (word_right t s)) in
      inr (k, e, rw (k, e))

  pub wrong_is : (s : List ℕ) → wrong_word_rule t s < 13 → wrong_word_rule t s ≡ first_not 13 (word_right t s)
  wrong_is s h = ⊎_elim (λ w. w.0) (λ w. absurd (not_thirteen (length_right_rule t s) (wrong_word_rule t s) w.2 h)) (by_words s (length_right_rule t s) (dec_lt (first_not 13 (word_right t s)) 13) refl)
    where
      not_thirteen : (b : Bool) (n : ℕ) → n ≡ cond b 14 13 → n < 13 → ⊥
      not_thirteen true n e l = omega arith
      not_thirteen false n e l = omega arith

  pub wrong_length_is : (s : List ℕ) → wrong_word_rule t s ≡ 13 → (first_not 13 (word_right t s) ≡ 13) × (length_right_rule t s ≡ false)
  wrong_length_is s h =
      ⊎_elim (λ w. absurd (omega (arith, w.0, w.1, h))) (λ w. (w.0, short (length_right_rule t s) (wrong_word_rule t s) h w.2)) (by_words s (length_right_rule t s) (dec_lt (first_not 13 (word_right t s)) 13) refl)
    where
      short : (b : Bool) (n : ℕ) → n ≡ 13 → n ≡ cond b 14 13 → b ≡ false
      short true n h e = absurd (omega arith)
      short false n h e = refl
