-- Runs of words in a file: what stands from a word on. Lists joined are runs one behind the other. Assumes nothing.
use mathlib.Core.Path.{◌≡◌, refl, sym, ap, ◌∙◌}
use Prim.Native.Nat.{ℕ, zero, suc, ◌+◌, ◌-◌, ◌*◌, ◌<◌}
use native.Mathlib.Nat.{zero-add, add_assoc, not-suc-le-zero, le_of_suc-le-suc}
use native.Mathlib.Omega.{arith}
use native.Mathlib.Decide.{dec_lt, ℕ_discrete}
use mathlib.Core.List.{List, ◌++◌}
use lib.Arith.{lt_of_le-ne}
use lib.ListN.{length, get_or, drop, length-append, length-map, get_or-append, get_or-map}
use lib.Seq.{get_or-drop, get_or-append-add, ext_get_or}
use lib.IntN.{ℤ, pos}
use mir.Syntax.{w64}
use mir.Val.{to_z, of_z, Fits}
use mir.Facts.{of_z-to_z, to_z-of_z}
use Rattle.text.specs.Words.{bits_at, word}
use Rattle.text.specs.Bytes.{bytes_of_all, words_of}
use Rattle.text.proofs.Numbers.{numbers_of_rule, Bytes}
use Rattle.text.proofs.All.{numbers_back, bytes_back}
use Rattle.whole.specs.Values.{first_values}
use Rattle.whole.proofs.Values.{values_long, value_at}
use Rattle.whole.specs.Values.{joined}
use Rattle.writer.specs.Round.{Longs}

-- the words x stand in s from word at on
abbrev pub Run : List ℕ → ℕ → List ℕ → Type 0
Run s at x = (j : ℕ) → j < length x → get_or x j 0 ≡ word s (at + j)

bits_fit : (s : List ℕ) (k : ℕ) → Bytes s → Fits w64 (bits_at s k)
unfolding bits_at
bits_fit s k b =
    record { fits = omega (arith, b k, b (k + 1), b (k + 2), b (k + 2 + 1), b (k + 4), b (k + 4 + 1), b (k + 4 + 2), b (k + 4 + 2 + 1)) }

module _ (s : List ℕ) where
  module _ (at : ℕ) (x y : List ℕ) where
    pub run_first : Run s at (x ++ y) → Run s at x
    run_first h j l = sym (get_or-append x y 0 j l) ∙ h j (omega (arith, length-append x y))

    pub run_second : Run s at (x ++ y) → Run s (at + length x) y
    run_second h j l = sym (get_or-append-add x y j 0) ∙ h (length x + j) (omega (arith, length-append x y)) ∙ ap (word s) (sym (add_assoc at (length x) j))

    pub run_both : Run s at x → Run s (at + length x) y → Run s at (x ++ y)
    run_both a b j l = by (dec_lt j (length x))
      where
        by : Dec (j < length x) → get_or (x ++ y) j 0 ≡ word s (at + j)
        by (yes m) = get_or-append x y 0 j m ∙ a j m
        by (no m) =
            let e : length x + (j - length x) ≡ j = omega arith in
            let f : at + length x + (j - length x) ≡ at + j = omega arith in
            ap (λ (i : ℕ). get_or (x ++ y) i 0) (sym e) ∙ get_or-append-add x y (j - length x) 0 ∙ b (j - length x) (omega (arith, length-append x y)) ∙ ap (word s) f

  -- lists joined
  module _ (at : ℕ) (f : ℕ → List ℕ) where
    pub run_joined : (n : ℕ) → ((p : ℕ) → p < n → Run s (at + length (joined p f)) (f p)) → Run s at (joined n f)
    unfolding joined
    run_joined zero h = λ j l. absurd (not-suc-le-zero l)
    run_joined (suc n) h = run_both at (joined n f) (f n) (run_joined n (λ p l. h p (omega arith))) (h n (omega arith))

    part : (n p : ℕ) → Run s at (joined n f ++ f n) → (p < n → Run s at (joined n f) → Run s (at + length (joined p f)) (f p)) → p < suc n → Dec (p ≡ n) → Run s (at + length (joined p f)) (f p)
    part n p h r l (yes e) = rw e (run_second at (joined n f) (f n) h)
    part n p h r l (no e) = r (lt_of_le-ne (le_of_suc-le-suc l) e) (run_first at (joined n f) (f n) h)

    pub run_part : (n p : ℕ) → p < n → Run s at (joined n f) → Run s (at + length (joined p f)) (f p)
    unfolding joined
    run_part zero p l h = absurd (not-suc-le-zero l)
    run_part (suc n) p l h = part n p h (run_part n p) l (ℕ_discrete p n)

  -- numbers, as words
  module _ (at : ℕ) (y : List ℤ) where
    pub run_values : Longs y → Run s at (words_of y) → first_values (length y) (λ (j : ℕ). to_z w64 (word s (at + j))) ≡ y
    run_values f h =
        ext_get_or (pos 0) _ y (values_long (length y) _)
        (λ j l.
        let m : j < length y = omega (arith, l, values_long (length y) (λ (j : ℕ). to_z w64 (word s (at + j)))) in
        value_at (length y) j _ m
        ∙ ap (to_z w64) (sym (h j (omega (arith, length-map y (of_z w64)))) ∙ get_or-map (of_z w64) y j (pos 0))
        ∙ to_z-of_z (f j))

    pub values_run : Bytes s → (n : ℕ) → y ≡ first_values n (λ (j : ℕ). to_z w64 (word s (at + j))) → Run s at (words_of y)
    values_run b n e j l =
        let m : j < n = omega (arith, l, length-map y (of_z w64), ap length e, values_long n (λ (j : ℕ). to_z w64 (word s (at + j)))) in
        get_or-map (of_z w64) y j (pos 0)
        ∙ ap (of_z w64) (ap (λ (x : List ℤ). get_or x j (pos 0)) e ∙ value_at n j _ m)
        ∙ of_z-to_z (bits_fit s (8 * (at + j)) b)

-- ---- the words of a whole file

bits_drop : (n : ℕ) (s : List ℕ) (k : ℕ) → bits_at (drop n s) k ≡ bits_at s (n + k)
unfolding bits_at
bits_drop n s k = simp (get_or-drop, add_assoc)

word_is : (n : ℕ) (s : List ℕ) (j : ℕ) → j < n → get_or (numbers_of_rule n s) j 0 ≡ word s j
unfolding numbers_of_rule
word_is zero s j h = absurd (not-suc-le-zero h)
word_is (suc n) s zero h = refl
word_is (suc n) s (suc j) h =
    let e : 8 + 8 * j ≡ 8 * suc j = omega arith in
    word_is n (drop 8 s) j (le_of_suc-le-suc h) ∙ bits_drop 8 s (8 * j) ∙ ap (bits_at s) e

numbers_long : (n : ℕ) (s : List ℕ) → length (numbers_of_rule n s) ≡ n
unfolding numbers_of_rule
numbers_long zero s = refl
numbers_long (suc n) s = ap suc (numbers_long n (drop 8 s))

-- words that are written stand there, and where words stand in the whole file, the file is theirs
pub run_made : (ws : List ℕ) → Run (bytes_of_all ws) 0 ws
run_made ws j l = ap (λ (x : List ℕ). get_or x j 0) (sym (numbers_back ws)) ∙ word_is (length ws) (bytes_of_all ws) j l ∙ ap (word (bytes_of_all ws)) (sym (zero-add j))

pub run_whole : (s ws : List ℕ) → Bytes s → length s ≡ 8 * length ws → Run s 0 ws → bytes_of_all ws ≡ s
run_whole s ws b e h =
    ap bytes_of_all (ext_get_or 0 ws (numbers_of_rule (length ws) s) (sym (numbers_long (length ws) s)) (λ j l. h j l ∙ ap (word s) (zero-add j) ∙ sym (word_is (length ws) s j l)))
    ∙ bytes_back (length ws) s b e
