-- What is proved of the lines of a text. Assumes nothing.
use mathlib.Core.Path.{◌≡◌, refl, sym, ap, ◌∙◌}
use mathlib.Core.Bool.{Bool, true, false}
use mathlib.Core.List.{List, [], ◌∷◌}
use Prim.Native.Nat.{ℕ, zero, suc, ◌+◌, ◌-◌, ◌≤◌}
use native.Mathlib.Numerals.{add-one}
use native.Mathlib.Omega.{arith}
use borrow.Author.Tests.{eq-eqb, ne_eqb}
use lib.Dec.{eqb}
use lib.ListN.{length, get_or, take, drop, length-drop}
use lib.Seq.{drop-drop}
use Rattle.std.specs.List.{slice_split, onto_first}
use Rattle.text.specs.Lines.{first_line, past_line, line_of}

-- ---- a line has as many bytes as stand before the first line feed

pub none : length (first_line []) ≡ 0
unfolding first_line
none = refl

pub hit : (b : ℕ) (s : List ℕ) → b ≡ 10 → length (first_line (b ∷ s)) ≡ 0
unfolding first_line
hit b s e = rw (eq-eqb b 10 e)

pub miss : (b : ℕ) (s : List ℕ) → ¬ (b ≡ 10) → length (first_line (b ∷ s)) ≡ length (first_line s) + 1
unfolding first_line
miss b s f = rw (ne_eqb b 10 f, add-one)

-- ---- a line is the start of the text, and what is past it the rest

first_is_by : (b : ℕ) (s : List ℕ) → take (length (first_line s)) s ≡ first_line s → (t : Bool) → eqb b 10 ≡ t → take (length (first_line (b ∷ s))) (b ∷ s) ≡ first_line (b ∷ s)
unfolding first_line
first_is_by b s e true h = rw h
first_is_by b s e false h = rw h (ap (λ (l : List ℕ). b ∷ l) e)

pub first_is : (s : List ℕ) → take (length (first_line s)) s ≡ first_line s
unfolding first_line
first_is [] = refl
first_is (b ∷ s) = first_is_by b s (first_is s) (eqb b 10) refl

past_is_by : (b : ℕ) (s : List ℕ) → drop (suc (length (first_line s))) s ≡ past_line s → (t : Bool) → eqb b 10 ≡ t → drop (suc (length (first_line (b ∷ s)))) (b ∷ s) ≡ past_line (b ∷ s)
unfolding first_line past_line
past_is_by b s e true h = rw h
past_is_by b s e false h = rw h e

pub past_is : (s : List ℕ) → drop (suc (length (first_line s))) s ≡ past_line s
unfolding first_line past_line
past_is [] = refl
past_is (b ∷ s) = past_is_by b s (past_is s) (eqb b 10) refl

first-most_by : (b : ℕ) (s : List ℕ) → length (first_line s) ≤ length s → (t : Bool) → eqb b 10 ≡ t → length (first_line (b ∷ s)) ≤ suc (length s)
unfolding first_line
first-most_by b s e true h = rw h (omega arith)
first-most_by b s e false h = rw h (omega arith)

pub first-most : (s : List ℕ) → length (first_line s) ≤ length s
unfolding first_line
first-most [] = omega arith
first-most (b ∷ s) = first-most_by b s (first-most s) (eqb b 10) refl

-- ---- by places: `at` is where a line starts, `end` where it ends

module _ (s : List ℕ) (at end : ℕ) (h : at ≤ length s) (e : end ≡ at + length (first_line (drop at s))) where
  pub end-most : end ≤ length s
  end-most = omega (arith, e, first-most (drop at s), length-drop at s)

  -- behind the line feed stands the rest
  pub next_is : drop (end + 1) s ≡ past_line (drop at s)
  next_is =
      let f : end + 1 ≡ at + suc (length (first_line (drop at s))) = omega (arith, e) in
      rw f (sym (drop-drop (suc (length (first_line (drop at s)))) at s) ∙ past_is (drop at s))

  pub part_is : take (end - at) (drop at s) ≡ first_line (drop at s)
  part_is = let f : end - at ≡ length (first_line (drop at s)) = omega (arith, e) in ap (λ (n : ℕ). take n (drop at s)) f ∙ first_is (drop at s)

-- ---- a text, cut at each line feed

abbrev feed : ℕ → Bool
feed b = eqb b 10

no_line : (k : ℕ) → line_of [] k ≡ []
unfolding line_of first_line past_line
no_line zero = refl
no_line (suc k) = no_line k

onto-first : (b : ℕ) (ls : List (List ℕ)) → get_or (onto_first b ls) 0 [] ≡ b ∷ get_or ls 0 []
onto-first b [] = refl
onto-first b (l ∷ ls) = refl

onto_rest : (b : ℕ) (ls : List (List ℕ)) (k : ℕ) → get_or (onto_first b ls) (suc k) [] ≡ get_or ls (suc k) []
onto_rest b [] k = refl
onto_rest b (l ∷ ls) k = refl

cut_by : (b : ℕ) (s : List ℕ) (k : ℕ) → ((j : ℕ) → get_or (slice_split feed s) j [] ≡ line_of s j) → (t : Bool) → eqb b 10 ≡ t → get_or (slice_split feed (b ∷ s)) k [] ≡ line_of (b ∷ s) k
unfolding line_of first_line past_line
cut_by b s zero f true h = rw h
cut_by b s (suc k) f true h = rw h (f k)
cut_by b s zero f false h = rw h (onto-first b (slice_split feed s) ∙ ap (λ (l : List ℕ). b ∷ l) (f 0))
cut_by b s (suc k) f false h = rw h (onto_rest b (slice_split feed s) k ∙ f (suc k))

pub cut_lines : (s : List ℕ) (k : ℕ) → get_or (slice_split (λ b. eqb b 10) s) k [] ≡ line_of s k
unfolding line_of first_line
cut_lines [] zero = refl
cut_lines [] (suc k) = sym (no_line (suc k))
cut_lines (b ∷ s) k = cut_by b s k (cut_lines s) (eqb b 10) refl
