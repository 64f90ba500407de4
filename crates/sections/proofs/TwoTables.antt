-- Two tables in one sentence: where they have the same layouts for a file's kinds, they give it the same number; so a kind more changes no file that does not
-- use it. Assumes nothing.
use mathlib.Core.Path.{◌≡◌, refl, ap, ap₂, ◌∙◌}
use Prim.Native.Nat.{ℕ, zero, suc, ◌+◌, ◌-◌, ◌*◌, ◌≤◌, ◌<◌}
use native.Mathlib.Omega.{arith}
use mathlib.Core.Bool.{Bool, true, ◌&&◌, cond}
use mathlib.Core.List.{List, [], ◌∷◌, ◌++◌}
use lib.ListN.{length}
use lib.IntN.{ℤ}
use lib.Dec.{leb, eqb}
use borrow.Author.Tests.{ne_eqb}
use Rattle.whole.specs.Each.{all_below, implies}
use Rattle.whole.proofs.Each.{all_same}
use Rattle.text.specs.Words.{number_at_rule}
use Rattle.fields.specs.Ranges.{inside}
use Rattle.sections.specs.Layouts.{Layout, Table, station, source, orientation, marked, pass, places, with_kind, of_kind, any_of_kind, layouts_in, layout_in_rule, stands_in, rising, consecutive}
use Rattle.sections.specs.File.{kind_of, first_byte, count_of_rule, present, between, layout_of, size_of, start_of, kind_right_rule, offset_right_rule, count_right_rule, length_right_rule, contents_right, record_byte_rule, field_at_rule, range_of, field_right, record_right, section_right_rule, ranges_right, steps, step_right_rule, order_right_rule, refusal_by, refusal_of_rule}

module _ (t u : Table) (s : List ℕ)
    (same : (p : ℕ) → p < 4 → layout_of t s p ≡ layout_of u s p) (stands : (p : ℕ) → p < 4 → stands_in t p (kind_of s p) ≡ stands_in u p (kind_of s p)) where
  size_same : (p : ℕ) → p < 4 → size_of t s p ≡ size_of u s p
  size_same p h = ap (λ (l : Layout). length l.fields) (same p h)

  start_same : (p : ℕ) → p ≤ 4 → start_of t s p ≡ start_of u s p
  unfolding start_of
  start_same zero h = refl
  start_same (suc p) h = ap₂ (λ (a n : ℕ). a + 8 * (n * count_of_rule s p)) (start_same p (omega arith)) (size_same p (omega arith))

  kind-same : (p : ℕ) → p < 4 → kind_right_rule t s p ≡ kind_right_rule u s p
  unfolding kind_right_rule
  kind-same p h = ap (λ (b : Bool). present s (3 * p + 1) && b) (stands p h)

  offset-same : (p : ℕ) → p < 4 → offset_right_rule t s p ≡ offset_right_rule u s p
  unfolding offset_right_rule
  offset-same p h = ap (λ (n : ℕ). present s (3 * p + 2) && eqb (first_byte s p) n) (start_same p (omega arith))

  count_same : (p : ℕ) → p < 4 → count_right_rule t s p ≡ count_right_rule u s p
  unfolding count_right_rule
  count_same p h = ap (λ (l : Layout). present s (3 * p + 3) && between l.fewest l.most (count_of_rule s p)) (same p h)

  length-same : length_right_rule t s ≡ length_right_rule u s
  unfolding length_right_rule
  length-same = ap (λ (n : ℕ). leb (length s) 65536 && eqb (length s) n) (start_same 4 (omega arith))

  contents_same : contents_right t s ≡ contents_right u s
  unfolding contents_right
  contents_same =
      rw (all_same 4 (kind_right_rule t s) (kind_right_rule u s) kind-same, all_same 4 (count_right_rule t s) (count_right_rule u s) count_same, all_same 4 (offset_right_rule t s) (offset_right_rule u s) offset-same, length-same)

  field_same : (p i k : ℕ) → p < 4 → field_at_rule t s p i k ≡ field_at_rule u s p i k
  unfolding record_byte_rule
  field_same p i k h = ap (λ (n : ℕ). number_at_rule s (first_byte s p + 8 * (n * i) + 8 * k)) (size_same p h)

  right_same : (p i k : ℕ) → p < 4 → field_right t s p i k ≡ field_right u s p i k
  unfolding field_right
  right_same p i k h = ap₂ (λ (l : Layout) (z : ℤ). inside (range_of l k) z) (same p h) (field_same p i k h)

  record_same : (p i : ℕ) → p < 4 → record_right t s p i ≡ record_right u s p i
  unfolding record_right
  record_same p i h =
      ap (λ (n : ℕ). all_below n (field_right t s p i)) (size_same p h) ∙ all_same (size_of u s p) (field_right t s p i) (field_right u s p i) (λ k l. right_same p i k h)

  section_same : (p : ℕ) → p < 4 → section_right_rule t s p ≡ section_right_rule u s p
  unfolding section_right_rule
  section_same p h = all_same (count_of_rule s p) (record_right t s p) (record_right u s p) (λ i l. record_same p i h)

  ranges-same : ranges_right t s ≡ ranges_right u s
  unfolding ranges_right
  ranges-same = all_same 4 (section_right_rule t s) (section_right_rule u s) section_same

  step_same : (o p i : ℕ) → p < 4 → step_right_rule t s o p i ≡ step_right_rule u s o p i
  unfolding step_right_rule
  step_same o p i h = ap₂ (steps o) (field_same p i 0 h) (field_same p (i + 1) 0 h)

  order_same : (o p : ℕ) → p < 4 → order_right_rule t s o p ≡ order_right_rule u s o p
  unfolding order_right_rule
  order_same o p h =
      ap₂ (λ (l : Layout) (b : Bool). implies (eqb l.order o) b) (same p h) (all_same (count_of_rule s p - 1) (step_right_rule t s o p) (step_right_rule u s o p) (λ i l. step_same o p i h))

  pub same_number : refusal_by t s ≡ refusal_by u s
  unfolding refusal_by
  same_number =
      rw (contents_same, ranges-same, all_same 4 (order_right_rule t s rising) (order_right_rule u s rising) (order_same rising), all_same 4 (order_right_rule t s consecutive) (order_right_rule u s consecutive) (order_same consecutive))

-- ---- a kind more

of_more : (ls : List Layout) (l : Layout) (k : ℕ) → (k ≡ l.kind → ⊥) → of_kind (ls ++ (l ∷ [])) k ≡ of_kind ls k
of_more [] l k f = rw (ne_eqb k l.kind f)
of_more (m ∷ ls) l k f = ap (λ (x : Layout). cond (eqb k m.kind) m x) (of_more ls l k f)

any_more : (ls : List Layout) (l : Layout) (k : ℕ) → (k ≡ l.kind → ⊥) → any_of_kind (ls ++ (l ∷ [])) k ≡ any_of_kind ls k
any_more [] l k f = rw (ne_eqb k l.kind f)
any_more (m ∷ ls) l k f = ap (λ (x : Bool). cond (eqb k m.kind) true x) (any_more ls l k f)

module _ {A : Type 0} (f : List Layout → A) (l : Layout) (more : (ls : List Layout) → f (ls ++ (l ∷ [])) ≡ f ls) where
  in_more : (t : Table) (p q : ℕ) → f (layouts_in (with_kind t p l) q) ≡ f (layouts_in t q)
  unfolding with_kind
  in_more [] p q = refl
  in_more (ls ∷ rest) zero zero = more ls
  in_more (ls ∷ rest) zero (suc q) = refl
  in_more (ls ∷ rest) (suc p) zero = refl
  in_more (ls ∷ rest) (suc p) (suc q) = in_more rest p q

-- a file none of whose kinds is that one gets the number that it had
pub kind_more : (t : Table) (p : ℕ) (l : Layout) (s : List ℕ) → ((q : ℕ) → q < 4 → kind_of s q ≡ l.kind → ⊥) → refusal_by (with_kind t p l) s ≡ refusal_by t s
unfolding layout_in_rule stands_in
kind_more t p l s other =
    same_number (with_kind t p l) t s
    (λ q h. in_more (λ (ls : List Layout). of_kind ls (kind_of s q)) l (λ ls. of_more ls l (kind_of s q) (other q h)) t p q)
    (λ q h. in_more (λ (ls : List Layout). any_of_kind ls (kind_of s q)) l (λ ls. any_more ls l (kind_of s q) (other q h)) t p q)

-- ---- document 02, L4: the table as it was before kind 5, and that a file without that kind gets the number that it had

abbrev pub places_before : Table
places_before = (station ∷ []) ∷ (source ∷ []) ∷ (orientation ∷ []) ∷ (pass ∷ []) ∷ []

pub as_before : (s : List ℕ) → ((q : ℕ) → q < 4 → kind_of s q ≡ 5 → ⊥) → refusal_of_rule s ≡ refusal_by places_before s
unfolding places with_kind
as_before s other = kind_more places_before 2 marked s other
