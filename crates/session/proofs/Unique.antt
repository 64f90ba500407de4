-- At most one station, one source and one day's record has an id or an MJD. Assumes nothing.
use mathlib.Core.Path.{◌≡◌, refl, sym}
use Prim.Native.Nat.{ℕ, suc, ◌+◌, ◌-◌, ◌<◌}
use native.Mathlib.Omega.{arith}
use native.Mathlib.Decide.{dec_lt}
use mathlib.Core.Bool.{true}
use mathlib.Core.List.{List}
use lib.IntN.{ℤ}
use Rattle.whole.specs.Whole.{pos_part, neg_part}
use Rattle.whole.proofs.Linear.{eq⇒}
use Rattle.sections.specs.Layouts.{places, layouts_in}
use Rattle.sections.specs.File.{refusal_of_rule, count_of_rule, field_at_rule}
use Rattle.sections.proofs.Shapes.{all_of}
use Rattle.session.proofs.Fields.{has_an_order}
use Rattle.session.proofs.Laws.{first_rises}

-- numbers that rise
module _ (f : ℕ → ℤ) (n : ℕ) (rise : (i d : ℕ) → i + suc d < n → pos_part (f i) + neg_part (f (i + suc d)) < pos_part (f (i + suc d)) + neg_part (f i)) where
  never : (i j : ℕ) → i < j → j < n → f i ≡ f j → ⊥
  never i j l m e =
      let k : i + suc (j - i - 1) ≡ j = omega arith in
      let a = rw k at (rise i (j - i - 1) (omega arith)) in
      omega (arith, a, eq⇒ (f i) (f j) e)

  once : (i j : ℕ) → i < n → j < n → f i ≡ f j → Dec (i < j) → Dec (j < i) → i ≡ j
  once i j l m e (yes a) b = absurd (never i j a m e)
  once i j l m e (no a) (yes b) = absurd (never j i b l (sym e))
  once i j l m e (no a) (no b) = omega arith

module _ (s : List ℕ) (h : refusal_of_rule s ≡ 0) (i j : ℕ) where
  record_once : (p : ℕ) → p < 4 → all_of has_an_order (layouts_in places p) ≡ true → i < count_of_rule s p → j < count_of_rule s p → field_at_rule places s p i 0 ≡ field_at_rule places s p j 0 → i ≡ j
  record_once p a o l m e = once (λ (k : ℕ). field_at_rule places s p k 0) (count_of_rule s p) (first_rises s h p a o) i j l m e (dec_lt i j) (dec_lt j i)

  pub station_once : i < count_of_rule s 0 → j < count_of_rule s 0 → field_at_rule places s 0 i 0 ≡ field_at_rule places s 0 j 0 → i ≡ j
  unfolding places
  station_once = record_once 0 (omega arith) refl

  pub source_once : i < count_of_rule s 1 → j < count_of_rule s 1 → field_at_rule places s 1 i 0 ≡ field_at_rule places s 1 j 0 → i ≡ j
  unfolding places
  source_once = record_once 1 (omega arith) refl

  pub day_once : i < count_of_rule s 2 → j < count_of_rule s 2 → field_at_rule places s 2 i 0 ≡ field_at_rule places s 2 j 0 → i ≡ j
  unfolding places
  day_once = record_once 2 (omega arith) refl
