-- A day list and the same without its marks, as kind 3 has it. Assumes nothing.
use mathlib.Core.Path.{◌≡◌, sym, ap, ◌∙◌}
use Prim.Native.Nat.{ℕ, ◌+◌, ◌*◌, ◌/◌, ◌%◌, ◌<◌}
use native.Mathlib.Omega.{arith}
use native.Mathlib.Decide.{dec_lt}
use mathlib.Core.Bool.{true}
use mathlib.Core.List.{List}
use lib.ListN.{length, get_or}
use lib.Seq.{ext_get_or}
use lib.IntN.{ℤ, pos}
use Rattle.whole.specs.Ranges.{eq_z}
use Rattle.whole.specs.Values.{first_values}
use Rattle.whole.proofs.Each.{below_each}
use Rattle.whole.proofs.Order.{eq_z_true}
use Rattle.whole.proofs.Values.{values_long, values_same, value_at}
use Rattle.writer.specs.Writing.{mark_at, unmarked, without_marks}
use Rattle.writer.specs.Round.{Longs}
use Rattle.writer.proofs.Rows.{joined_values}
use Rattle.writer.proofs.Fitting.{fits_all}

-- number k of what is left: each sixth is left out
abbrev pub kept_at : List ℤ → ℕ → ℤ
kept_at days k = get_or days (k + k / 5) (pos 0)

module _ (days : List ℤ) where
  pub kept : without_marks days ≡ first_values (5 * (length days / 6)) (kept_at days)
  unfolding without_marks
  kept =
      joined_values 5 (length days / 6) _ (kept_at days)
      (λ i.
      values_same 5 _ _
      (λ j l.
      let e : 6 * i + j ≡ 5 * i + j + (5 * i + j) / 5 = omega arith in
      ap (λ (m : ℕ). get_or days m (pos 0)) e))

  pub kept_long : length (without_marks days) ≡ 5 * (length days / 6)
  kept_long = ap length kept ∙ values_long _ (kept_at days)

  kept_at_lem : (k : ℕ) → k < 5 * (length days / 6) → get_or (without_marks days) k (pos 0) ≡ kept_at days k
  kept_at_lem k l = ap (λ (x : List ℤ). get_or x k (pos 0)) kept ∙ value_at _ k (kept_at days) l

  -- what is left of numbers of 64 bits
  pub kept_fit : Longs days → Longs (without_marks days)
  kept_fit f = fits_all (without_marks days) (λ k l. rw (kept_at_lem k (omega (arith, kept_long))) (f (k + k / 5)))

  pub mark-none : unmarked days ≡ true → (i : ℕ) → i < length days / 6 → mark_at days i ≡ pos 0
  unfolding unmarked
  mark-none h i l = eq_z_true _ _ (below_each (length days / 6) i (λ (j : ℕ). eq_z (mark_at days j) (pos 0)) l h)

-- ---- where every mark is 0, nothing is lost

module _ (a b : List ℤ) (wa : 6 * (length a / 6) ≡ length a) (wb : 6 * (length b / 6) ≡ length b)
    (ua : unmarked a ≡ true) (ub : unmarked b ≡ true) (e : without_marks a ≡ without_marks b) where
  long : length a ≡ length b
  long = omega (arith, kept_long a, kept_long b, ap length e)

  at_each : (k : ℕ) → k < length a → Dec (k % 6 < 5) → get_or a k (pos 0) ≡ get_or b k (pos 0)
  at_each k l (yes m) =
      let n = 5 * (k / 6) + k % 6 in
      let i : n + n / 5 ≡ k = omega arith in
      ap (λ (x : ℕ). get_or a x (pos 0)) (sym i)
      ∙ sym (kept_at_lem a n (omega arith))
      ∙ ap (λ (x : List ℤ). get_or x n (pos 0)) e
      ∙ kept_at_lem b n (omega (arith, long))
      ∙ ap (λ (x : ℕ). get_or b x (pos 0)) i
  at_each k l (no m) =
      let i : 6 * (k / 6) + 5 ≡ k = omega arith in
      ap (λ (x : ℕ). get_or a x (pos 0)) (sym i) ∙ mark-none a ua (k / 6) (omega arith) ∙ sym (mark-none b ub (k / 6) (omega (arith, long))) ∙ ap (λ (x : ℕ). get_or b x (pos 0)) i

  pub same-days : a ≡ b
  same-days = ext_get_or (pos 0) a b long (λ k l. at_each k l (dec_lt (k % 6) 5))
