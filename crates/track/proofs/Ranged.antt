-- What refusal 2 leaves: samples and tolerance in their ranges.
use mathlib.Core.Path.{◌≡◌, refl, sym, ap, subst, ◌∙◌}
use mathlib.Core.Bool.{true, ◌&&◌}
use mathlib.Core.List.{List}
use mathlib.Core.Logic.{⊎_elim}
use Prim.Native.Nat.{ℕ, ◌≤◌}
use native.Mathlib.Omega.{arith}
use borrow.Author.Tests.{leb-true, le-leb, lt-leb}
use lib.Dec.{T, leb}
use lib.ListN.{length, get_or-eq_default}
use lib.IntN.{ℤ, pos, negsuc, nat_abs}
use lib.Signed.{le_z, non_neg}
use mir.Syntax.{w64}
use mir.Val.{Fits}
use Rattle.whole.specs.Whole.{pos_part, neg_part, ∣◌∣}
use Rattle.whole.proofs.Linear.{and_true}
use Rattle.fields.specs.Ranges.{inside, samples, tolerance}
use Rattle.fields.proofs.Inside.{inside_holds}
use Rattle.fit.specs.Line.{sample, Small}
use Rattle.whole.proofs.Each.{below_each}
use Rattle.whole.proofs.Tests.{no_and, and_yes}
use Rattle.fit.proofs.Tests.{lt_or}
use Rattle.whole.specs.Each.{all_below}
use Rattle.track.specs.Answer.{small_at, in_range}

-- within ±130,000,000,000, as the code tests it
pub small_test : (z : ℤ) → (le_z (negsuc 129_999_999_999) z && le_z z (pos 130_000_000_000)) ≡ leb ∣ z ∣ 130_000_000_000
small_test (pos n) = ap (λ (k : ℕ). leb k 130_000_000_000) (plain n)
  where
    plain : (n : ℕ) → n ≡ ∣ pos n ∣
    plain n = omega arith
small_test (negsuc n) = ⊎_elim
    (λ l. no_and (leb n 129_999_999_999) true (lt-leb n 129_999_999_999 l) ∙ sym (lt-leb ∣ negsuc n ∣ 130_000_000_000 (omega arith)))
    (λ l. and_yes (le-leb n 129_999_999_999 l) refl ∙ sym (le-leb ∣ negsuc n ∣ 130_000_000_000 (omega arith)))
    (lt_or 129_999_999_999 n)

pub small_of : (s : List ℤ) → all_below (length s) (small_at s) ≡ true → Small s
small_of s h i = ⊎_elim (λ l. leb-true ∣ sample s i ∣ 130_000_000_000 (below_each (length s) i (small_at s) l h))
    (λ l. subst (λ (z : ℤ). ∣ z ∣ ≤ 130_000_000_000) (sym (get_or-eq_default s (pos 0) l)) (omega arith)) (lt_or i (length s))

-- what a call that is not refused with 2 has
pub record Ranged (s : List ℤ) (t : ℤ) : Type 0 where
  pub some : 1 ≤ length s
  pub few : length s ≤ 4096
  pub small : Small s
  pub from : neg_part t ≡ 0
  pub tol : pos_part t ≤ 1_000_000

pub ranged : (s : List ℤ) (t : ℤ) → in_range s t ≡ true → Ranged s t
unfolding in_range
ranged s t h =
    let p = inside samples (pos (length s)) in
    let a = and_true (p && inside tolerance t) (all_below (length s) (small_at s)) h in
    let b = and_true p (inside tolerance t) a.0 in
    let n = inside_holds samples (pos (length s)) b.0 in
    let k = inside_holds tolerance t b.1 in
    record { some = n.p_lo; few = n.p_hi; small = small_of s a.1; from = omega (arith, k.n_lo); tol = k.p_hi }

-- its tolerance as the code hands it on: z, which is t, cast to a natural
pub record Handed (t z : ℤ) : Type 0 where
  pub cast : T (non_neg z) × Fits w64 (nat_abs z)
  pub same : nat_abs z ≡ pos_part t
  pub most : nat_abs z ≤ 1_000_000

pub handed_on : {s : List ℤ} (t z : ℤ) → z ≡ t → Ranged s t → Handed t z
handed_on t z e g = subst (λ (y : ℤ). Handed t y) (sym e) (natural t g.from g.tol)
  where
    natural : (t : ℤ) → neg_part t ≡ 0 → pos_part t ≤ 1_000_000 → Handed t t
    natural (pos n) h k = record { cast = (tt, record { fits = omega arith }); same = refl; most = k }
    natural (negsuc n) h k = absurd (omega arith)
