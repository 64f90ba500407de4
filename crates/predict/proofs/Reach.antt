-- A segment's predictions are in range exactly if those at its two ends are.
use mathlib.Core.Path.{◌≡◌, refl, sym, ap, subst, ◌∙◌}
use mathlib.Core.Bool.{Bool, true, false, ◌&&◌}
use mathlib.Core.Logic.{⊎_elim}
use Prim.Native.Nat.{ℕ, zero, suc, ◌+◌, ◌*◌, ◌≤◌, ◌<◌}
use native.Mathlib.Nat.{mul-le-mul_left}
use native.Mathlib.Omega.{arith}
use borrow.Author.Tests.{le-leb, lt-leb, leb-true}
use lib.Dec.{leb}
use lib.IntN.{ℤ, pos, negsuc, ◌+ℤ◌, ◌-ℤ◌, ◌*ℤ◌, *ℤ-zero, +ℤ_idr}
use lib.Signed.{le_z}
use Rattle.whole.specs.Whole.{pos_part, neg_part, ∣◌∣, R, near}
use Rattle.whole.proofs.Linear.{pos_part-neg, neg_part-neg, no_ft, size_to, size_from_lem}
use Rattle.whole.proofs.Quote.{⟨◌⟩, #, ◌⊕◌, ◌⊝◌, ◌⊗◌, bal, by≡}
use Rattle.fit.proofs.Tests.{lt_or}
use Rattle.whole.specs.Each.{all_below}
use Rattle.whole.proofs.Each.{below_all, below_fails}
use Rattle.predict.specs.declared.segment.Lent.{Lent}
use Rattle.predict.specs.Lent.{predicted, length_ok_rule, predictions_ok}
use Rattle.predict.specs.Ends.{reach, ends_ok_rule}

-- what is between two ends of a line
pub between_ends : (A r : ℤ) (k m j : ℕ) → ∣ A ∣ ≤ k → ∣ A +ℤ r *ℤ pos m ∣ ≤ k → j ≤ m → ∣ A +ℤ r *ℤ pos j ∣ ≤ k
between_ends A (pos p) k m j h l i =
    let a = size_from_lem A (pos_part A) (neg_part A) k (omega arith) h in
    let b = size_from_lem (A +ℤ pos p *ℤ pos m) (pos_part A + p * m) (neg_part A) k (omega (arith, bal (⟨ A ⟩ ⊕ # p ⊗ # m))) l in
    size_to (A +ℤ pos p *ℤ pos j) (pos_part A + p * j) (neg_part A) k (omega (arith, bal (⟨ A ⟩ ⊕ # p ⊗ # j))) (omega (arith, mul-le-mul_left {m = j} {n = m} p i)) (omega arith)
between_ends A (negsuc p) k m j h l i =
    let a = size_from_lem A (pos_part A) (neg_part A) k (omega arith) h in
    let b = size_from_lem (A +ℤ negsuc p *ℤ pos m) (pos_part A) (neg_part A + suc p * m) k (omega (arith, bal (⟨ A ⟩ ⊕ ⟨ negsuc p ⟩ ⊗ # m))) l in
    size_to (A +ℤ negsuc p *ℤ pos j) (pos_part A) (neg_part A + suc p * j) k (omega (arith, bal (⟨ A ⟩ ⊕ ⟨ negsuc p ⟩ ⊗ # j))) (omega arith) (omega (arith, mul-le-mul_left {m = j} {n = m} (suc p) i))

-- what rounds to at most 131,000,000,000 in size
round_size : (z : ℤ) → ∣ R z 65536 ∣ ≡ near ∣ z ∣ 65536
round_size (pos a) = omega arith
round_size (negsuc a) = omega (arith, pos_part-neg (pos (near (suc a) 65536)), neg_part-neg (pos (near (suc a) 65536)))

pub round_reach : (z : ℤ) → leb ∣ R z 65536 ∣ 131_000_000_000 ≡ leb ∣ z ∣ reach
round_reach z = ⊎_elim
    (λ l. lt-leb ∣ R z 65536 ∣ 131_000_000_000 (omega (arith, round_size z)) ∙ sym (lt-leb ∣ z ∣ reach l))
    (λ l. le-leb ∣ R z 65536 ∣ 131_000_000_000 (omega (arith, round_size z)) ∙ sym (le-leb ∣ z ∣ reach l))
    (lt_or reach ∣ z ∣)

-- a line starts at its offset
pub line_start : (A r : ℤ) → A +ℤ r *ℤ pos 0 ≡ A
line_start A r = ap (λ (z : ℤ). A +ℤ z) (*ℤ-zero r) ∙ +ℤ_idr A

module _ (A r : ℤ) (m : ℕ) where
  last_is : pos (suc m) -ℤ pos 1 ≡ pos m
  last_is = by≡ (# (suc m) ⊝ # 1) (# m) (omega arith)

  abbrev test : ℕ → Bool
  test j = leb ∣ R (A +ℤ r *ℤ pos j) 65536 ∣ 131_000_000_000

  at_first : test 0 ≡ leb ∣ A ∣ reach
  at_first = round_reach (A +ℤ r *ℤ pos 0) ∙ ap (λ (z : ℤ). leb ∣ z ∣ reach) (line_start A r)

  at_last : test m ≡ leb ∣ A +ℤ r *ℤ (pos (suc m) -ℤ pos 1) ∣ reach
  at_last = round_reach (A +ℤ r *ℤ pos m) ∙ ap (λ (z : ℤ). leb ∣ A +ℤ r *ℤ z ∣ reach) (sym last_is)

  ends : (a b : Bool) → a ≡ leb ∣ A ∣ reach → b ≡ leb ∣ A +ℤ r *ℤ (pos (suc m) -ℤ pos 1) ∣ reach → all_below (suc m) test ≡ (a && b)
  ends true true p q = below_all (suc m) test all
    where
      last : ∣ A +ℤ r *ℤ pos m ∣ ≤ reach
      last = subst (λ (z : ℤ). ∣ A +ℤ r *ℤ z ∣ ≤ reach) last_is (leb-true ∣ A +ℤ r *ℤ (pos (suc m) -ℤ pos 1) ∣ reach (sym q))

      all : (j : ℕ) → j < suc m → test j ≡ true
      all j h = round_reach (A +ℤ r *ℤ pos j)
          ∙ le-leb ∣ A +ℤ r *ℤ pos j ∣ reach (between_ends A r reach m j (leb-true ∣ A ∣ reach (sym p)) last (omega arith))
  ends true false p q = below_fails (suc m) m test (omega arith) (at_last ∙ sym q)
  ends false b p q = below_fails (suc m) 0 test (omega arith) (at_first ∙ sym p)

-- THE LAW: judged at both ends, all of a segment's predictions are judged
pub ends_enough : (x : Lent) → length_ok_rule x ≡ true → predictions_ok x ≡ ends_ok_rule x.offset x.rate x.count
unfolding predictions_ok
ends_enough x h = by_count x.count h
  where
    by_count : (c : ℤ) → (le_z (pos 1) c && le_z c (pos 1024)) ≡ true → all_below (pos_part c) (λ j. leb ∣ predicted x (pos j) ∣ 131_000_000_000) ≡ ends_ok_rule x.offset x.rate c
    by_count (pos zero) k = no_ft k
    by_count (pos (suc m)) k = ends x.offset x.rate m (leb ∣ x.offset ∣ reach) (leb ∣ x.offset +ℤ x.rate *ℤ (pos (suc m) -ℤ pos 1) ∣ reach) refl refl
    by_count (negsuc n) k = no_ft k
