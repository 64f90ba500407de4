-- What the fault of a segment says, and how the judgement goes on from one segment to the next. Assumes nothing.
use mathlib.Core.Path.{◌≡◌, refl}
use mathlib.Core.Bool.{Bool, true, false}
use mathlib.Core.List.{List, [], ◌∷◌}
use Prim.Native.Nat.{ℕ, ◌+◌, ◌≤◌}
use native.Mathlib.Omega.{arith}
use borrow.Author.Tests.{eq-eqb, ne_eqb}
use lib.Dec.{eqb}
use lib.ListN.{length}
use lib.IntN.{ℤ, pos}
use Rattle.whole.specs.Whole.{pos_part}
use Rattle.whole.specs.Answers.{given}
use Rattle.whole.specs.Refusals.{unless, first_of}
use Rattle.whole.proofs.Answers.{given_yes, given_no, given-each}
use Rattle.whole.proofs.Refusals.{unless_zero, first_zero}
use Rattle.predict.specs.declared.segment.Lent.{Lent}
use Rattle.predict.specs.Lent.{place_in_rule, length_ok_rule}
use Rattle.predict.proofs.Numbers.{Placed, placed}
use Rattle.judge.specs.declared.Judgement.{Judgement}
use Rattle.judge.specs.declared.faults.Fault.{Fault}
use Rattle.judge.specs.declared.faults.Fault.TheVariants.{Place, Length, Sample}
use Rattle.judge.specs.Judgement.{fault_number, samples_ok_rule, fault_of_rule, verdict, accepted, judged_from}

-- what a segment has that is not at fault
pub record Sound (s : List ℤ) (t at : ℕ) (x : Lent) : Type 0 where
  pub place : place_in_rule (length s) at x ≡ true
  pub long : length_ok_rule x ≡ true
  pub near : samples_ok_rule s t at x ≡ true

-- a fault's number is not 0
pub number_some : (f : Fault) → fault_number f ≡ 0 → ⊥
number_some Place e = omega arith
number_some Length e = omega arith
number_some Sample e = omega arith

module _ (s : List ℤ) (t at : ℕ) (x : Lent) where
  -- ---- each fault

  pub fault_place : place_in_rule (length s) at x ≡ false → fault_of_rule s t at x ≡ 1
  unfolding fault_of_rule
  fault_place h = rw h

  pub fault_length : place_in_rule (length s) at x ≡ true → length_ok_rule x ≡ false → fault_of_rule s t at x ≡ 2
  unfolding fault_of_rule
  fault_length h k = rw (h, k)

  pub fault_sample : place_in_rule (length s) at x ≡ true → length_ok_rule x ≡ true → samples_ok_rule s t at x ≡ false → fault_of_rule s t at x ≡ 3
  unfolding fault_of_rule
  fault_sample h k l = rw (h, k, l)

  pub fault_none : Sound s t at x → fault_of_rule s t at x ≡ 0
  unfolding fault_of_rule
  fault_none g = rw (g.place, g.long, g.near)

  pub fault_sound : fault_of_rule s t at x ≡ 0 → Sound s t at x
  unfolding fault_of_rule
  fault_sound e =
      let a = first_zero (unless (place_in_rule (length s) at x) 1) (unless (length_ok_rule x) 2 ∷ unless (samples_ok_rule s t at x) 3 ∷ []) e in
      let b = first_zero (unless (length_ok_rule x) 2) (unless (samples_ok_rule s t at x) 3 ∷ []) a.1 in
      let c = first_zero (unless (samples_ok_rule s t at x) 3) [] b.1 in
      record { place = unless_zero (place_in_rule (length s) at x) 0 a.0; long = unless_zero (length_ok_rule x) 1 b.0; near = unless_zero (samples_ok_rule s t at x) 2 c.0 }

  pub fault_most : fault_of_rule s t at x ≤ 3
  unfolding fault_of_rule
  fault_most = go (place_in_rule (length s) at x) (length_ok_rule x) (samples_ok_rule s t at x)
    where
      go : (a b c : Bool) → first_of (unless a 1 ∷ unless b 2 ∷ unless c 3 ∷ []) ≤ 3
      go false b c = omega arith
      go true false c = omega arith
      go true true false = omega arith
      go true true true = omega arith

  pub sound_placed : Sound s t at x → Placed (length s) at x
  sound_placed g = placed (length s) at x g.place g.long

  -- ---- the judgement, by the fault of the segment at hand

  pub judged_fault : (i : ℕ) (xs : List Lent) → (fault_of_rule s t at x ≡ 0 → ⊥) → judged_from s t at i (x ∷ xs) ≡ verdict (fault_of_rule s t at x) i
  unfolding judged_from
  judged_fault i xs h = given_no (fault_of_rule s t at x) (judged_from s t (at + pos_part x.count) (i + 1) xs) (λ fault. verdict fault i) h

  pub judged_next : (i : ℕ) (xs : List Lent) → fault_of_rule s t at x ≡ 0 → judged_from s t at i (x ∷ xs) ≡ judged_from s t (at + pos_part x.count) (i + 1) xs
  unfolding judged_from
  judged_next i xs h = given_yes (fault_of_rule s t at x) (judged_from s t (at + pos_part x.count) (i + 1) xs) (λ fault. verdict fault i) h

-- ---- behind the last segment

module _ (s : List ℤ) (t at i : ℕ) where
  pub judged_early : (at ≡ length s → ⊥) → judged_from s t at i [] ≡ verdict 1 i
  unfolding given judged_from
  judged_early h = rw (ne_eqb at (length s) h)

  pub judged_end : at ≡ length s → judged_from s t at i [] ≡ accepted
  unfolding given judged_from
  judged_end h = rw (eq-eqb at (length s) h)

-- no judgement is a refusal
pub judged_refusal : (s : List ℤ) (t at i : ℕ) (xs : List Lent) → (judged_from s t at i xs).refusal ≡ pos 0
unfolding judged_from
judged_refusal s t at i [] = given-each (λ (j : Judgement). j.refusal ≡ pos 0) (unless (eqb at (length s)) 1) accepted (λ fault. verdict fault i) (λ e. refl) refl
judged_refusal s t at i (x ∷ xs) = given-each (λ (j : Judgement). j.refusal ≡ pos 0) (fault_of_rule s t at x)
    (judged_from s t (at + pos_part x.count) (i + 1) xs) (λ fault. verdict fault i) (λ e. judged_refusal s t (at + pos_part x.count) (i + 1) xs) refl
