-- What the call `judge` answers in each case; that 9 is given exactly for an offset or a rate out of its range; that the promise allows one result.
use mathlib.Core.Path.{◌≡◌, refl, sym, ap, subst, ◌∙◌}
use mathlib.Core.Bool.{Bool, true, false}
use mathlib.Core.List.{List, [], ◌∷◌}
use mathlib.Core.Logic.{◌↔◌, ⊎_elim}
use Prim.Native.Nat.{ℕ, zero, suc, ◌+◌, ◌*◌, ◌/◌, ◌<◌}
use native.Mathlib.Nat.{add-zero}
use native.Mathlib.Omega.{arith}
use lib.ListN.{length, drop}
use lib.IntN.{ℤ, pos}
use Rattle.whole.specs.Whole.{pos_part}
use Rattle.whole.specs.Answers.{given}
use Rattle.whole.specs.Refusals.{unless, first_of}
use Rattle.whole.proofs.Answers.{given-each}
use Rattle.whole.proofs.Linear.{no_ft}
use Rattle.whole.proofs.Refusals.{end, test, in_order}
use Rattle.whole.proofs.Tests.{no_and, and_no, and_false, same_test}
use Rattle.whole.proofs.Each.{below_each, below_all}
use Rattle.whole.specs.Each.{all_below}
use Rattle.track.specs.Answer.{in_range}
use Rattle.predict.specs.Lent.{lent_of, lent_at, range_ok_rule}
use Rattle.predict.proofs.Numbers.{lent_of_more, lent_of_none}
use Rattle.judge.specs.declared.Judgement.{Judgement}
use Rattle.judge.specs.Judgement.{judged_from, ranges_ok_rule, judge_number, no_judgement, judge_outcome}
use Rattle.judge.specs.Promises.{JudgePromise}
use Rattle.judge.specs.Accepted.{OutOfRange}
use Rattle.judge.proofs.Judging.{judged_refusal}

-- any two results that the promise allows are equal
pub one_judgement : (s : List ℤ) (t : ℤ) (numbers : List ℤ) (x y : Judgement) → JudgePromise s t numbers x → JudgePromise s t numbers y → x ≡ y
one_judgement s t numbers x y p q = p ∙ sym q

-- the first of the two numbers, by the two tests
two : (a b : Bool) → (pos (first_of (unless a 2 ∷ unless b 9 ∷ [])) ≡ pos 2) ↔ (a ≡ false)
two false b = ((λ e. refl), λ h. refl)
two true false = ((λ e. absurd (let z : ◌≡◌ {A = ℕ} 9 2 = cc in omega arith)), λ h. no_ft (sym h))
two true true = ((λ e. absurd (let z : ◌≡◌ {A = ℕ} 0 2 = cc in omega arith)), λ h. no_ft (sym h))

nine : (a b : Bool) → (pos (first_of (unless a 2 ∷ unless b 9 ∷ [])) ≡ pos 9) ↔ ((a ≡ true) × (b ≡ false))
nine false b = ((λ e. absurd (let z : ◌≡◌ {A = ℕ} 2 9 = cc in omega arith)), λ h. no_ft h.0)
nine true false = ((λ e. (refl, refl)), λ h. refl)
nine true true = ((λ e. absurd (let z : ◌≡◌ {A = ℕ} 0 9 = cc in omega arith)), λ h. no_ft (sym h.1))

-- a segment out of range, found from segment i on, which has k behind it
module _ (numbers : List ℤ) where
  from : (k i : ℕ) → i + k ≡ length numbers / 4 → ranges_ok_rule (lent_of (drop (4 * i) numbers)) ≡ false → OutOfRange numbers
  unfolding ranges_ok_rule
  from zero i e h = no_ft (sym (sym (ap ranges_ok_rule (lent_of_none numbers i (omega (arith, e)))) ∙ h))
  from (suc k) i e h = ⊎_elim
      (λ q. record { segment = i; whole = omega (arith, e); out = q })
      (λ q. from k (i + 1) (omega (arith, e)) q)
      (and_false (range_ok_rule (lent_at numbers i)) (ranges_ok_rule (lent_of (drop (4 * (i + 1)) numbers))) (sym (ap ranges_ok_rule (lent_of_more numbers i (omega (arith, e)))) ∙ h))

  pub some_out : ranges_ok_rule (lent_of numbers) ≡ false → OutOfRange numbers
  some_out h = from (length numbers / 4) 0 (omega arith) h

  past : (i k : ℕ) → i + k < length numbers / 4 → range_ok_rule (lent_at numbers (i + k)) ≡ false → ranges_ok_rule (lent_of (drop (4 * i) numbers)) ≡ false
  unfolding ranges_ok_rule
  past i zero l h = ap ranges_ok_rule (lent_of_more numbers i (omega (arith, l))) ∙ no_and (range_ok_rule (lent_at numbers i)) (ranges_ok_rule (lent_of (drop (4 * (i + 1)) numbers))) (subst (λ (n : ℕ). range_ok_rule (lent_at numbers n) ≡ false) (add-zero i) h)
  past i (suc k) l h = let e : i + suc k ≡ i + 1 + k = omega arith in
      ap ranges_ok_rule (lent_of_more numbers i (omega (arith, l)))
      ∙ and_no (range_ok_rule (lent_at numbers i)) (ranges_ok_rule (lent_of (drop (4 * (i + 1)) numbers))) (past (i + 1) k (omega (arith, l)) (subst (λ (n : ℕ). range_ok_rule (lent_at numbers n) ≡ false) e h))

  pub out_some : OutOfRange numbers → ranges_ok_rule (lent_of numbers) ≡ false
  out_some o = past 0 o.segment (omega (arith, o.whole)) (subst (λ (n : ℕ). range_ok_rule (lent_at numbers n) ≡ false) (omega arith) o.out)

-- as a search over the segments' numbers goes through them
sure : (b : Bool) → (b ≡ false → ⊥) → b ≡ true
sure true h = refl
sure false h = absurd (h refl)

pub ranges_each : (numbers : List ℤ) → all_below (length numbers / 4) (λ i. range_ok_rule (lent_at numbers i)) ≡ ranges_ok_rule (lent_of numbers)
ranges_each numbers = same_test (all_below (length numbers / 4) p) (ranges_ok_rule (lent_of numbers))
    (λ h. sure (ranges_ok_rule (lent_of numbers)) (λ e. let o = some_out numbers e in no_ft (sym o.out ∙ below_each (length numbers / 4) o.segment p o.whole h)))
    (λ h. below_all (length numbers / 4) p (λ i l. sure (p i) (λ e. no_ft (sym (out_some numbers (record { segment = i; whole = l; out = e })) ∙ h))))
  where
    p : ℕ → Bool
    p i = range_ok_rule (lent_at numbers i)

module _ (s : List ℤ) (t : ℤ) (numbers : List ℤ) where
  -- the numbers stand in their order, so the lowest is the first
  number_is : judge_number s t numbers ≡ first_of (unless (in_range s t) 2 ∷ unless (ranges_ok_rule (lent_of numbers)) 9 ∷ [])
  unfolding judge_number
  number_is = in_order (test 0 2 (in_range s t) (omega arith) (test 2 9 (ranges_ok_rule (lent_of numbers)) (omega arith) end))

  pub answer_2 : in_range s t ≡ false → judge_outcome s t numbers ≡ no_judgement 2
  unfolding given judge_outcome
  answer_2 h = rw (number_is, h)

  pub answer_9 : in_range s t ≡ true → ranges_ok_rule (lent_of numbers) ≡ false → judge_outcome s t numbers ≡ no_judgement 9
  unfolding given judge_outcome
  answer_9 h k = rw (number_is, h, k)

  pub answer_0 : in_range s t ≡ true → ranges_ok_rule (lent_of numbers) ≡ true → judge_outcome s t numbers ≡ judged_from s (pos_part t) 0 0 (lent_of numbers)
  unfolding given judge_outcome
  answer_0 h k = rw (number_is, h, k)

  refusal_is : (judge_outcome s t numbers).refusal ≡ pos (first_of (unless (in_range s t) 2 ∷ unless (ranges_ok_rule (lent_of numbers)) 9 ∷ []))
  unfolding judge_outcome
  refusal_is = given-each (λ (j : Judgement). j.refusal ≡ pos (judge_number s t numbers)) (judge_number s t numbers) (judged_from s (pos_part t) 0 0 (lent_of numbers)) no_judgement
      (λ e. judged_refusal s (pos_part t) 0 0 (lent_of numbers) ∙ ap pos (sym e)) refl ∙ ap pos number_is

  -- THE THEOREMS on the numbers: 2 is given exactly where `track` gives it, and 9 exactly where it does not and a whole segment has an offset or a rate out of its range
  pub two_exactly : ((judge_outcome s t numbers).refusal ≡ pos 2) ↔ (in_range s t ≡ false)
  two_exactly = let k = two (in_range s t) (ranges_ok_rule (lent_of numbers)) in ((λ e. k.0 (sym refusal_is ∙ e)), λ h. refusal_is ∙ k.1 h)

  pub nine_exactly : ((judge_outcome s t numbers).refusal ≡ pos 9) ↔ ((in_range s t ≡ true) × OutOfRange numbers)
  nine_exactly = let k = nine (in_range s t) (ranges_ok_rule (lent_of numbers)) in (
    (λ e. let h = k.0 (sym refusal_is ∙ e) in (h.0, some_out numbers h.1)),
    λ h. refusal_is ∙ k.1 (h.0, out_some numbers h.1),
  )
