-- The fault is where it says: it gives `check`'s number, the place that it names is wrong, and all before it is right. Assumes nothing.
use mathlib.Core.Path.{◌≡◌, refl, sym, ap, ap₂, ◌∙◌}
use Prim.Native.Nat.{ℕ, zero, suc, ◌-◌, ◌≤◌, ◌<◌}
use native.Mathlib.Omega.{arith}
use mathlib.Core.Bool.{Bool, true, false}
use mathlib.Core.List.{List, [], ◌∷◌}
use lib.ListN.{get_or}
use lib.IntN.{pos}
use Rattle.whole.specs.Each.{first_not, all_below, implies}
use Rattle.whole.specs.Refusals.{unless, first_of}
use lib.Dec.{eqb}
use Rattle.sections.specs.Layouts.{places, rising, consecutive}
use Rattle.sections.specs.File.{section_right_rule, record_right, field_right, order_right_rule, step_right_rule, count_of_rule, size_of, refusal_of_rule, contents_right, ranges_right, ids_right, days_right, layout_of, length_right_rule}
use Rattle.session.specs.declared.Place.{Place}
use Rattle.session.specs.Records.{check_of}
use Rattle.sections.specs.Table.{word_right, wrong_word_rule}
use Rattle.sections.proofs.Shapes.{today}
use Rattle.sections.proofs.Accepted.{in_turn_lem, refusal-most}
use Rattle.sections.proofs.Walk.{wrong_is, wrong_length_is}
use Rattle.session.specs.Fault.{place_of, range_fault_rule, order_fault_rule, fault_by, fault_of_rule, range_record, range_field}
use Rattle.whole.proofs.Linear.{no_ft}
use Rattle.whole.proofs.Each.{first_fails, first-before, not_all}
use Rattle.session.proofs.Answers.{check_number}

-- ---- by the number

module _ (s : List ℕ) where
  pub fault_none : refusal_of_rule s ≡ 0 → fault_of_rule s ≡ place_of 0 0 0 0
  unfolding fault_of_rule fault_by
  fault_none h = rw h

  pub fault_word : refusal_of_rule s ≡ 1 → fault_of_rule s ≡ place_of 1 0 0 (wrong_word_rule places s)
  unfolding fault_of_rule fault_by
  fault_word h = rw h

  pub fault_range : refusal_of_rule s ≡ 2 → fault_of_rule s ≡ range_fault_rule s (first_not 4 (section_right_rule places s))
  unfolding fault_of_rule fault_by
  fault_range h = rw h

  pub fault_ids : refusal_of_rule s ≡ 3 → fault_of_rule s ≡ order_fault_rule s (first_not 4 (order_right_rule places s rising)) rising 3
  unfolding fault_of_rule fault_by
  fault_ids h = rw h

  pub fault_days : refusal_of_rule s ≡ 4 → fault_of_rule s ≡ order_fault_rule s (first_not 4 (order_right_rule places s consecutive)) consecutive 4
  unfolding fault_of_rule fault_by
  fault_days h = rw h

  -- as the code finds them: place q, and the number n that is the file's own
  pub ids_named : {r : Place} {q n : ℕ} → r ≡ order_fault_rule s q rising n → q ≡ first_not 4 (order_right_rule places s rising) → refusal_of_rule s ≡ 3 → n ≡ refusal_of_rule s → r ≡ fault_of_rule s
  ids_named a b h e = a ∙ ap₂ (λ (x y : ℕ). order_fault_rule s x rising y) b (e ∙ h) ∙ sym (fault_ids h)

  pub days_named : {r : Place} {q n : ℕ} → r ≡ order_fault_rule s q consecutive n → q ≡ first_not 4 (order_right_rule places s consecutive) → refusal_of_rule s ≡ 4 → n ≡ refusal_of_rule s → r ≡ fault_of_rule s
  days_named a b h e = a ∙ ap₂ (λ (x y : ℕ). order_fault_rule s x consecutive y) b (e ∙ h) ∙ sym (fault_days h)

-- a place with a field out of its range has a record with one
pub section_wrong : (s : List ℕ) → first_not 4 (section_right_rule places s) < 4 → first_not (count_of_rule s (first_not 4 (section_right_rule places s))) (record_right places s (first_not 4 (section_right_rule places s))) < count_of_rule s (first_not 4 (section_right_rule places s))
unfolding section_right_rule
section_wrong s h = not_all _ _ (first_fails 4 (section_right_rule places s) h)

-- ---- it gives `check`'s number

by_number : (s : List ℕ) (n : ℕ) → n ≤ 4 → (fault_by s n).number ≡ pos n
unfolding fault_by range_fault_rule order_fault_rule
by_number s zero h = refl
by_number s (suc zero) h = refl
by_number s (suc (suc zero)) h = refl
by_number s (suc (suc (suc zero))) h = refl
by_number s (suc (suc (suc (suc zero)))) h = refl
by_number s (suc (suc (suc (suc (suc n))))) h = absurd (omega arith)

pub fault_number : (s : List ℕ) → (fault_of_rule s).number ≡ (check_of s).refusal
unfolding fault_of_rule
fault_number s = by_number s (refusal_of_rule s) (refusal-most today s) ∙ sym (check_number s)

-- ---- a number is given where its test failed

behind : (a b c d : Bool) (n : ℕ) → first_of (unless a 1 ∷ unless b 2 ∷ unless c 3 ∷ unless d 4 ∷ []) ≡ suc n → get_or (a ∷ b ∷ c ∷ d ∷ []) n false ≡ false
behind false b c d n h = let e : n ≡ 0 = omega arith in rw e refl
behind true false c d n h = let e : n ≡ 1 = omega arith in rw e refl
behind true true false d n h = let e : n ≡ 2 = omega arith in rw e refl
behind true true true false n h = let e : n ≡ 3 = omega arith in rw e refl
behind true true true true n h = absurd (omega arith)

failed : (s : List ℕ) (n : ℕ) → refusal_of_rule s ≡ suc n → get_or (contents_right places s ∷ ranges_right places s ∷ ids_right places s ∷ days_right places s ∷ []) n false ≡ false
failed s n h = behind (contents_right places s) (ranges_right places s) (ids_right places s) (days_right places s) n (sym (in_turn_lem today s) ∙ h)

-- ---- 2: the named field is out of its range, and all before it are in theirs

pub record OutOfRange (s : List ℕ) (p i k : ℕ) : Type 0 where
  pub place : p < 4
  pub row : i < count_of_rule s p
  pub column : k < size_of places s p
  pub wrong : field_right places s p i k ≡ false
  pub places-before : (q : ℕ) → q < p → section_right_rule places s q ≡ true
  pub rows_before : (j : ℕ) → j < i → record_right places s p j ≡ true
  pub columns-before : (m : ℕ) → m < k → field_right places s p i m ≡ true

pub fault_out : (s : List ℕ) → refusal_of_rule s ≡ 2
    → (fault_of_rule s ≡ range_fault_rule s (first_not 4 (section_right_rule places s)))
    × OutOfRange s (first_not 4 (section_right_rule places s)) (range_record s (first_not 4 (section_right_rule places s))) (range_field s (first_not 4 (section_right_rule places s)))
unfolding ranges_right section_right_rule record_right
fault_out s h =
    let p = first_not 4 (section_right_rule places s) in
    let a : p < 4 = not_all 4 (section_right_rule places s) (failed s 1 h) in
    let b : range_record s p < count_of_rule s p = not_all (count_of_rule s p) (record_right places s p) (first_fails 4 (section_right_rule places s) a) in
    let d : range_field s p < size_of places s p = not_all (size_of places s p) (field_right places s p (range_record s p)) (first_fails (count_of_rule s p) (record_right places s p) b) in (
      fault_range s h,
      record {
        place = a;
        row = b;
        column = d;
        wrong = first_fails (size_of places s p) (field_right places s p (range_record s p)) d;
        places-before = λ q l. first-before 4 q (section_right_rule places s) l (omega arith);
        rows_before = λ j l. first-before (count_of_rule s p) j (record_right places s p) l (omega arith);
        columns-before = λ m l. first-before (size_of places s p) m (field_right places s p (range_record s p)) l (omega arith);
      },
    )

-- ---- 3 and 4: the named record does not keep the order with the one before it, and all pairs before do

pub record OutOfOrder (s : List ℕ) (o p i : ℕ) : Type 0 where
  pub place : p < 4
  pub pair : i < count_of_rule s p - 1
  pub wrong : step_right_rule places s o p i ≡ false
  pub places-before : (q : ℕ) → q < p → order_right_rule places s o q ≡ true
  pub pairs_before : (j : ℕ) → j < i → step_right_rule places s o p j ≡ true

implied : (a b : Bool) → implies a b ≡ false → b ≡ false
implied true b h = h
implied false b h = no_ft (sym h)

out_of_order : (s : List ℕ) (o : ℕ) → all_below 4 (order_right_rule places s o) ≡ false
    → OutOfOrder s o (first_not 4 (order_right_rule places s o)) (first_not (count_of_rule s (first_not 4 (order_right_rule places s o)) - 1) (step_right_rule places s o (first_not 4 (order_right_rule places s o))))
unfolding order_right_rule
out_of_order s o h =
    let p = first_not 4 (order_right_rule places s o) in
    let a : p < 4 = not_all 4 (order_right_rule places s o) h in
    let b = not_all (count_of_rule s p - 1) (step_right_rule places s o p) (implied (eqb (layout_of places s p).order o) _ (first_fails 4 (order_right_rule places s o) a)) in
    record {
      place = a;
      pair = b;
      wrong = first_fails (count_of_rule s p - 1) (step_right_rule places s o p) b;
      places-before = λ q l. first-before 4 q (order_right_rule places s o) l (omega arith);
      pairs_before = λ j l. first-before (count_of_rule s p - 1) j (step_right_rule places s o p) l (omega arith);
    }

pub ids_out : (s : List ℕ) → refusal_of_rule s ≡ 3
    → OutOfOrder s rising (first_not 4 (order_right_rule places s rising)) (first_not (count_of_rule s (first_not 4 (order_right_rule places s rising)) - 1) (step_right_rule places s rising (first_not 4 (order_right_rule places s rising))))
ids_out s h = out_of_order s rising (failed s 2 h)

pub days-out : (s : List ℕ) → refusal_of_rule s ≡ 4
    → OutOfOrder s consecutive (first_not 4 (order_right_rule places s consecutive)) (first_not (count_of_rule s (first_not 4 (order_right_rule places s consecutive)) - 1) (step_right_rule places s consecutive (first_not 4 (order_right_rule places s consecutive))))
days-out s h = out_of_order s consecutive (failed s 3 h)

-- ---- 1: the named word is wrong and all before it are right; at 13 all words are right and the length is wrong

pub word_out : (s : List ℕ) → wrong_word_rule places s < 13 → (word_right places s (wrong_word_rule places s) ≡ false) × ((j : ℕ) → j < wrong_word_rule places s → word_right places s j ≡ true)
word_out s h =
    let e = wrong_is today s h in
    (ap (word_right places s) e ∙ first_fails 13 (word_right places s) (omega (arith, e)), λ j l. first-before 13 j (word_right places s) (omega (arith, e)) (omega (arith, e)))

pub length-out : (s : List ℕ) → wrong_word_rule places s ≡ 13 → (length_right_rule places s ≡ false) × ((j : ℕ) → j < 13 → word_right places s j ≡ true)
length-out s h = let e = wrong_length_is today s h in (e.1, λ j l. first-before 13 j (word_right places s) (omega (arith, e.0)) l)
