-- The numbers of the three calls, as the code comes to them test by test. Assumes nothing.
use mathlib.Core.Path.{◌≡◌, refl, ◌∙◌}
use mathlib.Core.Bool.{Bool, true, false}
use mathlib.Core.List.{List, [], ◌∷◌}
use Prim.Native.Nat.{ℕ, zero, suc, ◌≤◌, ◌<◌}
use native.Mathlib.Omega.{arith}
use borrow.Author.Tests.{lt-ltb, le-ltb, leb-true}
use lib.Dec.{leb, ltb}
use lib.IntN.{ℤ}
use Rattle.whole.specs.Refusals.{unless, lower_of, first_of}
use Rattle.whole.proofs.Refusals.{end, test, up_to, in_order, first_is, joined, lower_most}
use Rattle.fields.specs.declared.Pass.{Pass}
use Rattle.sections.proofs.Shapes.{today}
use Rattle.sections.specs.File.{refusal_of_rule, count_of_rule}
use Rattle.sections.proofs.Accepted.{refusal-most}
use Rattle.session.specs.Records.{pass_of_rule}
use Rattle.delay.specs.Calls.{epoch_ok_rule, orientation_number, asked_ok_rule, all_there_rule, delay_number, all_covered_rule, samples_of, samples_number}
use Rattle.delay.specs.Keeping.{places_of, places_there, lacks_of}
use Rattle.delay.specs.Sessions.{covers}

-- the file's number, and 2 for arguments that are out of their ranges
abbrev pub judged_of : List ℕ → Bool → ℕ
judged_of s ok = lower_of (refusal_of_rule s) (unless ok 2)

two-most : (ok : Bool) → unless ok 2 ≤ 4
two-most true = omega arith
two-most false = omega arith

judged_most : (s : List ℕ) (ok : Bool) → judged_of s ok ≤ 4
judged_most s ok = lower_most (refusal_of_rule s) (unless ok 2) 4 (refusal-most today s) (two-most ok)

pub orientation-first : (s : List ℕ) (day ms : ℤ) → orientation_number s day ms ≡ first_of (judged_of s (epoch_ok_rule day ms) ∷ unless (covers s day) 6 ∷ [])
unfolding orientation_number
orientation-first s day ms =
    joined (refusal_of_rule s) (unless (epoch_ok_rule day ms) 2) (unless (covers s day) 6 ∷ [])
    ∙ in_order (up_to (judged_of s (epoch_ok_rule day ms)) 4 (judged_most s (epoch_ok_rule day ms)) (test 4 6 (covers s day) (omega arith) end))

pub delay_first : (s : List ℕ) (a b r day ms : ℤ)
    → delay_number s a b r day ms ≡ first_of (judged_of s (asked_ok_rule a b r day ms) ∷ unless (all_there_rule s a b r) 5 ∷ unless (covers s day) 6 ∷ [])
unfolding delay_number
delay_first s a b r day ms =
    let ok = asked_ok_rule a b r day ms in
    let t = all_there_rule s a b r in
    let c = covers s day in
    joined (refusal_of_rule s) (unless ok 2) (unless t 5 ∷ unless c 6 ∷ [])
    ∙ in_order (up_to (judged_of s ok) 4 (judged_most s ok) (test 4 5 t (omega arith) (test 5 6 c (omega arith) end)))

-- the tests of pass i: it is there, so is what it names, its days are covered, and there is room for its samples
module _ (s : List ℕ) (i : ℕ) where
  abbrev pub index_ok : Bool
  index_ok = ltb i (count_of_rule s 3)

  abbrev pub names_ok : Bool
  names_ok = all_there_rule s (pass_of_rule s i).station1 (pass_of_rule s i).station2 (pass_of_rule s i).source

  abbrev pub days_ok : Bool
  days_ok = all_covered_rule s (pass_of_rule s i)

  abbrev pub room_ok : ℕ → Bool
  room_ok n = leb (samples_of (pass_of_rule s i)) n

  pub samples-first : (n : ℕ) → samples_number s i n ≡ first_of (refusal_of_rule s ∷ unless index_ok 5 ∷ unless names_ok 5 ∷ unless days_ok 6 ∷ unless (room_ok n) 7 ∷ [])
  unfolding samples_number
  samples-first n =
      in_order
      (up_to (refusal_of_rule s) 4 (refusal-most today s)
      (test 4 5 index_ok (omega arith) (test 5 5 names_ok (omega arith) (test 5 6 days_ok (omega arith) (test 6 7 (room_ok n) (omega arith) end)))))

  -- of a file that is refused the number is the file's own
  pub file_number : (n : ℕ) → (refusal_of_rule s ≡ 0 → ⊥) → samples_number s i n ≡ refusal_of_rule s
  file_number n f = samples-first n ∙ first_is (refusal_of_rule s) (unless index_ok 5 ∷ unless names_ok 5 ∷ unless days_ok 6 ∷ unless (room_ok n) 7 ∷ []) f

  -- of one that is accepted it is 5 beyond the last pass, and else what the file lacks for the pass
  pub beyond_number : (n : ℕ) → refusal_of_rule s ≡ 0 → count_of_rule s 3 ≤ i → samples_number s i n ≡ 5
  beyond_number n h l = samples-first n ∙ rw (h, le-ltb i (count_of_rule s 3) l)

  pub lacks_number : (n : ℕ) → refusal_of_rule s ≡ 0 → i < count_of_rule s 3 → samples_number s i n ≡ lacks_of s (pass_of_rule s i) n
  lacks_number n h l = samples-first n ∙ rw (h, lt-ltb i (count_of_rule s 3) l)

-- nothing is lacking exactly where no test fails
pub each_holds : (a b c : Bool) → first_of (unless a 5 ∷ unless b 6 ∷ unless c 7 ∷ []) ≡ 0 → (a ≡ true) × (b ≡ true) × (c ≡ true)
each_holds true true true e = (refl, refl, refl)
each_holds true true false e = absurd (omega arith)
each_holds true false c e = absurd (omega arith)
each_holds false b c e = absurd (omega arith)

pub none_lacking : (s : List ℕ) (p : Pass) (n : ℕ) → lacks_of s p n ≡ 0
    → (places_there s (places_of s p) ≡ true) × (all_covered_rule s p ≡ true) × (samples_of p ≤ n)
none_lacking s p n e =
    let h = each_holds (places_there s (places_of s p)) (all_covered_rule s p) (leb (samples_of p) n) e in
    (h.0, h.1, leb-true (samples_of p) n h.2)

most_lacking : (a b c : Bool) → first_of (unless a 5 ∷ unless b 6 ∷ unless c 7 ∷ []) ≤ 7
most_lacking true true true = omega arith
most_lacking true true false = omega arith
most_lacking true false c = omega arith
most_lacking false b c = omega arith

pub lacks_most : (s : List ℕ) (p : Pass) (n : ℕ) → lacks_of s p n ≤ 7
lacks_most s p n = most_lacking (places_there s (places_of s p)) (all_covered_rule s p) (leb (samples_of p) n)

-- where 6 is given, the days are what failed
pub six_fails : (f : ℕ) (i t c r : Bool) → f ≤ 4 → first_of (f ∷ unless i 5 ∷ unless t 5 ∷ unless c 6 ∷ unless r 7 ∷ []) ≡ 6 → c ≡ false
six_fails zero true true true true h e = absurd (omega arith)
six_fails zero true true true false h e = absurd (omega arith)
six_fails zero true true false r h e = refl
six_fails zero true false c r h e = absurd (omega arith)
six_fails zero false t c r h e = absurd (omega arith)
six_fails (suc f) i t c r h e = absurd (omega arith)
