-- What the three calls answer, by the results that the code comes to: a refusal's number is that of the call, and a value is the call's. Assumes nothing.
use mathlib.Core.Path.{◌≡◌, sym, ap, ◌∙◌}
use mathlib.Core.List.{List, ◌∷◌}
use Prim.Native.Nat.{ℕ}
use lib.IntN.{ℤ}
use lib.ListN.{length}
use Rattle.std.specs.Prelude.{Result, Ok, Err, IfOk}
use Rattle.whole.specs.declared.refusal.Refusal.{Refusal}
use Rattle.whole.specs.Answers.{number, no_number_rule}
use Rattle.whole.specs.Refusals.{first_of, number_of, number_in}
use Rattle.whole.proofs.Answers.{given_yes, given_no, answer_yes, answer_no}
use Rattle.whole.proofs.Refusals.{first_is}
use Rattle.earth.specs.Calls.{epoch_of}
use Rattle.sections.proofs.Refused.{some_number}
use Rattle.session.specs.Records.{pass_of_rule}
use Rattle.wave.specs.declared.values.Earth.{Earth}
use Rattle.delay.specs.Calls.{orientation_number, no_earth_rule, earth_answer, earth_answer_in, orientation_outcome, delay_number, delay_in, delay_outcome, samples_number, samples_outcome, samples_room}
use Rattle.delay.specs.Keeping.{room_by_rule}
use Rattle.delay.specs.Promises.{OrientationPromise, DelayPromise, SamplesPromise}
use Rattle.delay.specs.Sessions.{earth_in_rule}

-- numbers in turn: a refusal's stops them, and one that is 0 is passed
pub stops : (r : Refusal) (n : ℕ) (ns : List ℕ) → number_of r ≡ n → first_of (n ∷ ns) ≡ number_of r
stops r n ns e = first_is n ns (λ z. some_number r (e ∙ z)) ∙ sym e

pub passed : (n : ℕ) (ns : List ℕ) → 0 ≡ n → first_of (n ∷ ns) ≡ first_of ns
passed n ns e = ap (λ (m : ℕ). first_of (m ∷ ns)) (sym e)

-- ---- orientation
pub orientation_is : (s : List ℕ) (day ms : ℤ) (t : Result Earth Refusal) → number_in t ≡ orientation_number s day ms → IfOk t (λ e. e ≡ earth_in_rule s (epoch_of day ms)) → OrientationPromise s day ms (earth_answer_in t)
unfolding orientation_outcome
orientation_is s day ms (Ok e) n v = ap earth_answer v ∙ sym (given_yes _ _ no_earth_rule (sym n))
orientation_is s day ms (Err r) n v = ap no_earth_rule n ∙ sym (given_no _ _ no_earth_rule (λ z. some_number r (n ∙ z)))

pub orientation_refused : (s : List ℕ) (day ms : ℤ) (x : Refusal) → orientation_number s day ms ≡ number_of x → OrientationPromise s day ms (no_earth_rule (number_of x))
unfolding orientation_outcome
orientation_refused s day ms x e = ap no_earth_rule (sym e) ∙ sym (given_no _ _ no_earth_rule (λ z. some_number x (sym e ∙ z)))

-- ---- delay
module _ (s : List ℕ) (a b r day ms : ℤ) where
  pub delay_refused : (x : Refusal) → delay_number s a b r day ms ≡ number_of x → DelayPromise s a b r day ms (no_number_rule (number_of x))
  unfolding delay_outcome
  delay_refused x e = ap no_number_rule (sym e) ∙ sym (answer_no _ _ (λ z. some_number x (sym e ∙ z)))

  pub delay_given : (v : ℤ) → delay_number s a b r day ms ≡ 0 → v ≡ delay_in s a b r (epoch_of day ms) → DelayPromise s a b r day ms (number v)
  unfolding delay_outcome
  delay_given v e f = ap number f ∙ sym (answer_yes _ _ e)

-- ---- samples: refused before the room is lent to the pass, or by what is lacking for it, or written
module _ (s : List ℕ) (i : ℕ) (room : List ℤ) where
  pub samples_refused : (x : Refusal) (after : List ℤ) → samples_number s i (length room) ≡ number_of x → after ≡ room → SamplesPromise s i room (no_number_rule (number_of x)) after
  unfolding samples_outcome samples_room
  samples_refused x after e f =
      let g = λ (z : samples_number s i (length room) ≡ 0). some_number x (sym e ∙ z) in
      (ap no_number_rule (sym e) ∙ sym (answer_no _ _ g), f ∙ sym (given_no _ _ (λ (m : ℕ). room) g))

  pub samples_given : (v : ℤ) (after : List ℤ) → samples_number s i (length room) ≡ 0 → v ≡ (pass_of_rule s i).samples → after ≡ room_by_rule s (pass_of_rule s i) room 0 → SamplesPromise s i room (number v) after
  unfolding samples_outcome samples_room
  samples_given v after e f g =
      (ap number f ∙ sym (answer_yes _ _ e), g ∙ ap (room_by_rule s (pass_of_rule s i) room) (sym e))
