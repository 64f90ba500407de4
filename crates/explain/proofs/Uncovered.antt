-- A pass that is refused with 6 has a sample whose epoch the file does not cover. Assumes nothing.
use mathlib.Core.Path.{◌≡◌, refl, sym, ap, ◌∙◌}
use mathlib.Core.Bool.{Bool, true, false, cond}
use mathlib.Core.List.{List}
use Prim.Native.Nat.{ℕ, ◌<◌}
use native.Mathlib.Omega.{arith}
use lib.Arith.{lt_of_le-ne}
use lib.IntN.{pos}
use Rattle.whole.specs.Each.{all_below, first_not}
use Rattle.whole.specs.Whole.{∣◌∣}
use Rattle.whole.proofs.Each.{first-most, none_all}
use Rattle.whole.proofs.Linear.{eq⇒, no_tf}
use Rattle.sections.specs.File.{refusal_of_rule, count_of_rule}
use Rattle.session.specs.Records.{check_of, pass_of_rule}
use Rattle.delay.specs.Calls.{samples_of, all_there_rule, all_covered_rule}
use Rattle.delay.specs.Sessions.{covers, sample_epoch_rule}
use Rattle.lines.specs.Text.{lent_outcome}
use Rattle.lines.proofs.Passes.{accepted, counted, number_by, pass-number}

six : (t c : Bool) → pos (cond t (cond c 0 6) 5) ≡ pos 6 → c ≡ false
six true true e = absurd (omega (arith, eq⇒ _ _ e))
six true false e = refl
six false c e = absurd (omega (arith, eq⇒ _ _ e))

first_below : (n : ℕ) (p : ℕ → Bool) → all_below n p ≡ false → first_not n p < n
first_below n p h = lt_of_le-ne (first-most n p) (λ q. no_tf (sym (none_all n p q) ∙ h))

module _ (s : List ℕ) (h : refusal_of_rule s ≡ 0) (i : ℕ) (m : i < count_of_rule s 3) (f : (lent_outcome s i).answer.refusal ≡ pos 6) where
  not_covered : all_covered_rule s (pass_of_rule s i) ≡ false
  not_covered =
      let p = pass_of_rule s i in
      six (all_there_rule s p.station1 p.station2 p.source) (all_covered_rule s p) (ap pos (sym (number_by s h i m)) ∙ sym (pass-number s h i m) ∙ f)

  pub uncovered_in : first_not (samples_of (pass_of_rule s i)) (λ (j : ℕ). covers s (sample_epoch_rule (pass_of_rule s i) j).day) < samples_of (pass_of_rule s i)
  unfolding all_covered_rule
  uncovered_in = first_below (samples_of (pass_of_rule s i)) _ not_covered

-- the same by what `session::check` answers
pub uncovered : (s : List ℕ) → (check_of s).refusal ≡ pos 0 → (i : ℕ) → i < ∣ (check_of s).passes ∣ → (lent_outcome s i).answer.refusal ≡ pos 6
    → first_not (samples_of (pass_of_rule s i)) (λ (j : ℕ). covers s (sample_epoch_rule (pass_of_rule s i) j).day) < samples_of (pass_of_rule s i)
uncovered s e i l f = uncovered_in s (accepted s e) i (omega (arith, l, counted s e)) f
