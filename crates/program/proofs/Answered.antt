-- Whether all of a file is answered, by its refusal. Assumes nothing.
use mathlib.Core.Path.{◌≡◌, refl, sym, ap, ◌∙◌}
use mathlib.Core.Bool.{Bool, true, false}
use mathlib.Core.List.{List}
use Prim.Native.Nat.{ℕ}
use native.Mathlib.Omega.{arith}
use lib.IntN.{ℤ, pos}
use Rattle.whole.specs.Each.{all_below}
use Rattle.whole.proofs.Linear.{eq⇒}
use Rattle.whole.specs.Ranges.{eq_z}
use Rattle.whole.proofs.Order.{eq_z_true, eq_z_refl}
use Rattle.sections.specs.File.{refusal_of_rule, count_of_rule}
use Rattle.session.specs.Records.{check_of}
use Rattle.session.proofs.Answers.{check_number}
use Rattle.lines.proofs.Passes.{counted}
use Rattle.program.specs.Endings.{pass_answered, all_answered_rule}

not_zero : (z : ℤ) (n : ℕ) (b : Bool) → z ≡ pos n → (n ≡ 0 → ⊥) → eq_z z (pos 0) ≡ b → b ≡ false
not_zero z n true e h f = absurd (h (omega (arith, eq⇒ (pos n) (pos 0) (sym e ∙ eq_z_true z (pos 0) f))))
not_zero z n false e h f = refl

-- a refused file is not
pub refused_all : (s : List ℕ) → (refusal_of_rule s ≡ 0 → ⊥) → false ≡ all_answered_rule s
unfolding all_answered_rule
refused_all s h = rw (not_zero (check_of s).refusal (refusal_of_rule s) _ (check_number s) h refl)

pub accepted_number : (s : List ℕ) → refusal_of_rule s ≡ 0 → (check_of s).refusal ≡ pos 0
accepted_number s h = check_number s ∙ ap pos h

-- an accepted one is, if its passes are
pub accepted_all : (s : List ℕ) (b : Bool) → refusal_of_rule s ≡ 0 → b ≡ all_below (count_of_rule s 3) (pass_answered s) → b ≡ all_answered_rule s
unfolding all_answered_rule
accepted_all s b h e =
    rw (eq_z_refl (check_of s).refusal (pos 0) (accepted_number s h)) (e ∙ ap (λ (n : ℕ). all_below n (pass_answered s)) (sym (counted s (accepted_number s h))))
