-- The numbers of a file that is accepted: it has at most 64 passes, and a pass is refused with 5 or 6 or not at all. Assumes nothing.
use mathlib.Core.Path.{◌≡◌, refl, sym, ap, ◌∙◌}
use mathlib.Core.Bool.{Bool, true, false, cond}
use mathlib.Core.List.{List, [], ◌∷◌}
use Prim.Native.Nat.{ℕ, zero, suc, ◌*◌, ◌≤◌, ◌<◌}
use native.Mathlib.Omega.{arith}
use borrow.Author.Tests.{le-leb, lt-ltb}
use lib.IntN.{ℤ, pos}
use lib.ListN.{replicate, length-replicate}
use lib.Signed.{le_z}
use Rattle.whole.specs.Whole.{∣◌∣}
use Rattle.whole.proofs.Linear.{no_tf}
use Rattle.sections.specs.File.{refusal_of_rule, count_of_rule}
use Rattle.session.specs.declared.Counts.{Counts}
use Rattle.session.specs.Records.{check_of, pass_of_rule}
use Rattle.session.proofs.Answers.{check_accepted, check_number}
use Rattle.session.proofs.Laws.{pass_in}
use Rattle.whole.specs.Refusals.{lowest, unless}
use Rattle.delay.specs.Calls.{samples_of, samples_number, all_there_rule, all_covered_rule}
use Rattle.delay.proofs.Epochs.{samples-count}
use Rattle.fringe.proofs.Passes.{lent-number}
use Rattle.fringe.proofs.Sharing.{few_passes}
use Rattle.lines.specs.Text.{lent_outcome}

-- ---- a number by the tests that are left

by_tests : (t c : Bool) → lowest (0 ∷ 0 ∷ unless t 5 ∷ unless c 6 ∷ 0 ∷ []) ≡ cond t (cond c 0 6) 5
by_tests true true = refl
by_tests true false = refl
by_tests false true = refl
by_tests false false = refl

neither : (n : ℤ) (t c : Bool) → n ≡ pos (cond t (cond c 0 6) 5) → (n ≡ pos 0 → ⊥) → (n ≡ pos 5 → ⊥) → n ≡ pos 6
neither n true true e f g = absurd (f e)
neither n true false e f g = e
neither n false c e f g = absurd (g e)

module _ (s : List ℕ) (h : refusal_of_rule s ≡ 0) where
  module _ (i : ℕ) (l : i < count_of_rule s 3) where
    pub number_by : samples_number s i 4096 ≡ cond (all_there_rule s (pass_of_rule s i).station1 (pass_of_rule s i).station2 (pass_of_rule s i).source) (cond (all_covered_rule s (pass_of_rule s i)) 0 6) 5
    unfolding samples_number
    number_by =
        let p = pass_of_rule s i in
        let m = (samples-count p (pass_in s h i l)).1 in
        rw (h, lt-ltb i (count_of_rule s 3) l, le-leb (samples_of p) 4096 m) (by_tests (all_there_rule s p.station1 p.station2 p.source) (all_covered_rule s p))

    -- the pass has the number of its samples: 2,048 segments are always enough
    pub pass-number : (lent_outcome s i).answer.refusal ≡ pos (samples_number s i 4096)
    pass-number = lent-number s h i l (replicate (4 * 2048) (pos 0)) (omega (arith, length-replicate (4 * 2048) (pos 0)))

    pub neither_six : ((lent_outcome s i).answer.refusal ≡ pos 0 → ⊥) → ((lent_outcome s i).answer.refusal ≡ pos 5 → ⊥) → (lent_outcome s i).answer.refusal ≡ pos 6
    neither_six f g =
        let p = pass_of_rule s i in
        neither (lent_outcome s i).answer.refusal (all_there_rule s p.station1 p.station2 p.source) (all_covered_rule s p) (pass-number ∙ ap pos number_by) f g

-- ---- the same by what `session::check` answers

below_one : (z : ℤ) (r : ℕ) → z ≡ pos r → le_z (pos 1) z ≡ false → z ≡ pos 0
below_one z zero e f = e
below_one z (suc r) e f = no_tf (sym (le-leb 1 (suc r) (omega arith)) ∙ sym (ap (le_z (pos 1)) e) ∙ f)

-- a number below 1 is 0
pub not_refused : (s : List ℕ) → le_z (pos 1) (check_of s).refusal ≡ false → (check_of s).refusal ≡ pos 0
not_refused s f = below_one (check_of s).refusal (refusal_of_rule s) (check_number s) f

module _ (s : List ℕ) (e : (check_of s).refusal ≡ pos 0) where
  pub accepted : refusal_of_rule s ≡ 0
  accepted = let f : pos (refusal_of_rule s) ≡ pos 0 = sym (check_number s) ∙ e in cc

  pub counted : ∣ (check_of s).passes ∣ ≡ count_of_rule s 3
  counted = ap (λ (c : Counts). ∣ c.passes ∣) (check_accepted s accepted) ∙ omega arith

  pub passes_few : ∣ (check_of s).passes ∣ ≤ 64
  passes_few = omega (arith, counted, few_passes s accepted)

  -- a pass that is refused, and not with 5, is refused with 6
  pub six_else : (i : ℕ) → i < ∣ (check_of s).passes ∣ → ((lent_outcome s i).answer.refusal ≡ pos 0 → ⊥) → ((lent_outcome s i).answer.refusal ≡ pos 5 → ⊥)
      → (lent_outcome s i).answer.refusal ≡ pos 6
  six_else i l f g = neither_six s accepted i (omega (arith, l, counted)) f g
