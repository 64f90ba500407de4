-- The text of a file, by what `session::check` answers for it. Assumes nothing.
use mathlib.Core.Path.{◌≡◌, refl, sym, ap, ◌∙◌}
use mathlib.Core.Bool.{true, false, cond}
use mathlib.Core.List.{List}
use Prim.Native.Nat.{ℕ, zero, suc}
use native.Mathlib.Nat.{add-zero}
use native.Mathlib.Omega.{arith}
use borrow.Author.Tests.{le-leb, eq-eqb, ne_eqb}
use lib.Dec.{eqb, leb, eqb-suc-zero}
use lib.IntN.{pos}
use lib.Signed.{le_z}
use Rattle.whole.specs.Whole.{∣◌∣}
use Rattle.whole.specs.Answers.{given}
use Rattle.whole.proofs.Linear.{no_ft, no_tf}
use Rattle.sections.specs.File.{refusal_of_rule, count_of_rule}
use Rattle.session.specs.Records.{check_of, counts_in, no_counts}
use Rattle.text.specs.Table.{refused_line}
use Rattle.lines.specs.Text.{pass_texts, session_text}

some_above : (r : ℕ) → leb 1 (suc r) ≡ true
some_above r = le-leb 1 (suc r) (omega arith)

refused_by : (s : List ℕ) (r : ℕ) → let c = cond (eqb r 0) (counts_in s) (no_counts r) in le_z (pos 1) c.refusal ≡ true
    → given r (pass_texts s (count_of_rule s 3)) (λ n. refused_line (pos n)) ≡ refused_line c.refusal
unfolding given
refused_by s zero e = no_ft e
refused_by s (suc r) e = rw (eqb-suc-zero r)

passes_by : (s : List ℕ) (r : ℕ) → let c = cond (eqb r 0) (counts_in s) (no_counts r) in le_z (pos 1) c.refusal ≡ false
    → given r (pass_texts s (count_of_rule s 3)) (λ n. refused_line (pos n)) ≡ pass_texts s ∣ c.passes ∣
unfolding given
passes_by s zero e = ap (pass_texts s) (sym (add-zero (count_of_rule s 3)))
passes_by s (suc r) e =
    let f : leb 1 (suc r) ≡ false = rw (eqb-suc-zero r) at e in
    no_tf (sym (some_above r) ∙ f)

-- "A refused file prints `refused` and the number"
pub session_refused : (s : List ℕ) → le_z (pos 1) (check_of s).refusal ≡ true → session_text s ≡ refused_line (check_of s).refusal
unfolding session_text check_of
session_refused s e = refused_by s (refusal_of_rule s) e

-- any other, the texts of its passes
pub session_passes : (s : List ℕ) → le_z (pos 1) (check_of s).refusal ≡ false → session_text s ≡ pass_texts s ∣ (check_of s).passes ∣
unfolding session_text check_of
session_passes s e = passes_by s (refusal_of_rule s) e

-- ---- the same by its refusal

pub refused_text : (s : List ℕ) (n : ℕ) → n ≡ refusal_of_rule s → (n ≡ 0 → ⊥) → session_text s ≡ refused_line (pos n)
unfolding session_text given
refused_text s n e h = rw (sym e, ne_eqb n 0 h) refl

pub passes_text : (s : List ℕ) → refusal_of_rule s ≡ 0 → session_text s ≡ pass_texts s (count_of_rule s 3)
unfolding session_text given
passes_text s h = rw (eq-eqb (refusal_of_rule s) 0 h) refl
