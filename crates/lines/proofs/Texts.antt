-- What a pass's track leaves to be printed, and that it has room. Assumes nothing.
use mathlib.Core.Path.{◌≡◌, refl, subst}
use mathlib.Core.Bool.{true, false}
use mathlib.Core.List.{List, ◌++◌}
use Prim.Native.Nat.{ℕ, ◌*◌, ◌/◌, ◌≤◌}
use native.Mathlib.Omega.{arith}
use lib.IntN.{ℤ, pos}
use lib.ListN.{length, drop, replicate, length-append, length-replicate}
use lib.Signed.{le_z}
use Rattle.whole.specs.Whole.{pos_part, neg_part}
use Rattle.whole.proofs.Answers.{given-each}
use Rattle.session.specs.Records.{pass_of_rule}
use Rattle.delay.specs.Calls.{samples_number}
use Rattle.track.specs.Segments.{Segment, flat}
use Rattle.track.specs.Made.{track_of}
use Rattle.track.specs.Answer.{Outcome, outcome, refused, written}
use Rattle.track.proofs.Answers.{each_way}
use Rattle.track.proofs.Runs.{flat-length}
use Rattle.fringe.specs.PassTrack.{pass_samples_rule, pass_outcome}
use Rattle.text.specs.Table.{refused_line}
use Rattle.lines.specs.Text.{pass_line, segment_lines, outcome_text, lent_outcome}

-- as many segments as the outcome says stand in its room, and there is room for k
pub record Holds (k : ℕ) (o : Outcome) : Type 0 where
  pub counted : neg_part o.answer.value ≡ 0
  pub few : pos_part o.answer.value ≤ k
  pub there : 4 * pos_part o.answer.value ≤ length o.room

none : (k n : ℕ) (room : List ℤ) → Holds k (refused n room)
none k n room = record { counted = refl; few = omega arith; there = omega arith }

some : (k : ℕ) (xs : List Segment) (room : List ℤ) → length xs ≤ k → Holds k (written xs room)
some k xs room h =
    record {
      counted = refl;
      few = h;
      there = omega (arith, length-append (flat xs) (drop (4 * length xs) room), flat-length xs);
    }

track_holds : (s : List ℤ) (t : ℤ) (room : List ℤ) → Holds (length room / 4) (outcome s t room)
track_holds s t room =
    let k = length room / 4 in
    each_way s t room (Holds k) (λ n. none k n room) (λ h. some k (track_of s (pos_part t)) room h)

pass_holds : (s : List ℕ) (i : ℕ) (room : List ℤ) → Holds (length room / 4) (pass_outcome s i room)
unfolding pass_outcome
pass_holds s i room =
    let k = length room / 4 in
    let n = samples_number s i 4096 in
    given-each (Holds k) n _ (λ m. refused m room) (λ e. track_holds (pass_samples_rule s i) (pass_of_rule s i).tolerance room) (none k n room)

-- "It lends room for 2,048 segments, which is always enough" of the room for their lines
pub lent_holds : (s : List ℕ) (i : ℕ) → Holds 2048 (lent_outcome s i)
lent_holds s i = subst (λ (n : ℕ). Holds (n / 4) (lent_outcome s i)) (length-replicate (4 * 2048) (pos 0)) (pass_holds s i (replicate (4 * 2048) (pos 0)))

-- ---- the text, by its two cases

pub refused_is : (i : ℕ) (o : Outcome) → le_z (pos 1) o.answer.refusal ≡ true → outcome_text i o ≡ refused_line o.answer.refusal
unfolding outcome_text
refused_is i o e = rw e

pub made_is : (i : ℕ) (o : Outcome) → le_z (pos 1) o.answer.refusal ≡ false
    → outcome_text i o ≡ pass_line i o.answer.value ++ segment_lines o.room (pos_part o.answer.value)
unfolding outcome_text
made_is i o e = rw e
