-- Document 02, L7: what is said of a track that was made elsewhere. It is judged by its whole segments, each as `Lent`; numbers behind the last are not read.
use Rattle.std.specs.Prelude.{ℕ, ◌+◌, ◌*◌, Bool, true, ◌&&◌, List, [], ◌∷◌, eqb, leb, length, ℤ, pos, Option, Some, None}
use Rattle.whole.specs.Whole.{pos_part, ∣◌∣}
use Rattle.whole.specs.Each.{all_below}
use Rattle.whole.specs.Answers.{given}
use Rattle.whole.specs.Refusals.{unless, lowest, first_of}
use Rattle.fit.specs.Line.{apart}
use Rattle.track.specs.Answer.{in_range}
use Rattle.predict.specs.declared.segment.Lent.{Lent}
use Rattle.predict.specs.Lent.{lent_of, place_in_rule, length_ok_rule, range_ok_rule}
use Rattle.judge.specs.declared.Judgement.{Judgement}
use Rattle.judge.specs.declared.faults.Fault.{Fault}
use Rattle.judge.specs.declared.faults.Fault.TheVariants.{Place, Length, Sample}

-- ---- the faults of a segment, where `at` samples stand before it

-- sample j of the segment is at most so many 1/65,536 ps from its line
abbrev pub near_at : List ℤ → ℕ → Lent → ℕ → ℕ → Bool
near_at s most x at j = leb ∣ apart s x.offset x.rate at j ∣ most

-- each of its samples is within the tolerance
unfoldable pub samples_ok_rule : List ℤ → ℕ → ℕ → Lent → Bool
samples_ok_rule s t at x = all_below (pos_part x.count) (near_at s (65536 * t) x at)

-- why it is at fault, in this order: 1 for its place, 2 for its length, 3 for a sample; 0 where it is not at fault
unfoldable pub fault_of_rule : List ℤ → ℕ → ℕ → Lent → ℕ
fault_of_rule s t at x = first_of (unless (place_in_rule (length s) at x) 1 ∷ unless (length_ok_rule x) 2 ∷ unless (samples_ok_rule s t at x) 3 ∷ [])

-- as an enum of the code: the number of each, and that of none
abbrev pub fault_number : Fault → ℕ
fault_number Place = 1
fault_number Length = 2
fault_number Sample = 3

abbrev pub fault_in : Option Fault → ℕ
fault_in None = 0
fault_in (Some f) = fault_number f

-- ---- the judgement

abbrev pub verdict : ℕ → ℕ → Judgement
verdict fault i = record { refusal = pos 0; fault = pos fault; segment = pos i }

abbrev pub accepted : Judgement
accepted = verdict 0 0

-- The first segment at fault, and why, from segment i on, which `at` samples stand before. Behind the last segment, where samples are left over, the fault is
-- place, and the segment named is the one that is missing.
unfoldable pub judged_from : List ℤ → ℕ → ℕ → ℕ → List Lent → Judgement
judged_from s t at i [] = given (unless (eqb at (length s)) 1) accepted (λ fault. verdict fault i)
judged_from s t at i (x ∷ xs) = given (fault_of_rule s t at x) (judged_from s t (at + pos_part x.count) (i + 1) xs) (λ fault. verdict fault i)

-- ---- the call

-- offset and rate of every segment are in their ranges
unfoldable pub ranges_ok_rule : List Lent → Bool
ranges_ok_rule [] = true
ranges_ok_rule (x ∷ xs) = range_ok_rule x && ranges_ok_rule xs

-- the number of a call: 2 as for the call `track`, and 9 for an offset or a rate
unfoldable pub judge_number : List ℤ → ℤ → List ℤ → ℕ
judge_number s t numbers = lowest (unless (in_range s t) 2 ∷ unless (ranges_ok_rule (lent_of numbers)) 9 ∷ [])

abbrev pub no_judgement : ℕ → Judgement
no_judgement n = record { refusal = pos n; fault = pos 0; segment = pos 0 }

unfoldable pub judge_outcome : List ℤ → ℤ → List ℤ → Judgement
judge_outcome s t numbers = given (judge_number s t numbers) (judged_from s (pos_part t) 0 0 (lent_of numbers)) no_judgement
