-- The status with which the program ends: 0 where all was answered, 1 where the file or one of its passes is refused, and 3 where something was lost.
use Rattle.std.specs.Prelude.{ℕ, Bool, ◌&&◌, List, pos}
use Rattle.whole.specs.Each.{all_below}
use Rattle.whole.specs.Whole.{∣◌∣}
use Rattle.whole.specs.Ranges.{eq_z}
use Rattle.session.specs.Records.{check_of}
use Rattle.lines.specs.Text.{lent_outcome}
use Rattle.console.specs.Status.{status_by}

-- pass i of the file s is answered: its number is 0
abbrev pub pass_answered : List ℕ → ℕ → Bool
pass_answered s i = eq_z (lent_outcome s i).answer.refusal (pos 0)

-- the file is accepted, and each of its passes is answered
unfoldable pub all_answered_rule : List ℕ → Bool
all_answered_rule s = eq_z (check_of s).refusal (pos 0) && all_below ∣ (check_of s).passes ∣ (pass_answered s)

abbrev pub status_of_rule : List ℕ → Bool → ℕ
status_of_rule s lost = status_by lost (all_answered_rule s)
