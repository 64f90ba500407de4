-- The numbers of a file's passes, as the program keeps them to say on standard error what they mean.
use Rattle.std.specs.Prelude.{ℕ, ◌<◌, ◌≤◌, ◌≡◌, List, ℤ, pos, length, get_or}
use Rattle.lines.specs.Text.{lent_outcome}

-- the numbers of the first m passes of the file s, 0 for one that is not refused, stand in the list from its start
pub record Numbers (s : List ℕ) (m : ℕ) (numbers : List ℤ) : Type 0 where
  pub long : m ≤ length numbers
  pub each : (i : ℕ) → i < m → get_or numbers i (pos 0) ≡ (lent_outcome s i).answer.refusal
