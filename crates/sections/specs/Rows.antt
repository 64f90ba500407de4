-- A record of any kind as one row of eight numbers: its own, and zeros for those that its kind does not have.
use Rattle.std.specs.Prelude.{ℕ, ◌-◌, List, ◌++◌, ℤ, pos, replicate}
use Rattle.whole.specs.Values.{first_values}
use Rattle.sections.specs.Layouts.{Table}
use Rattle.sections.specs.File.{size_of, field_at_rule}

-- n numbers and zeros behind them
abbrev pub in_row : ℕ → (ℕ → ℤ) → List ℤ
in_row n f = first_values n f ++ replicate (8 - n) (pos 0)

unfoldable pub row_of : Table → List ℕ → ℕ → ℕ → List ℤ
row_of t s p i = in_row (size_of t s p) (field_at_rule t s p i)
