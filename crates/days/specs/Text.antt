-- What the program `days` prints for rows, a first day, a count and values of TAI-UTC, as bytes of ASCII: a line for each record, in the order of the days,
-- with its six numbers MJD, x, y, UT1-UTC, TAI-UTC and mark; or `refused` and the number.
use Rattle.std.specs.Prelude.{ℕ, cond, List, ℤ, pos}
use Rattle.std.specs.Int.Signed.{le_z}
use Rattle.whole.specs.Whole.{pos_part}
use Rattle.text.specs.Table.{row_lines, refused_line}
use Rattle.bulletin.specs.declared.Days.{Days}
use Rattle.bulletin.specs.Reading.{days_outcome}

-- of an answer with so many records
unfoldable pub answer_text : Days → ℕ → List ℕ
answer_text r m = cond (le_z (pos 1) r.refusal) (refused_line r.refusal) (row_lines 6 r.days m)

unfoldable pub days_text_rule : List ℕ → ℤ → ℤ → List ℤ → List ℕ
days_text_rule rows first count tai = answer_text (days_outcome rows first count tai) (pos_part count)
