-- The words of the contents table in the order in which they stand, and the first that is wrong. Document 01, 'Session file'.
use Rattle.std.specs.Prelude.{ℕ, zero, suc, ◌/◌, ◌%◌, Bool, cond, List, ltb}
use Rattle.whole.specs.Each.{first_not}
use Rattle.sections.specs.Layouts.{Table}
use Rattle.sections.specs.File.{sections_right_rule, kind_right_rule, offset_right_rule, count_right_rule, length_right_rule}

module _ (t : Table) (s : List ℕ) where
  -- of place p: its kind, its first byte, its count
  abbrev pub entry_right : ℕ → ℕ → Bool
  entry_right p zero = kind_right_rule t s p
  entry_right p (suc zero) = offset_right_rule t s p
  entry_right p (suc (suc k)) = count_right_rule t s p

  -- word 0 is the number of sections, then come three for each place
  abbrev pub word_right : ℕ → Bool
  word_right zero = sections_right_rule s
  word_right (suc j) = entry_right (j / 3) (j % 3)

  -- the first wrong word, 0 to 12; 13 where the words are right and the length is not, and 14 where nothing is wrong
  unfoldable pub wrong_word_rule : ℕ
  wrong_word_rule = cond (ltb (first_not 13 word_right) 13) (first_not 13 word_right) (cond (length_right_rule t s) 14 13)
