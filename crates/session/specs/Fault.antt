-- The place at which the number that `check` gives arises first. Document 01, 'Refusal numbers'.
use Rattle.std.specs.Prelude.{ℕ, zero, suc, ◌+◌, ◌-◌, List, pos}
use Rattle.whole.specs.Each.{first_not}
use Rattle.sections.specs.Table.{wrong_word_rule}
use Rattle.sections.specs.Layouts.{places, rising, consecutive}
use Rattle.session.specs.declared.Place.{Place}
use Rattle.sections.specs.File.{kind_of, count_of_rule, size_of, field_right, record_right, section_right_rule, step_right_rule, order_right_rule, refusal_of_rule}

-- ---- the place: the number, the section's kind, the record and the field, each counted from 0

abbrev pub place_of : ℕ → ℕ → ℕ → ℕ → Place
place_of n kind i k = record { number = pos n; section = pos kind; «record» = pos i; field = pos k }

-- 2: in place p the first record with a field out of its range, and in it the first such field
abbrev pub range_record : List ℕ → ℕ → ℕ
range_record s p = first_not (count_of_rule s p) (record_right places s p)

abbrev pub range_field : List ℕ → ℕ → ℕ
range_field s p = first_not (size_of places s p) (field_right places s p (range_record s p))

unfoldable pub range_fault_rule : List ℕ → ℕ → Place
range_fault_rule s p = place_of 2 (kind_of s p) (range_record s p) (range_field s p)

-- 3 and 4: in place p the later record of the first pair that does not keep the order o
unfoldable pub order_fault_rule : List ℕ → ℕ → ℕ → ℕ → Place
order_fault_rule s p o n = place_of n (kind_of s p) (first_not (count_of_rule s p - 1) (step_right_rule places s o p) + 1) 0

-- zeros for a file that is accepted; for 1 the field is the first wrong word of the contents table, 0 to 12, or 13 for the length;
-- for 2, 3 and 4 the first place at which the number arises
unfoldable pub fault_by : List ℕ → ℕ → Place
fault_by s zero = place_of 0 0 0 0
fault_by s (suc zero) = place_of 1 0 0 (wrong_word_rule places s)
fault_by s (suc (suc zero)) = range_fault_rule s (first_not 4 (section_right_rule places s))
fault_by s (suc (suc (suc zero))) = order_fault_rule s (first_not 4 (order_right_rule places s rising)) rising 3
fault_by s (suc (suc (suc (suc n)))) = order_fault_rule s (first_not 4 (order_right_rule places s consecutive)) consecutive 4

unfoldable pub fault_of_rule : List ℕ → Place
fault_of_rule s = fault_by s (refusal_of_rule s)
