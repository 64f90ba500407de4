-- What a call answers, by the number of its refusal. Document 01, 'Refusal numbers': refused, a call gives that number and zeros.
use Rattle.std.specs.Prelude.{ℕ, cond, ℤ, pos, eqb, Result, Ok, Err}
use Rattle.whole.specs.Refusals.{number_of}
use Rattle.whole.specs.declared.refusal.Refusal.{Refusal}
use Rattle.whole.specs.declared.Number.{Number}

-- what is answered where n is 0, which says that no refusal applies; else what is answered with the refusal n
unfoldable pub given : {A : Type 0} → ℕ → A → (ℕ → A) → A
given n right refused = cond (eqb n 0) right (refused n)

-- ---- with one value

abbrev pub number : ℤ → Number
number v = record { refusal = pos 0; value = v }

abbrev pub no_number_rule : ℕ → Number
no_number_rule n = record { refusal = pos n; value = pos 0 }

abbrev pub answer_by : ℕ → ℤ → Number
answer_by n v = given n (number v) no_number_rule

-- what is answered for a result
abbrev pub answer_in : Result ℤ Refusal → Number
answer_in (Ok v) = number v
answer_in (Err r) = no_number_rule (number_of r)
