-- What only the inner steps of the code need; no public promise cites it.
use Rattle.std.specs.Prelude.{◌≡◌, true, cond, List, Result, Ok, Err, ℕ, ◌+◌, ◌-◌, ◌≤◌, ◌<◌, ℤ, pos, length, get_or, take, drop}
use Rattle.whole.specs.Whole.{∣◌∣}
use Rattle.whole.specs.Each.{all_below}
use Rattle.whole.specs.Refusals.{number_of}
use Rattle.whole.specs.declared.refusal.Refusal.{Refusal}
use Rattle.bulletin.specs.declared.Days.{Days}
use Rattle.bulletin.specs.Rows.{row_at_rule, has_day_rule, days_of}
use Rattle.bulletin.specs.Reading.{in_ranges_rule, taken_filled_rule, days_there_rule, record_of_rule, records, days, no_days_rule}

-- row i stands from one start to a byte before the next
pub record Stands (text : List ℕ) (starts : List ℕ) (i : ℕ) : Type 0 where
  pub order : get_or starts i 0 < get_or starts (i + 1) 0
  pub most : get_or starts (i + 1) 0 ≤ length text
  pub bytes : take (get_or starts (i + 1) 0 - 1 - get_or starts i 0) (drop (get_or starts i 0) text) ≡ row_at_rule text i

-- of a text whose rows all have a day: the days, and where the rows stand
pub record Listed (text : List ℕ) (dates : List ℤ) (starts : List ℕ) : Type 0 where
  pub days : dates ≡ days_of text
  pub enough : length dates < length starts
  pub dated : (i : ℕ) → i < length dates → has_day_rule (row_at_rule text i) ≡ true
  pub stands : (i : ℕ) → i < length dates → Stands text starts i

-- days that are far from the ends of 64 bits
abbrev pub Near : List ℤ → Type 0
Near dates = (i : ℕ) → i < length dates → ∣ get_or dates i (pos 0) ∣ ≤ 100_000

-- each row that is taken is filled, and each day asked for has one
pub record Ready (text : List ℕ) (first count : ℤ) : Type 0 where
  pub filled : taken_filled_rule text first count ≡ true
  pub there : days_there_rule text first count ≡ true

-- what is answered for a result
abbrev pub days_in : Result (List ℤ) Refusal → Days
days_in (Ok zs) = days zs
days_in (Err r) = no_days_rule (number_of r)

-- the same, where the numbers stand in places that are lent
abbrev pub days_by : {A : Type 0} → Result A Refusal → List ℤ → Days
days_by (Ok a) zs = days zs
days_by (Err r) zs = no_days_rule (number_of r)

-- the answer where nothing but a field of a record is left to refuse for
unfoldable pub given_records : List ℕ → ℤ → List ℤ → Days
given_records text first tai =
    let count = pos (length tai) in
    cond (all_below (length tai) (λ (k : ℕ). in_ranges_rule (record_of_rule text first count tai k))) (days (records text first count tai)) (no_days_rule 2)
