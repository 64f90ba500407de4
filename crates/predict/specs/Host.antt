-- Document 01, 'Track': the host record of a prediction, seconds and cycles of a clock of 32 MHz, both doubles. In the logic's IEEE terms.
use Rattle.std.specs.Prelude.{ℕ, List, ℤ, pos, ◌*ℤ◌}
use Rattle.std.specs.Float.Ieee as Ieee
use Rattle.std.specs.Float.{binary64}
use Rattle.std.specs.Float.Ieee.{of_int}
use Rattle.whole.specs.Answers.{given}
use Rattle.predict.specs.declared.Record.{Record}
use Rattle.predict.specs.declared.Host.{Host}
use Rattle.predict.specs.Lent.{lent_of, prediction_at_rule, predict_number}

-- the record of a prediction of so many ps: each number is made a double, exactly, and divided once
unfoldable pub record_of_rule : ℤ → Record
record_of_rule ps = record {
  seconds = Ieee.div binary64 (of_int binary64 ps) (of_int binary64 (pos 1_000_000_000_000));
  cycles = Ieee.div binary64 (of_int binary64 (ps *ℤ pos 32)) (of_int binary64 (pos 1_000_000));
}

-- the record of a refused call
abbrev pub zeros : Record
zeros = record { seconds = of_int binary64 (pos 0); cycles = of_int binary64 (pos 0) }

-- what the call `host_at` answers
abbrev pub host_answer : ℤ → Host
host_answer ps = record { refusal = pos 0; «record» = record_of_rule ps }

abbrev pub no_host : ℕ → Host
no_host n = record { refusal = pos n; «record» = zeros }

unfoldable pub host_outcome : List ℤ → ℕ → Host
host_outcome numbers k = given (predict_number numbers k) (host_answer (prediction_at_rule (lent_of numbers) k)) no_host
