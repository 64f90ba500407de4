use Rattle.std.proofs.Common.{◌≡◌, ◌+◌, ◌-◌, ◌^◌, ◌<◌, length, drop}
use Rattle.text.specs.Decimal.{read_from_rule}
use Rattle.text.proofs.decimal.read_on.Given as goal

abbrev pub invariant-loop-b : goal.invariant-loop-b
invariant-loop-b l = (read_from_rule l.all (drop l.b-index l.s) ≡ read_from_rule l.n l.s) × (l.all < 10 ^ (19 - length l.s + l.b-index))
