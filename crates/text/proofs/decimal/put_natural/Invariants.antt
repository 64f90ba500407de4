use Rattle.std.proofs.Common.{◌≡◌, ◌-◌}
use Rattle.text.specs.Bytes.{pasted}
use Rattle.text.specs.Decimal.{digits_of}
use Rattle.text.proofs.Digits.{lowest}
use Rattle.text.proofs.decimal.put_natural.Given as goal

abbrev pub invariant-loop-i : goal.invariant-loop-i
invariant-loop-i l = pasted l.room l.at (lowest (l.i - l.at) l.rest) ≡ pasted l.initial.room l.at (digits_of l.n)
