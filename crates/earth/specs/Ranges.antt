-- The ranges of two arguments that are no fields of a file; those of a field have it of crate fields. Document 01, 'Numbers used' and 'Rotation angle'.
use Rattle.std.specs.Prelude.{pos, neg_ℤ}
use Rattle.fields.specs.declared.ranges.Range.{Range}
use Rattle.fields.specs.Ranges.{range}

-- milliseconds that a call adds
abbrev pub added : Range
added = range 0 14_742_000_000

-- microseconds of a day, where the rotation angle is asked for by them
abbrev pub microsecond : Range
microsecond = record { low = neg_ℤ (pos 100_000_000); high = pos 86_500_000_000 }
