-- `wave::values::leap` meets its contract.
use Rattle.std.proofs.Common.{ℤ, pos}
use Rattle.fields.specs.Ranges.{Holds, taiutc}
use Rattle.whole.proofs.Machine.{M, lit, ◌⊟◌, ◌⊠◌, ok, is}
use Rattle.earth.proofs.Floors.{leaf}
use Rattle.wave.specs.DayValues.{leap_of}
use Rattle.wave.proofs.values.leap.Goals as goal

abbrev seconds : (a b : ℤ) → Holds taiutc a → Holds taiutc b → M
seconds a b h k = leaf a h ⊟ leaf b k

pub overflow_sub-result : goal.overflow_sub-result
overflow_sub-result c = ok (seconds c.args.r1.tai_utc c.args.r0.tai_utc c.requires.1.tai c.requires.0.tai) tt

pub overflow_mul-result : goal.overflow_mul-result
overflow_mul-result c = ok (seconds c.args.r1.tai_utc c.args.r0.tai_utc c.requires.1.tai c.requires.0.tai ⊠ lit (pos 1000000000)) tt

pub returns : goal.returns
unfolding leap_of
returns c = is (seconds c.args.r1.tai_utc c.args.r0.tai_utc c.requires.1.tai c.requires.0.tai ⊠ lit (pos 1000000000)) tt
