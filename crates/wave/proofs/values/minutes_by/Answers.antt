-- `wave::values::minutes_by` meets its contract.
use Rattle.std.proofs.Common.{◌≡◌, ℤ, ap, ◌∙◌, w64, to_z, of_z}
use Rattle.whole.proofs.Linear.{ret}
use Rattle.whole.proofs.Machine.{is}
use Rattle.earth.specs.Minutes.{minutes_of}
use Rattle.earth.proofs.Floors.{leaf}
use Rattle.fields.specs.Ranges.{Holds, taiutc}
use Rattle.wave.proofs.values.minutes_by.Goals as goal

tai-back : (z : ℤ) → Holds taiutc z → to_z w64 (of_z w64 z) ≡ z
tai-back z h = is (leaf z h) tt

pub minutes-requires : goal.minutes-requires
minutes-requires c = (c.requires.1, rw (tai-back c.args.r0.tai_utc c.requires.0) c.requires.0)

pub returns : goal.returns
returns c =
    rw (ret c.minutes.result c.minutes.type_inv)
    (c.minutes.ensures.0 ∙ ap (minutes_of c.args.e) (tai-back c.args.r0.tai_utc c.requires.0), c.minutes.ensures.1)
