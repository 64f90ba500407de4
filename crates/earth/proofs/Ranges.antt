-- A test of ranges that passed, as facts. Assumes nothing.
use Rattle.std.proofs.Common.{◌≡◌, true, ◌&&◌, ℤ}
use Rattle.fields.specs.declared.ranges.Range.{Range}
use Rattle.fields.specs.Ranges.{inside, Holds, mjd, millisecond}
use Rattle.fields.proofs.Inside.{inside_holds}
use Rattle.whole.proofs.Linear.{and_true}
use Rattle.earth.specs.Ranges.{microsecond}
use Rattle.earth.specs.Calls.{epoch_inside, angle_inside}

pub epoch_yes : (r : Range) (day ms more : ℤ) → epoch_inside r day ms more ≡ true → Holds mjd day × Holds millisecond ms × Holds r more
epoch_yes r day ms more e =
    let a = and_true (inside mjd day) (inside millisecond ms && inside r more) e in
    let b = and_true (inside millisecond ms) (inside r more) a.1 in
    (inside_holds mjd day a.0, inside_holds millisecond ms b.0, inside_holds r more b.1)

pub angle_yes : (day f : ℤ) → angle_inside day f ≡ true → Holds mjd day × Holds microsecond f
angle_yes day f e =
    let a = and_true (inside mjd day) (inside microsecond f) e in
    (inside_holds mjd day a.0, inside_holds microsecond f a.1)
