-- What the range tests of the calls give. Assumes nothing.
use mathlib.Core.Path.{◌≡◌}
use mathlib.Core.Bool.{Bool, true, false, ◌&&◌}
use lib.IntN.{ℤ}
use Rattle.whole.proofs.Linear.{and_true, no_ft}
use Rattle.fields.specs.Ranges.{inside, Holds, mjd, millisecond}
use Rattle.fields.proofs.Inside.{inside_holds}
use Rattle.delay.specs.Calls.{epoch_ok_rule}

pub epoch_in : (day ms : ℤ) → epoch_ok_rule day ms ≡ true → Holds mjd day × Holds millisecond ms
epoch_in day ms e =
    let h = and_true (inside mjd day) (inside millisecond ms) e in
    (inside_holds mjd day h.0, inside_holds millisecond ms h.1)

pub asked_in : (a b r : Bool) (day ms : ℤ) → (a && (b && (r && epoch_ok_rule day ms))) ≡ true → Holds mjd day × Holds millisecond ms
asked_in true true true day ms e = epoch_in day ms e
asked_in true true false day ms e = no_ft e
asked_in true false r day ms e = no_ft e
asked_in false b r day ms e = no_ft e
