-- A number of a row, as the code reads it back. Assumes nothing.
use mathlib.Core.Path.{◌≡◌, ap, ◌∙◌}
use mathlib.Core.List.{List}
use Prim.Native.Nat.{ℕ, ◌^◌, ◌<◌}
use lib.IntN.{ℤ}
use lib.Signed.{mag}
use mir.Syntax.{w64}
use mir.Val.{to_z, of_z}
use Rattle.whole.proofs.Linear.{ret}
use Rattle.fields.specs.Records.{number_in}

-- where number n is read for number k, n is k
pub number_back : (row : List ℤ) (n k : ℕ) → mag (number_in row n) < 2 ^ 63 → n ≡ k → to_z w64 (of_z w64 (number_in row n)) ≡ number_in row k
number_back row n k f e = ret (number_in row n) f ∙ ap (number_in row) e
