-- A refusal has a number, which is not 0. Assumes nothing.
use mathlib.Core.Path.{◌≡◌, ◌∙◌}
use Prim.Native.Nat.{ℕ}
use native.Mathlib.Omega.{arith}
use mathlib.Core.List.{List}
use Rattle.whole.specs.declared.refusal.Refusal.{Refusal}
use Rattle.whole.specs.declared.refusal.Refusal.TheVariants.{Contents, Range, Order, Days, Absent, Uncovered, Room, RoomForTrack, Malformed, Row, NoRow}
use Rattle.whole.specs.Refusals.{number_of}
use Rattle.sections.specs.File.{refusal_of_rule}

pub some_number : (r : Refusal) → number_of r ≡ 0 → ⊥
some_number Contents e = omega arith
some_number Range e = omega arith
some_number Order e = omega arith
some_number Days e = omega arith
some_number Absent e = omega arith
some_number Uncovered e = omega arith
some_number Room e = omega arith
some_number RoomForTrack e = omega arith
some_number Malformed e = omega arith
some_number Row e = omega arith
some_number NoRow e = omega arith

-- a file that is refused is not accepted
pub not_accepted : (r : Refusal) (s : List ℕ) → number_of r ≡ refusal_of_rule s → refusal_of_rule s ≡ 0 → ⊥
not_accepted r s e h = some_number r (e ∙ h)
