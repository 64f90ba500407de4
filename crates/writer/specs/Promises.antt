-- What the writer promises of its answer w and of the room, which is lent as `room` and left as `after`.
use Rattle.std.specs.Prelude.{◌≡◌, ℕ, List, [], ◌∷◌, ℤ, length}
use Rattle.whole.specs.declared.Number.{Number}
use Rattle.sections.specs.Layouts.{places}
use Rattle.writer.specs.declared.Kinds.{Kinds}
use Rattle.writer.specs.Writing.{written_as_rule, room_as, written_of, room_after_rule}

abbrev pub WriteAsPromise : Kinds → List ℤ → List ℤ → List ℤ → List ℤ → List ℕ → Number → List ℕ → Type 0
WriteAsPromise k stations sources days passes room w after =
    (w ≡ written_as_rule places k (stations ∷ sources ∷ days ∷ passes ∷ []) (length room)) × (after ≡ room_as places k (stations ∷ sources ∷ days ∷ passes ∷ []) room)

abbrev pub WritePromise : ℤ → List ℤ → List ℤ → List ℤ → List ℤ → List ℕ → Number → List ℕ → Type 0
WritePromise kind stations sources days passes room w after =
    (w ≡ written_of kind stations sources days passes (length room)) × (after ≡ room_after_rule kind stations sources days passes room)
