-- Each promise of a public call fixes one value, the room's bytes included. Assumes nothing.
use mathlib.Core.Path.{◌≡◌, sym, ap, ◌∙◌}
use Prim.Native.Nat.{ℕ}
use mathlib.Core.List.{List}
use lib.IntN.{ℤ}
use Rattle.whole.specs.declared.Number.{Number}
use Rattle.bulletin.specs.declared.Days.{Days}
use Rattle.bulletin.specs.Writing.{Written}
use Rattle.bulletin.specs.Promises.{DaysPromise, RowsPromise}

pub days-one : (text : List ℕ) (first count : ℤ) (tai : List ℤ) (a b : Days) → DaysPromise text first count tai a → DaysPromise text first count tai b → a ≡ b
days-one text first count tai a b h l = h ∙ sym l

pub rows-one : (days : List ℤ) (room : List ℕ) (a b : Number) (x y : List ℕ) → RowsPromise days room a x → RowsPromise days room b y → (a ≡ b) × (x ≡ y)
rows-one days room a b x y h l = let e = h ∙ sym l in (ap (λ (w : Written). w.answer) e, ap (λ (w : Written). w.room) e)
