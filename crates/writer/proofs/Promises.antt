-- The writer's promise fixes one value, the room's bytes included. Assumes nothing.
use mathlib.Core.Path.{◌≡◌, sym, ◌∙◌}
use Prim.Native.Nat.{ℕ}
use mathlib.Core.List.{List}
use lib.IntN.{ℤ}
use Rattle.whole.specs.declared.Number.{Number}
use Rattle.writer.specs.declared.Kinds.{Kinds}
use Rattle.writer.specs.Promises.{WritePromise, WriteAsPromise}

pub write_as_one : (k : Kinds) (p q r t : List ℤ) (room : List ℕ) (a b : Number) (x y : List ℕ)
    → WriteAsPromise k p q r t room a x → WriteAsPromise k p q r t room b y → (a ≡ b) × (x ≡ y)
write_as_one k p q r t room a b x y h l = (h.0 ∙ sym l.0, h.1 ∙ sym l.1)

pub write_one : (kind : ℤ) (p q r t : List ℤ) (room : List ℕ) (a b : Number) (x y : List ℕ)
    → WritePromise kind p q r t room a x → WritePromise kind p q r t room b y → (a ≡ b) × (x ≡ y)
write_one kind p q r t room a b x y h l = (h.0 ∙ sym l.0, h.1 ∙ sym l.1)
