-- What a function leaves that puts bytes into a lent room.
use Rattle.std.specs.Prelude.{ℕ, ◌+◌, ◌≡◌, List, length}
use Rattle.text.specs.Bytes.{pasted}

-- the room d has become e: the bytes bs stand from at on, up to the place `end`, and the rest is as before
pub record Put (d : List ℕ) (at : ℕ) (bs e : List ℕ) (end : ℕ) : Type 0 where
  pub bytes : e ≡ pasted d at bs
  pub place : end ≡ at + length bs
