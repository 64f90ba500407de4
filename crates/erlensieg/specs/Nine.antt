-- Document 01, 'Delay', its last sentence: the nine numbers of the rotation as a C struct has them, row after row.
use Rattle.std.specs.Prelude.{ℕ, List, [], get_or, ℤ, pos}
use Rattle.erlensieg.specs.declared.angles.Rotation.{Rotation}

-- column j of row i
abbrev pub entry_of : List (List ℤ) → ℕ → ℕ → ℤ
entry_of rows i j = get_or (get_or rows i []) j (pos 0)

unfoldable pub nine_of : List (List ℤ) → Rotation
nine_of m =
    record {
      xx = entry_of m 0 0;
      xy = entry_of m 0 1;
      xz = entry_of m 0 2;
      yx = entry_of m 1 0;
      yy = entry_of m 1 1;
      yz = entry_of m 1 2;
      zx = entry_of m 2 0;
      zy = entry_of m 2 1;
      zz = entry_of m 2 2;
    }
