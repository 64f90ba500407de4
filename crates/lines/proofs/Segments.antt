-- The lines of a room in which a list of segments stands are the lines of the segments. Assumes nothing.
use mathlib.Core.Path.{◌≡◌, refl, sym, ap, ap₂, ◌∙◌}
use mathlib.Core.List.{List, [], ◌∷◌, ◌++◌, append-nil, append_assoc}
use Prim.Native.Nat.{ℕ, zero, suc, ◌*◌}
use native.Mathlib.Omega.{arith}
use lib.IntN.{ℤ, pos}
use lib.ListN.{length, take, drop}
use Rattle.track.specs.Segments.{Segment, flat}
use Rattle.track.specs.Answer.{written}
use Rattle.text.specs.Table.{line_of, row_line, row_lines}
use Rattle.lines.specs.Text.{pass_line, segment_lines, outcome_text}

module _ (a b c d : ℤ) (zs : List ℤ) where
  abbrev whole : List ℤ
  whole = a ∷ b ∷ c ∷ d ∷ zs

  line-behind : (m : ℕ) → row_line (take 4 (drop (4 * suc m) whole)) ≡ row_line (take 4 (drop (4 * m) zs))
  line-behind m =
      let e : 4 * suc m ≡ suc (suc (suc (suc (4 * m)))) = omega arith in
      ap (λ (k : ℕ). row_line (take 4 (drop k whole))) e

  first-line : (m : ℕ) → segment_lines whole (suc m) ≡ line_of a (b ∷ c ∷ d ∷ []) ++ segment_lines zs m
  unfolding row_line row_lines
  first-line zero = sym (append-nil (line_of a (b ∷ c ∷ d ∷ [])))
  first-line (suc m) =
      ap₂ ◌++◌ (first-line m) (line-behind m) ∙ append_assoc (line_of a (b ∷ c ∷ d ∷ [])) (segment_lines zs m) (row_line (take 4 (drop (4 * m) zs)))

-- the lines of a list of segments
unfoldable pub lines_of : List Segment → List ℕ
lines_of [] = []
lines_of (x ∷ xs) = line_of (pos x.first) (pos x.count ∷ x.offset ∷ x.rate ∷ []) ++ lines_of xs

pub segment_lines_lem : (xs : List Segment) (rest : List ℤ) → segment_lines (flat xs ++ rest) (length xs) ≡ lines_of xs
unfolding lines_of flat row_lines
segment_lines_lem [] rest = refl
segment_lines_lem (x ∷ xs) rest =
    first-line (pos x.first) (pos x.count) x.offset x.rate (flat xs ++ rest) (length xs)
    ∙ ap (λ (bs : List ℕ). line_of (pos x.first) (pos x.count ∷ x.offset ∷ x.rate ∷ []) ++ bs) (segment_lines_lem xs rest)

-- what is printed of a track that is written to the room: the pass line with its number of segments, and one line a segment
pub written_text : (i : ℕ) (xs : List Segment) (room : List ℤ) → outcome_text i (written xs room) ≡ pass_line i (pos (length xs)) ++ lines_of xs
unfolding outcome_text
written_text i xs room = ap (λ (bs : List ℕ). pass_line i (pos (length xs)) ++ bs) (segment_lines_lem xs (drop (4 * length xs) room))
