-- Document 01, 'Numbers to meet', the track program: what it prints, as bytes of ASCII.
use Rattle.std.specs.Prelude.{ℕ, zero, suc, ◌*◌, cond, List, [], ◌∷◌, ◌++◌, ℤ, pos, replicate}
use Rattle.std.specs.Int.Signed.{le_z}
use Rattle.whole.specs.Whole.{pos_part}
use Rattle.whole.specs.Answers.{given}
use Rattle.sections.specs.File.{refusal_of_rule, count_of_rule}
use Rattle.track.specs.Answer.{Outcome}
use Rattle.fringe.specs.PassTrack.{pass_outcome}
use Rattle.text.specs.Table.{line_of, row_lines, refused_line}

-- "`pass 0 1` ...: pass index and segment count"
unfoldable pub pass_line : ℕ → ℤ → List ℕ
pass_line i m = (112 ∷ 97 ∷ 115 ∷ 115 ∷ 32 ∷ []) ++ line_of (pos i) (m ∷ [])

-- "one line a segment": the first m segments of a room, four numbers each
abbrev pub segment_lines : List ℤ → ℕ → List ℕ
segment_lines room m = row_lines 4 room m

-- "prints `refused` and the number", and "a refused pass prints them in place of its lines"
unfoldable pub outcome_text : ℕ → Outcome → List ℕ
outcome_text i o =
    let n = o.answer.refusal in
    let m = o.answer.value in
    cond (le_z (pos 1) n) (refused_line n) (pass_line i m ++ segment_lines o.room (pos_part m))

-- "It lends room for 2,048 segments": what `fringe::pass_track` answers for pass i of a file, and leaves there
abbrev pub lent_outcome : List ℕ → ℕ → Outcome
lent_outcome s i = pass_outcome s i (replicate (4 * 2048) (pos 0))

-- what it prints for pass i of a file
unfoldable pub pass_text_rule : List ℕ → ℕ → List ℕ
pass_text_rule s i = outcome_text i (lent_outcome s i)

-- the first m passes, one behind the other
unfoldable pub pass_texts : List ℕ → ℕ → List ℕ
pass_texts s zero = []
pass_texts s (suc m) = pass_texts s m ++ pass_text_rule s m

-- all that the program prints for a file
unfoldable pub session_text : List ℕ → List ℕ
session_text s = given (refusal_of_rule s) (pass_texts s (count_of_rule s 3)) (λ n. refused_line (pos n))
