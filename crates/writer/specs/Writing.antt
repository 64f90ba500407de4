-- Document 01, 'Session file' and 'Refusal numbers': the file of four lists of numbers, one for each place, record after record, and when the writer refuses.
-- The writer is told the kind that each place is to have; a table t says what may stand there.
use Rattle.std.specs.Prelude.{ℕ, zero, suc, ◌+◌, ◌*◌, ◌/◌, Bool, ◌&&◌, ◌||◌, cond, List, [], ◌∷◌, ◌++◌, length, get_or, ℤ, pos, leb, eqb}
use Rattle.whole.specs.Whole.{∣◌∣}
use Rattle.whole.specs.Ranges.{eq_z}
use Rattle.whole.specs.Each.{all_below, implies}
use Rattle.whole.specs.Values.{first_values, joined}
use Rattle.whole.specs.Refusals.{unless, lowest}
use Rattle.whole.specs.Answers.{answer_by}
use Rattle.whole.specs.declared.Number.{Number}
use Rattle.text.specs.Bytes.{bytes_of_all, words_of, pasted}
use Rattle.sections.specs.Layouts.{Table, layout_in_rule, stands_in, places}
use Rattle.sections.specs.File.{between, refusal_by, refusal_of_rule}
use Rattle.writer.specs.declared.Kinds.{Kinds}

-- the kind and the list of place p
abbrev pub kind_at : Kinds → ℕ → ℕ
kind_at k p = get_or (k.first ∷ k.second ∷ k.third ∷ k.fourth ∷ []) p 0

abbrev pub list_at : List (List ℤ) → ℕ → List ℤ
list_at ls p = get_or ls p []

-- where the body of place p starts: behind the contents table, and behind the lists before it
unfoldable pub start_for : List (List ℤ) → ℕ → ℕ
start_for ls zero = 104
start_for ls (suc p) = start_for ls p + 8 * length (list_at ls p)

module _ (t : Table) where
  -- how many numbers a record of kind k in place p has
  abbrev pub size_in : ℕ → ℕ → ℕ
  size_in p k = length (layout_in_rule t p k).fields

  -- n numbers are a right count of whole records of kind k in place p
  unfoldable pub list_right_rule : ℕ → ℕ → ℕ → Bool
  list_right_rule p k n =
      stands_in t p k && (eqb (size_in p k * (n / size_in p k)) n && between (layout_in_rule t p k).fewest (layout_in_rule t p k).most (n / size_in p k))

  module _ (k : Kinds) (ls : List (List ℤ)) where
    unfoldable pub lists_right_rule : Bool
    lists_right_rule = all_below 4 (λ (p : ℕ). list_right_rule p (kind_at k p) (length (list_at ls p)))

    -- of place p the kind, the first byte and the record count
    abbrev pub entry_for : ℕ → List ℕ
    entry_for p = kind_at k p ∷ start_for ls p ∷ (length (list_at ls p) / size_in p (kind_at k p)) ∷ []

    -- the contents table: the number of sections, then each place's entry
    unfoldable pub contents_for_rule : List ℕ
    contents_for_rule = 4 ∷ joined 4 entry_for

    -- then the bodies, without gaps
    unfoldable pub file_words : List ℕ
    file_words = contents_for_rule ++ joined 4 (λ (p : ℕ). words_of (list_at ls p))

    unfoldable pub file_of : List ℕ
    file_of = bytes_of_all file_words

    -- ---- the refusal, the lowest that applies: 1 where the lists are not right, the number that the reader gives the file, 7 where the room is too short

    unfoldable pub write_refusal : ℕ → ℕ
    write_refusal room = lowest (unless lists_right_rule 1 ∷ refusal_by t file_of ∷ unless (leb (length file_of) room) 7 ∷ [])

    -- the answer: 0 and the number of bytes written, or the refusal and 0
    unfoldable pub written_as_rule : ℕ → Number
    written_as_rule room = answer_by (write_refusal room) (pos (length file_of))

    -- the room after the call: the file from its start, the rest untouched; refused, every byte stays
    unfoldable pub room_as : List ℕ → List ℕ
    room_as room = cond (eqb (write_refusal (length room)) 0) (pasted room 0 file_of) room

-- ---- `write`: today's table, and the kind that the caller gives the days. Document 02, L4: a record of a day list has six numbers, for either kind.

abbrev pub kinds_with_rule : ℕ → Kinds
kinds_with_rule k = record { first = 1; second = 2; third = k; fourth = 4 }

-- the mark of record i of a day list; and whether each of them is 0, as kind 3 has it
abbrev pub mark_at : List ℤ → ℕ → ℤ
mark_at days i = get_or days (6 * i + 5) (pos 0)

unfoldable pub unmarked : List ℤ → Bool
unmarked days = all_below (length days / 6) (λ (i : ℕ). eq_z (mark_at days i) (pos 0))

-- a day list as it stands in a file of kind 3: of each record the first five numbers
unfoldable pub without_marks : List ℤ → List ℤ
without_marks days = joined (length days / 6) (λ (i : ℕ). first_values 5 (λ (j : ℕ). get_or days (6 * i + j) (pos 0)))

-- the stations, the sources and the passes are right counts of whole records
unfoldable pub others_right_rule : List ℤ → List ℤ → List ℤ → Bool
others_right_rule stations sources passes = list_right_rule places 0 1 (length stations) && (list_right_rule places 1 2 (length sources) && list_right_rule places 3 4 (length passes))

module _ (kind : ℤ) (stations sources days passes : List ℤ) where
  -- the four lists as they stand in the file, and the file
  abbrev pub standing : List (List ℤ)
  standing = stations ∷ sources ∷ cond (eq_z kind (pos 3)) (without_marks days) days ∷ passes ∷ []

  unfoldable pub file_with : List ℕ
  file_with = file_of places (kinds_with_rule ∣ kind ∣) standing

  -- the refusal, the lowest that applies: 1 where a list is not right, with six numbers for a day as kind 5 has them, 2 where a mark has no place, the number that the
  -- reader gives the file, 7 where the room is too short; of any other kind of days, 2, and then how many numbers their list has is no matter
  unfoldable pub write_number : ℕ → ℕ
  write_number room =
      cond (eq_z kind (pos 3) || eq_z kind (pos 5))
      (lowest
      (unless (lists_right_rule places (kinds_with_rule 5) (stations ∷ sources ∷ days ∷ passes ∷ [])) 1
      ∷ unless (implies (eq_z kind (pos 3)) (unmarked days)) 2
      ∷ refusal_of_rule file_with
      ∷ unless (leb (length file_with) room) 7
      ∷ []))
      (lowest (unless (others_right_rule stations sources passes) 1 ∷ 2 ∷ []))

  -- the answer and the room after the call, as of `write_as`
  unfoldable pub written_of : ℕ → Number
  written_of room = answer_by (write_number room) (pos (length file_with))

  unfoldable pub room_after_rule : List ℕ → List ℕ
  room_after_rule room = cond (eqb (write_number (length room)) 0) (pasted room 0 file_with) room
