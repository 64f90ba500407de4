-- The writer's answer and room, by the way that the call ends. Assumes nothing.
use mathlib.Core.Path.{◌≡◌, sym, ◌∙◌}
use Prim.Native.Nat.{ℕ, ◌≤◌, ◌<◌}
use native.Mathlib.Omega.{arith}
use mathlib.Core.Bool.{true, false}
use mathlib.Core.List.{List, [], ◌∷◌}
use lib.ListN.{length}
use lib.IntN.{ℤ, pos}
use lib.Dec.{leb}
use borrow.Author.Tests.{le-leb, lt-leb, leb-true, ne_eqb}
use Rattle.whole.specs.Answers.{number, no_number_rule}
use Rattle.whole.specs.Refusals.{unless, first_of}
use Rattle.whole.proofs.Answers.{answer_no, answer_yes, answer-refusal}
use Rattle.whole.proofs.Refusals.{end, some, test, in_order, unless_zero, first_zero, first_is}
use Rattle.text.specs.Bytes.{pasted}
use Rattle.sections.specs.Layouts.{Table}
use Rattle.sections.specs.File.{refusal_by}
use Rattle.sections.proofs.Shapes.{Good}
use Rattle.sections.proofs.Accepted.{refusal-most}
use Rattle.writer.specs.declared.Kinds.{Kinds}
use Rattle.writer.specs.Writing.{lists_right_rule, file_of, write_refusal, written_as_rule, room_as}

module _ {t : Table} (g : Good t) (k : Kinds) (ls : List (List ℤ)) where
  -- ---- the number, test by test: the lists, the reader's number of the file, the room

  module _ (room : ℕ) where
    pub by_turn : write_refusal t k ls room ≡ first_of (unless (lists_right_rule t k ls) 1 ∷ refusal_by t (file_of t k ls) ∷ unless (leb (length (file_of t k ls)) room) 7 ∷ [])
    unfolding write_refusal
    by_turn =
        in_order
        (test 0 1 (lists_right_rule t k ls) (omega arith)
        (some {low = 1} {n = refusal_by t (file_of t k ls)} 4 (omega arith) (λ f. (omega (arith, f), refusal-most g (file_of t k ls)))
        (test 4 7 (leb (length (file_of t k ls)) room) (omega arith) end)))

    pub by_lists : lists_right_rule t k ls ≡ false → write_refusal t k ls room ≡ 1
    by_lists h = by_turn ∙ rw h

    module _ (s : lists_right_rule t k ls ≡ true) where
      pub by_reader : (refusal_by t (file_of t k ls) ≡ 0 → ⊥) → write_refusal t k ls room ≡ refusal_by t (file_of t k ls)
      by_reader h = by_turn ∙ rw s (first_is (refusal_by t (file_of t k ls)) (unless (leb (length (file_of t k ls)) room) 7 ∷ []) h)

      module _ (r : refusal_by t (file_of t k ls) ≡ 0) where
        pub by_short : room < length (file_of t k ls) → write_refusal t k ls room ≡ 7
        by_short h = by_turn ∙ rw (s, r, lt-leb (length (file_of t k ls)) room h)

        pub by_file : length (file_of t k ls) ≤ room → write_refusal t k ls room ≡ 0
        by_file h = by_turn ∙ rw (s, r, le-leb (length (file_of t k ls)) room h)

    -- what a call that is not refused says
    pub accepted : write_refusal t k ls room ≡ 0 → (lists_right_rule t k ls ≡ true) × (refusal_by t (file_of t k ls) ≡ 0) × (length (file_of t k ls) ≤ room)
    accepted h =
        let room-test = unless (leb (length (file_of t k ls)) room) 7 in
        let a = first_zero (unless (lists_right_rule t k ls) 1) (refusal_by t (file_of t k ls) ∷ room-test ∷ []) (sym by_turn ∙ h) in
        let b = first_zero (refusal_by t (file_of t k ls)) (room-test ∷ []) a.1 in
        let c = first_zero room-test [] b.1 in
        (unless_zero (lists_right_rule t k ls) 0 a.0, b.0, leb-true _ _ (unless_zero (leb (length (file_of t k ls)) room) 6 c.0))

  -- ---- the answer and the room, by the number

  module _ (room : List ℕ) where
    -- refused, the answer is the number and the room stays
    pub answer-none : (write_refusal t k ls (length room) ≡ 0 → ⊥) → written_as_rule t k ls (length room) ≡ no_number_rule (write_refusal t k ls (length room))
    unfolding written_as_rule
    answer-none h = answer_no _ _ h

    pub room_stays : (write_refusal t k ls (length room) ≡ 0 → ⊥) → room_as t k ls room ≡ room
    unfolding room_as
    room_stays h = rw (ne_eqb _ 0 h)

    -- not refused, the answer is the file's length and the room holds it
    pub answer-long : write_refusal t k ls (length room) ≡ 0 → written_as_rule t k ls (length room) ≡ number (pos (length (file_of t k ls)))
    unfolding written_as_rule
    answer-long h = answer_yes _ _ h

    pub room-written : write_refusal t k ls (length room) ≡ 0 → room_as t k ls room ≡ pasted room 0 (file_of t k ls)
    unfolding room_as
    room-written h = rw h

    -- the number that the answer has
    pub answer-number : (written_as_rule t k ls (length room)).refusal ≡ pos (write_refusal t k ls (length room))
    unfolding written_as_rule
    answer-number = answer-refusal _ _
