-- `write` by the kind of the days. Assumes nothing.
use mathlib.Core.Path.{◌≡◌, refl, sym, ap, ◌∙◌}
use Prim.Native.Nat.{ℕ, suc, ◌<◌}
use native.Mathlib.Omega.{arith}
use mathlib.Core.Bool.{Bool, true, false, ◌||◌, cond}
use mathlib.Core.List.{List, [], ◌∷◌}
use lib.ListN.{length}
use lib.IntN.{ℤ, pos}
use mir.Syntax.{w64}
use mir.Val.{of_z}
use borrow.Author.Tests.{ne_eqb}
use Rattle.whole.specs.declared.Number.{Number}
use Rattle.whole.specs.Whole.{∣◌∣}
use Rattle.whole.specs.Ranges.{eq_z}
use Rattle.whole.specs.Answers.{no_number_rule, answer_by}
use Rattle.whole.proofs.Order.{eq_z_true, not_so}
use Rattle.whole.proofs.Answers.{answer_no, answer-refusal}
use Rattle.sections.specs.Layouts.{places}
use Rattle.writer.specs.Writing.{list_at, kinds_with_rule, without_marks, standing, file_of, file_with, others_right_rule, write_refusal, written_as_rule, room_as, write_number, written_of, room_after_rule}
use Rattle.writer.specs.Promises.{WriteAsPromise, WritePromise}
use Rattle.writer.specs.Round.{Longs, Keeps, wrote}
use Rattle.writer.proofs.RoundTrips.{read_back_as}

module _ (kind : ℤ) (p q r t : List ℤ) where
  -- a refused call
  pub refused_by : (room : List ℕ) (n : ℕ) {w : Number} → w ≡ no_number_rule (suc n) → write_number kind p q r t (length room) ≡ suc n → WritePromise kind p q r t room w room
  unfolding written_of room_after_rule
  refused_by room n e f =
      let no : (write_number kind p q r t (length room) ≡ 0 → ⊥) = λ z. omega (arith, z, f) in
      (e ∙ ap no_number_rule (sym f) ∙ sym (answer_no _ _ no), sym (rw (ne_eqb _ 0 no)))

  -- where the number is that of `write_as` for the lists as they stand in the file, so are the answer and the room
  module _ (room : List ℕ) (e : write_number kind p q r t (length room) ≡ write_refusal places (kinds_with_rule ∣ kind ∣) (standing kind p q r t) (length room)) where
    pub same_answer : written_of kind p q r t (length room) ≡ written_as_rule places (kinds_with_rule ∣ kind ∣) (standing kind p q r t) (length room)
    unfolding written_of written_as_rule file_with
    same_answer = ap (λ (n : ℕ). answer_by n (pos (length (file_of places (kinds_with_rule ∣ kind ∣) (standing kind p q r t))))) e

    pub same-room : room_after_rule kind p q r t room ≡ room_as places (kinds_with_rule ∣ kind ∣) (standing kind p q r t) room
    unfolding room_after_rule room_as file_with
    same-room = rw e

    pub as_standing : (w : Number) (after : List ℕ)
        → WriteAsPromise (kinds_with_rule ∣ kind ∣) p q (cond (eq_z kind (pos 3)) (without_marks r) r) t room w after → WritePromise kind p q r t room w after
    as_standing w after h = (h.0 ∙ sym same_answer, h.1 ∙ sym same-room)

    -- and what is written keeps those lists
    pub keeps_standing : ((i : ℕ) → i < 4 → Longs (list_at (standing kind p q r t) i)) → (written_of kind p q r t (length room)).refusal ≡ pos 0
        → Keeps (kinds_with_rule ∣ kind ∣) (standing kind p q r t) (wrote kind p q r t room)
    keeps_standing f h =
        rw (same_answer, same-room) (read_back_as (kinds_with_rule ∣ kind ∣) (standing kind p q r t) room f (ap (λ (a : Number). a.refusal) (sym same_answer) ∙ h))

  pub answered : (room : ℕ) → (written_of kind p q r t room).refusal ≡ pos (write_number kind p q r t room)
  unfolding written_of
  answered room = answer-refusal _ _

  -- of a kind that is none for days
  module _ (room : ℕ) (o : (eq_z kind (pos 3) || eq_z kind (pos 5)) ≡ false) where
    pub other_lists : others_right_rule p q t ≡ false → write_number kind p q r t room ≡ 1
    unfolding write_number
    other_lists h = rw (o, h)

    pub other_kind : others_right_rule p q t ≡ true → write_number kind p q r t room ≡ 2
    unfolding write_number
    other_kind h = rw (o, h)

    pub other_refused : write_number kind p q r t room ≡ 0 → ⊥
    other_refused z = by (others_right_rule p q t) refl
      where
        by : (b : Bool) → others_right_rule p q t ≡ b → ⊥
        by true h = omega (arith, z, other_kind h)
        by false h = omega (arith, z, other_lists h)

-- as the code tells it
pub other_by_lem : (kind : ℤ) → (of_z w64 kind ≡ 3 → ⊥) → (of_z w64 kind ≡ 5 → ⊥) → (eq_z kind (pos 3) || eq_z kind (pos 5)) ≡ false
other_by_lem kind a b =
    rw (not_so (eq_z kind (pos 3)) (λ e. a (ap (of_z w64) (eq_z_true kind (pos 3) e))), not_so (eq_z kind (pos 5)) (λ e. b (ap (of_z w64) (eq_z_true kind (pos 5) e))))

-- of kind 5
pub number_five : (p q r t : List ℤ) (room : ℕ) → write_number (pos 5) p q r t room ≡ write_refusal places (kinds_with_rule 5) (p ∷ q ∷ r ∷ t ∷ []) room
unfolding write_number write_refusal file_with
number_five p q r t room = refl
