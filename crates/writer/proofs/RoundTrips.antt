-- The two round trips, over any kinds, any lists of 64-bit numbers and any bytes. Assumes nothing.
use mathlib.Core.Path.{◌≡◌, refl, sym, ap, ◌∙◌}
use Prim.Native.Nat.{ℕ, zero, suc, ◌≤◌, ◌<◌}
use native.Mathlib.Nat.{zero-add}
use native.Mathlib.Omega.{arith}
use mathlib.Core.List.{List, [], ◌∷◌}
use lib.ListN.{length}
use lib.IntN.{ℤ, pos, nat_abs}
use Rattle.whole.specs.declared.Number.{Number}
use Rattle.whole.specs.Answers.{number}
use Rattle.text.specs.Bytes.{pasted}
use Rattle.text.specs.Put.{Put}
use Rattle.text.proofs.Puts.{put_start}
use Rattle.text.proofs.Numbers.{Bytes}
use Rattle.sections.specs.Layouts.{places}
use Rattle.sections.specs.File.{refusal_of_rule, kind_of}
use Rattle.sections.proofs.Shapes.{today}
use Rattle.writer.specs.declared.Kinds.{Kinds}
use Rattle.writer.specs.Writing.{kind_at, list_at, file_of, write_refusal, written_as_rule, room_as}
use Rattle.writer.specs.Handed.{rows_in}
use Rattle.writer.specs.Round.{Longs, wrote_as, ReadBackAs, kinds_in, WrittenBackAs}
use Rattle.writer.proofs.Outcomes.{accepted, by_file, answer-long, answer-number, room-written}
use Rattle.writer.proofs.Made.{kind-made, rows_made}
use Rattle.writer.proofs.Again.{written_again, lists_again}

-- ---- what is written is read back

module _ (k : Kinds) (ls : List (List ℤ)) (room : List ℕ) where
  pub read_back_as : ((p : ℕ) → p < 4 → Longs (list_at ls p)) → ReadBackAs k ls room
  read_back_as f e =
      let none : write_refusal places k ls (length room) ≡ 0 = ap nat_abs (sym (answer-number today k ls room) ∙ e) in
      let w = accepted today k ls (length room) none in
      let whole : Put room 0 (file_of places k ls) (room_as places k ls room) (nat_abs (written_as_rule places k ls (length room)).value) = record { bytes = room-written today k ls room none; place = ap (λ (a : Number). nat_abs a.value) (answer-long today k ls room none) ∙ sym (zero-add _) } in
      let same : wrote_as k ls room ≡ file_of places k ls = put_start whole in
      rw same (record { accepted = w.1; kind = kind-made today k ls; rows = λ p l. rows_made today k ls w.0 p l (f p l) })

-- ---- what is accepted is what is written

-- of any kinds and lists that are those of the file
pub written_as : (s : List ℕ) → Bytes s → (k : Kinds) (ls : List (List ℤ)) → ((p : ℕ) → p < 4 → kind_at k p ≡ kind_of s p) → ((p : ℕ) → p < 4 → list_at ls p ≡ rows_in places s p)
    → refusal_of_rule s ≡ 0 → (room : List ℕ) → length s ≤ length room
    → (number (pos (length s)) ≡ written_as_rule places k ls (length room)) × (pasted room 0 s ≡ room_as places k ls room)
written_as s b k ls same rows h room l =
    let e = written_again today s h k ls same rows b in
    let none : write_refusal places k ls (length room) ≡ 0 = by_file today k ls (length room) (lists_again today s h k ls same rows) (ap refusal_of_rule e ∙ h) (rw e l) in
    (sym (answer-long today k ls room none ∙ ap (λ (x : List ℕ). number (pos (length x))) e), sym (room-written today k ls room none ∙ ap (pasted room 0) e))

-- what holds of each of the four places
pub each-place : (P : ℕ → Type 0) → P 0 → P 1 → P 2 → P 3 → (p : ℕ) → p < 4 → P p
each-place P a b c d zero l = a
each-place P a b c d (suc zero) l = b
each-place P a b c d (suc (suc zero)) l = c
each-place P a b c d (suc (suc (suc zero))) l = d
each-place P a b c d (suc (suc (suc (suc p)))) l = absurd (omega arith)

pub written_back_as : (s : List ℕ) → Bytes s → WrittenBackAs s
written_back_as s b h room l =
    written_as s b (kinds_in s) (rows_in places s 0 ∷ rows_in places s 1 ∷ rows_in places s 2 ∷ rows_in places s 3 ∷ [])
    (each-place (λ (p : ℕ). kind_at (kinds_in s) p ≡ kind_of s p) refl refl refl refl)
    (each-place (λ (p : ℕ). list_at (rows_in places s 0 ∷ rows_in places s 1 ∷ rows_in places s 2 ∷ rows_in places s 3 ∷ []) p ≡ rows_in places s p) refl refl refl refl)
    h room l
