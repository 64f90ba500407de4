-- `bulletin::putting::put_rows` meets its contract: the rows of the records passed stand at the start of the room. Assumes nothing.
use mathlib.Core.Path.{◌≡◌, refl, sym, ap, ap₂, ◌∙◌}
use mathlib.Core.List.{List}
use Prim.Native.Nat.{ℕ, ◌*◌}
use native.Mathlib.Numerals.{add-one}
use native.Mathlib.Omega.{arith}
use lib.IntN.{ℤ}
use Rattle.whole.specs.Values.{joined}
use Rattle.text.specs.Bytes.{pasted}
use Rattle.text.proofs.Paste.{pasted-none}
use Rattle.fields.specs.declared.Day.{Day}
use Rattle.bulletin.specs.Writing.{row_for_rule, record_at_rule, records_in, can_stand_rule, rows_text}
use Rattle.bulletin.proofs.RowText.{row_long, rows_next}
use Rattle.bulletin.proofs.Standing.{right_stands}
use Rattle.bulletin.proofs.putting.put_rows.Goals as goal

-- the row that the code made
module _ (numbers : List ℤ) (i : ℕ) {d : Day} {row : List ℕ} (e : d ≡ record_at_rule numbers i) (r : row ≡ row_for_rule d) where
  row_is : row ≡ row_for_rule (record_at_rule numbers i)
  row_is = r ∙ ap row_for_rule e

pub loop-i-init : goal.loop-i-init
unfolding joined
loop-i-init c = (sym (pasted-none _ _), refl)

pub row_for-requires : goal.row_for-requires
row_for-requires c = ap can_stand_rule c.record_at.ensures ∙ right_stands c.args.numbers.now c.requires.0 c.loop-i.i c.loop-i-test.true

pub loop-i-preserved : goal.loop-i-preserved
loop-i-preserved c =
    let numbers = c.args.numbers.now in
    let room = c.args.room.now in
    let i = c.loop-i.i in
    let f : ℕ → List ℕ = λ (k : ℕ). row_for_rule (record_at_rule numbers k) in (
      c.copy.ensures
          ∙ ap₂ (λ (d bs : List ℕ). pasted d (186 * i) bs) c.loop-i.invariant.0 (row_is numbers i c.record_at.ensures c.row_for.ensures)
          ∙ rows_next room f i (λ k m. row_long (record_at_rule numbers k) (right_stands numbers c.requires.0 k (omega (arith, m, c.loop-i-test.true)))) (omega (arith, c.loop-i-test.true, c.requires.1))
          ∙ ap (λ (k : ℕ). pasted room 0 (joined k f)) (sym (add-one i)),
      c.copy.auto.d ∙ c.loop-i.invariant.1,
    )

pub returns : goal.returns
unfolding rows_text
returns c =
    let e : c.loop-i.i ≡ records_in c.args.numbers.now = omega (arith, c.loop-i.auto.i-end, c.loop-i-test.false) in
    c.loop-i.invariant.0 ∙ ap (λ (k : ℕ). pasted c.args.room.now 0 (joined k (λ (j : ℕ). row_for_rule (record_at_rule c.args.numbers.now j)))) e
