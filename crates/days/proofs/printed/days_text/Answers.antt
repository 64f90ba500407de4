-- `days::printed::days_text` puts the text of the answer.
use mathlib.Core.Path.{◌≡◌, sym, ap, ap₂, subst, ◌∙◌}
use mathlib.Core.Bool.{true, false}
use mathlib.Core.List.{List}
use Prim.Native.Nat.{ℕ}
use native.Mathlib.Omega.{arith}
use lib.IntN.{ℤ, pos}
use lib.Signed.{le_z}
use mir.Syntax.{w64}
use mir.Val.{to_z, of_z, SFits}
use Rattle.whole.specs.Whole.{pos_part, neg_part}
use Rattle.whole.proofs.Linear.{back}
use Rattle.text.specs.Put.{Put}
use Rattle.text.specs.Table.{row_lines, refused_line}
use Rattle.bulletin.specs.declared.Days.{Days}
use Rattle.bulletin.specs.Reading.{days_outcome}
use Rattle.days.proofs.TextLaws.{refused_text, answered_text, answered_few}
use Rattle.days.proofs.printed.days_text.Goals as goal

module _ (rows : List ℕ) (first count : ℤ) (tai : List ℤ) (f : SFits w64 first) (k : SFits w64 count) (r : Days) where
  -- what `days_from_rows` answers
  outcome-is : r ≡ days_outcome rows (to_z w64 (of_z w64 first)) (to_z w64 (of_z w64 count)) tai → r ≡ days_outcome rows first count tai
  outcome-is e = e ∙ ap₂ (λ (d n : ℤ). days_outcome rows d n tai) (back f) (back k)

  refusal_is : SFits w64 r.refusal → r ≡ days_outcome rows (to_z w64 (of_z w64 first)) (to_z w64 (of_z w64 count)) tai → to_z w64 (of_z w64 r.refusal) ≡ (days_outcome rows first count tai).refusal
  refusal_is h e = back h ∙ ap (λ (q : Days). q.refusal) (outcome-is e)

pub returns-then-n-ge1 : goal.returns-then-n-ge1
returns-then-n-ge1 c =
    let rows = c.args.rows.now in
    let first = c.args.a.first in
    let count = c.args.a.count in
    let tai = c.args.a.tai.now in
    let n = c.put_refused in
    let e = refusal_is rows first count tai (record { sfits = omega arith }) (record { sfits = omega arith }) c.days_from_rows-d.result (record { sfits = omega arith }) c.days_from_rows-d.ensures in
    let y : le_z (pos 1) (days_outcome rows first count tai).refusal ≡ true = ap (le_z (pos 1)) (sym e) ∙ c.if-n-ge1.true in
    let w = ap refused_line e ∙ sym (refused_text rows first count tai y) in
    (subst (λ (bs : List ℕ). Put c.args.room.now 0 bs n.new.room n.result) w n.ensures, e)

pub put_days-requires : goal.put_days-requires
put_days-requires c =
    let rows = c.args.rows.now in
    let first = c.args.a.first in
    let count = c.args.a.count in
    let tai = c.args.a.tai.now in
    let e = refusal_is rows first count tai (record { sfits = omega arith }) (record { sfits = omega arith }) c.days_from_rows-d.result (record { sfits = omega arith }) c.days_from_rows-d.ensures in
    -- it is given, and has no more than 64 records
    let f = answered_few rows first count tai (ap (le_z (pos 1)) (sym e) ∙ c.if-n-ge1.false) in
    let b = back {z = count} (record { sfits = omega arith }) in
    (omega (arith, f.0, ap pos_part b), omega (arith, f.1, ap neg_part b), omega arith, omega arith)

pub returns : goal.returns
returns c =
    let rows = c.args.rows.now in
    let first = c.args.a.first in
    let count = c.args.a.count in
    let tai = c.args.a.tai.now in
    let g = c.put_days in
    let e = refusal_is rows first count tai (record { sfits = omega arith }) (record { sfits = omega arith }) c.days_from_rows-d.result (record { sfits = omega arith }) c.days_from_rows-d.ensures in
    let is = outcome-is rows first count tai (record { sfits = omega arith }) (record { sfits = omega arith }) c.days_from_rows-d.result c.days_from_rows-d.ensures in
    let y : le_z (pos 1) (days_outcome rows first count tai).refusal ≡ false = ap (le_z (pos 1)) (sym e) ∙ c.if-n-ge1.false in
    let b = back {z = count} (record { sfits = omega arith }) in
    let w = ap₂ (row_lines 6) (ap (λ (r : Days). r.days) is) (ap pos_part b) ∙ sym (answered_text rows first count tai y) in
    (subst (λ (bs : List ℕ). Put c.args.room.now 0 bs g.new.room g.result) w g.ensures, e)
