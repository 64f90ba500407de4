-- `text::table::put_row` meets its contract. Assumes nothing.
use Rattle.std.proofs.Common.{◌≡◌, ◌≤◌, length, take, get_or, ℕ, ℤ, pos, List, [], ◌∷◌, ◌++◌, sym, ap, ◌∙◌, ◌+◌, subst, arith, rules}
use Rattle.std.specs.Int.{w64}
use mir.Val.{SFits}
use Rattle.std.proofs.lemmas.List.{take_all}
use Rattle.text.specs.Decimal.{decimal}
use Rattle.text.specs.Put.{Put}
use Rattle.text.specs.Table.{row_line}
use Rattle.text.proofs.NumberRows.{spaced, spaced_next, row_last}
use Rattle.text.proofs.Puts.{put_then, put_none}
use Rattle.whole.proofs.Linear.{back}
use Rattle.text.proofs.table.put_row.Goals as goal

pub loop-z-init : goal.loop-z-init
unfolding spaced
loop-z-init c = (put_none _ _, search rules)

pub loop-z-preserved : goal.loop-z-preserved
loop-z-preserved c =
    let l = c.loop-z in
    let n = c.put_number-end in
    let d = c.args.room.now in
    let zs = c.in-Some.before.now in
    let z = get_or zs l.z-index (pos 0) in
    let f : SFits w64 z = search rules in
    let h : l.end ≤ length d = omega (arith, l.invariant.1, c.in-Some.ensures.cases.1, c.requires.1) in
    let e : spaced (take l.z-index zs) ++ (decimal z ++ (32 ∷ [])) ≡ spaced (take (l.z-index + 1) zs) = sym (spaced_next zs l.z-index c.loop-z-test.true) in
    let p = put_then l.invariant.0 h (rw (back f) at n.ensures.0) in
    (subst (λ (bs : List ℕ). Put d c.args.at bs n.new.room n.result) e p, omega (arith, n.ensures.1, l.invariant.1))

pub returns : goal.returns
returns c =
    let l = c.loop-z in
    let n = c.put_number in
    let d = c.args.room.now in
    let zs = c.in-Some.before.now in
    let z = c.in-Some.last.now in
    let f : SFits w64 z = search rules in
    let h : l.end ≤ length d = omega (arith, l.invariant.1, c.in-Some.ensures.cases.1, c.requires.1) in
    let t : take l.z-index zs ≡ zs = take_all l.z-index zs c.loop-z-test.false in
    let e = ap (λ (ys : List ℤ). spaced ys ++ (decimal z ++ (10 ∷ []))) t ∙ sym (row_last zs z) ∙ ap row_line (sym c.in-Some.ensures.cases.0) in
    let p = put_then l.invariant.0 h (rw (back f) at n.ensures.0) in
    (subst (λ (bs : List ℕ). Put d c.args.at bs n.new.room n.result) e p, omega (arith, n.ensures.1, l.invariant.1, c.in-Some.ensures.cases.1))
