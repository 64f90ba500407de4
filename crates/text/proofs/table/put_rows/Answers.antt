-- `text::table::put_rows` meets its contract. Assumes nothing.
use Rattle.std.proofs.Common.{◌≡◌, ◌*◌, ◌≤◌, length, take, drop, ℕ, List, [], ◌∷◌, ap, ◌∙◌, subst, arith, rules, length-append, length-take-le}
use Rattle.std.specs.Slice.Iter.{chunks_exact_rest}
use Rattle.text.specs.Put.{Put}
use Rattle.text.specs.Table.{row_lines}
use Rattle.text.proofs.NumberRows.{rows_done, row_next, row_more, row_behind, rows_next}
use Rattle.text.proofs.Puts.{put_then, put_none}
use Rattle.text.proofs.table.put_rows.Goals as goal

pub loop-row-init : goal.loop-row-init
unfolding row_lines
loop-row-init c =
    let zs = c.args.numbers.now in
    let n = c.args.w * c.args.m in
    let e : chunks_exact_rest c.into_iter-row-iterator.result ≡ take n zs = rw c.into_iter-row-iterator.ensures.into_iter_gives c.chunks_exact-row-items.ensures.rest in
    let l : length (take n zs) ≡ n = length-take-le n zs c.requires.2 in
    let z : 0 ≡ c.args.w * 0 = omega arith in
    record { size = search rules; left = e ∙ ap (λ (k : ℕ). drop k (take n zs)) z; long = omega (arith, ap length e, l); put = put_none _ _; most = omega arith }

pub loop-row-preserved : goal.loop-row-preserved
loop-row-preserved c =
    let l = c.loop-row in
    let i = l.invariant in
    let j = length l.yielded in
    let w = c.args.w in
    let zs = c.args.numbers.now in
    let d = c.args.room.now in
    let row = c.in-Some.row.now in
    let s = c.in-Some.ensures.steps in
    let n = c.put_row-end in
    let k : length row ≡ w = s.1.1 ∙ i.size in
    let t = row_next w j c.args.m zs _ i.long i.left row _ s.1.0 k in
    let h : l.end ≤ length d = omega (arith, i.long, i.most, c.requires.1) in
    let p = subst (λ (bs : List ℕ). Put d c.args.at bs n.new.room n.result) (rows_next w j zs row t) (put_then i.put h n.ensures.0) in
    rw (length-append l.yielded (c.in-Some.row ∷ []))
    record {
      size = s.0 ∙ i.size;
      left = row_behind w j c.args.m zs _ i.long i.left row _ s.1.0 k;
      long = row_more w j c.args.m zs _ i.long i.left row _ s.1.0 k;
      put = p;
      most = omega (arith, n.ensures.1, i.most, k);
    }

pub returns : goal.returns
returns c =
    let l = c.loop-row in
    let i = l.invariant in
    let w = c.args.w in
    let s = c.in-None.ensures.steps in
    let e = rows_done w (length l.yielded) c.args.m (length (chunks_exact_rest l.row-iterator)) i.long (omega (arith, s.1.0, i.size)) in
    (subst (λ (k : ℕ). Put c.args.room.now c.args.at (row_lines w c.args.numbers.now k) l.room l.end) e i.put, rw (← e) i.most)
