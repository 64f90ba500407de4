-- `text::table::put_refused` meets its contract. Assumes nothing.
use Rattle.std.proofs.Common.{arith}
use Rattle.text.specs.Table.{refused_line, line_of}
use Rattle.text.proofs.Puts.{put_then}
use Rattle.whole.proofs.Linear.{back}
use Rattle.text.proofs.table.put_refused.Goals as goal

pub returns : goal.returns
unfolding refused_line line_of
returns c =
    let w = c.put_word-number in
    let n = c.put_number in
    let q = simp (back c.ranges.n) at n.ensures.0 in
    put_then w.ensures (omega (arith, w.ensures.place, c.requires)) q
