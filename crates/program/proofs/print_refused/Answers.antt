-- `program::print_refused` writes the file's whole text.
use mathlib.Core.Path.{sym, ap, ◌∙◌}
use native.Mathlib.Omega.{arith}
use lib.Seq.{length-take-le}
use Rattle.whole.proofs.Linear.{back}
use Rattle.text.specs.Table.{refused_line}
use Rattle.text.proofs.Puts.{put_inside, put_start}
use Rattle.program.proofs.print_refused.Goals as goal

pub slice_bounds-write_session-end : goal.slice_bounds-write_session-end
slice_bounds-write_session-end c = put_inside c.put_refused-end.ensures

pub slice_bounds-write_session-end-2 : goal.slice_bounds-write_session-end-2
slice_bounds-write_session-end-2 c = sym (length-take-le _ _ (put_inside c.put_refused-end.ensures))

pub write_session-requires : goal.write_session-requires
write_session-requires c =
    put_start c.put_refused-end.ensures ∙ ap refused_line (back (record { sfits = omega arith }) ∙ c.number.ensures) ∙ sym c.requires.1
