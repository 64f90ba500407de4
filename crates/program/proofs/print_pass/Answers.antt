-- `program::print_pass` writes the pass's text and answers the pass's number.
use native.Mathlib.Omega.{arith}
use lib.Seq.{length-take-le}
use Rattle.text.proofs.Puts.{put_inside, put_start}
use Rattle.program.proofs.print_pass.Goals as goal

pub slice_bounds-write_pass-end : goal.slice_bounds-write_pass-end
slice_bounds-write_pass-end c = omega (arith, put_inside c.pass_text-t.ensures.0)

pub slice_bounds-write_pass-end-then-written-i : goal.slice_bounds-write_pass-end-then-written-i
slice_bounds-write_pass-end-then-written-i c = omega (arith, length-take-le _ _ (put_inside c.pass_text-t.ensures.0))

pub write_pass-requires : goal.write_pass-requires
write_pass-requires c = put_start c.pass_text-t.ensures.0
