-- `days::print_days` writes the text of the answer, and answers its number.
use native.Mathlib.Omega.{arith}
use lib.Seq.{length-take-le}
use Rattle.text.proofs.Puts.{put_inside, put_start}
use Rattle.days.proofs.print_days.Goals as goal

pub slice_bounds-write_days-end : goal.slice_bounds-write_days-end
slice_bounds-write_days-end c = omega (arith, put_inside c.days_text-t.ensures.0)

pub slice_bounds-write_days-end-2 : goal.slice_bounds-write_days-end-2
slice_bounds-write_days-end-2 c = omega (arith, length-take-le _ _ (put_inside c.days_text-t.ensures.0))

pub write_days-whole-requires : goal.write_days-whole-requires
write_days-whole-requires c = put_start c.days_text-t.ensures.0
