use Rattle.std.proofs.Common.{◌≡◌, ◌++◌, ◌*◌, ◌/◌, ◌≤◌, length, drop}
use Rattle.whole.specs.Values.{first_values}
use Rattle.writer.proofs.WithoutMarks.{kept_at}
use Rattle.writer.proofs.marks.put_unmarked.Given as goal

abbrev pub invariant-loop-i : goal.invariant-loop-i
invariant-loop-i l = record {
  all : l.n ≡ 5 * (length l.days / 6);
  enough : l.n ≤ length l.fn.room;
  same : length l.room ≡ length l.fn.room;
  so_far : l.room ≡ first_values l.i (kept_at l.days) ++ drop l.i l.fn.room;
}
