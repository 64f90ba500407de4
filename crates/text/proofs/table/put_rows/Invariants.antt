use Rattle.std.proofs.Common.{◌≡◌, ◌+◌, ◌*◌, ◌≤◌, length, take, drop}
use Rattle.std.specs.Slice.Iter.{chunks_exact_rest, chunks_exact_size}
use Rattle.text.specs.Put.{Put}
use Rattle.text.specs.Table.{row_lines}
use Rattle.text.proofs.table.put_rows.Given as goal

abbrev pub invariant-loop-row : goal.invariant-loop-row
invariant-loop-row l = record {
  size : chunks_exact_size l.row-iterator ≡ l.w;
  left : chunks_exact_rest l.row-iterator ≡ drop (l.w * length l.yielded) (take (l.w * l.m) l.numbers);
  long : l.w * length l.yielded + length (chunks_exact_rest l.row-iterator) ≡ l.w * l.m;
  put : Put l.initial.room l.at (row_lines l.w l.numbers (length l.yielded)) l.room l.end;
  most : l.end ≤ l.at + 21 * (l.w * length l.yielded);
}
