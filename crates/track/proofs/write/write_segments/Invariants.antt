use Rattle.std.proofs.Common.{◌-◌, ◌≡◌, ◌++◌, ◌+◌, ◌*◌, ◌≤◌, length, take, drop}
use Rattle.track.specs.Segments.{flat}
use Rattle.track.specs.Made.{track_of, start_at}
use Rattle.track.proofs.Runs.{rest_of}
use Rattle.track.proofs.write.write_segments.Given as goal

abbrev pub invariant-loop-m : goal.invariant-loop-m
invariant-loop-m l = record {
  first : l.f ≤ length l.samples.values.now;
  fewer : l.m ≤ l.f;
  left : l.m + length (rest_of l.samples.values.now l.samples.tolerance (length l.samples.values.now - l.m) l.f) ≡ length (track_of l.samples.values.now l.samples.tolerance);
  room_len : length l.room ≡ length l.fn.room;
  ahead : drop (4 * l.m) (flat (track_of l.samples.values.now l.samples.tolerance)) ≡ flat (rest_of l.samples.values.now l.samples.tolerance (length l.samples.values.now - l.m) l.f);
  so_far : l.room ≡ take (4 * l.m) (flat (track_of l.samples.values.now l.samples.tolerance)) ++ drop (4 * l.m) l.fn.room;
  start : l.f ≡ start_at l.samples.values.now l.samples.tolerance l.m;
}
