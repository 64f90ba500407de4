use Rattle.std.proofs.Common.{◌-◌, ◌≡◌, ◌≤◌, length, ◌+◌}
use Rattle.track.specs.Made.{track_of, start_at, Stored}
use Rattle.track.proofs.Runs.{rest_of}
use Rattle.track.proofs.count.count_segments.Given as goal

abbrev pub invariant-loop-f : goal.invariant-loop-f
invariant-loop-f l = record {
  first : l.f ≤ l.n;
  fewer : l.m ≤ l.f;
  left : l.m + length (rest_of l.samples.values.now l.samples.tolerance (length l.samples.values.now - l.m) l.f) ≡ length (track_of l.samples.values.now l.samples.tolerance);
  start : l.f ≡ start_at l.samples.values.now l.samples.tolerance l.m;
  counts_len : length l.runs.counts ≡ 2048;
  least_len : length l.runs.least ≡ 2048;
  stored : Stored l.samples.values.now l.samples.tolerance l.runs.counts l.runs.least l.m;
}

abbrev pub decreases-loop-f : goal.decreases-loop-f
decreases-loop-f l = l.n - l.f
