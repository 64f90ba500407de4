use Rattle.std.proofs.Common.{◌≡◌, ◌*◌, ◌≤◌, true, length, drop}
use Rattle.predict.specs.Lent.{lent_of}
use Rattle.judge.specs.Judgement.{judged_from, ranges_ok_rule}
use Rattle.judge.proofs.faults.first_fault.Given as goal

abbrev pub invariant-loop-i : goal.invariant-loop-i
invariant-loop-i l = record {
  samples : l.at ≤ length l.samples.values.now;
  ranges : ranges_ok_rule (lent_of (drop (4 * l.i) l.track)) ≡ true;
  left : judged_from l.samples.values.now l.samples.tolerance 0 0 (lent_of l.track) ≡ judged_from l.samples.values.now l.samples.tolerance l.at l.i (lent_of (drop (4 * l.i) l.track));
}
