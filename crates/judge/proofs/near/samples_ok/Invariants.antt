use Rattle.std.proofs.Common.{◌≡◌, ◌*◌, ◌≤◌, true, pos, ◌+ℤ◌, ◌*ℤ◌}
use Rattle.whole.specs.Whole.{pos_part, ∣◌∣}
use Rattle.whole.specs.Each.{all_below}
use Rattle.judge.specs.Judgement.{near_at}
use Rattle.judge.proofs.near.samples_ok.Given as goal

abbrev pub invariant-loop-j : goal.invariant-loop-j
invariant-loop-j l = record {
  count : l.n ≡ pos_part l.x.count;
  line_is : l.line ≡ l.x.offset +ℤ l.x.rate *ℤ pos l.j;
  size : ∣ l.x.offset +ℤ l.x.rate *ℤ pos l.j ∣ ≤ 29_000_000_000_000_000;
  near : all_below l.j (near_at l.samples.values.now (65536 * l.samples.tolerance) l.x l.at) ≡ true;
}
