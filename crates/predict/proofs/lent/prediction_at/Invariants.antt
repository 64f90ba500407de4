use Rattle.std.proofs.Common.{◌≡◌, true, ◌*◌, ◌≤◌, drop}
use Rattle.predict.specs.Lent.{lent_of, sound_from, answer_at}
use Rattle.predict.proofs.lent.prediction_at.Given as goal

abbrev pub invariant-loop-i : goal.invariant-loop-i
invariant-loop-i l = record {
  samples : l.at ≤ 4096;
  before : l.at ≤ l.sample;
  sound : sound_from l.at (lent_of (drop (4 * l.i) l.track)) ≡ true;
  left : answer_at (lent_of l.track) l.sample ≡ answer_at (lent_of (drop (4 * l.i) l.track)) l.sample;
}
