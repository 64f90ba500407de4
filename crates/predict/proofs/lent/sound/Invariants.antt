use Rattle.std.proofs.Common.{◌≡◌, ◌*◌, ◌≤◌, drop}
use Rattle.predict.specs.Lent.{lent_of, sound_from}
use Rattle.predict.proofs.lent.sound.Given as goal

abbrev pub invariant-loop-i : goal.invariant-loop-i
invariant-loop-i l = record {
  samples : l.at ≤ 4096;
  left : sound_from 0 (lent_of l.track) ≡ sound_from l.at (lent_of (drop (4 * l.i) l.track));
}
