use Rattle.std.proofs.Common.{◌≡◌, ℕ, ◌++◌, drop}
use Rattle.whole.specs.Values.{first_values}
use Rattle.delay.specs.Keeping.{delay_at_rule}
use Rattle.delay.specs.Sessions.{sample_epoch_rule}
use Rattle.delay.proofs.pass.SessionPass.write_samples.Given as goal

abbrev pub invariant-loop-i : goal.invariant-loop-i
invariant-loop-i l =
    (l.room ≡ first_values l.i (λ (j : ℕ). delay_at_rule l.self.session.file.now l.v (sample_epoch_rule l.self.pass j)) ++ drop l.i l.initial.room)
    × (l.kept.days.session.file.now ≡ l.self.session.file.now)
