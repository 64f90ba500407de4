-- `delay::records::covers` meets its contract.
use Rattle.std.proofs.Common.{ℤ, pos, ◌≤◌, sym, ◌∙◌}
use Rattle.whole.specs.Whole.{∣◌∣}
use Rattle.whole.proofs.Linear.{back}
use Rattle.whole.proofs.Machine.{M, lit, var, ◌⊞◌, is}
use Rattle.delay.specs.Sessions.{covers}
use Rattle.delay.proofs.records.covers.Goals as goal

abbrev tomorrow : (d : ℤ) → ∣ d ∣ ≤ 1_000_000 → M
tomorrow d h = var d 1_000_000 h ⊞ lit (pos 1)

pub returns-then-has_day : goal.returns-then-has_day
unfolding covers
returns-then-has_day c =
    rw (sym (rw (back c.ranges.day) at c.has_day.ensures) ∙ c.if-has_day.true) (rw (is (tomorrow c.args.day c.requires) tt) at c.has_day-then-has_day.ensures)

pub returns-else-has_day : goal.returns-else-has_day
unfolding covers
returns-else-has_day c = rw (sym (rw (back c.ranges.day) at c.has_day.ensures) ∙ c.if-has_day.false) c.if-has_day.false
