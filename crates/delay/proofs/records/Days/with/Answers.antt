-- `delay::records::Days::with` meets its contract.
use Rattle.std.proofs.Common.{◌≡◌, ℕ, true, List, ℤ, pos, ap, ◌∙◌}
use Rattle.whole.proofs.Linear.{back}
use Rattle.whole.proofs.Machine.{M, lit, ◌⊞◌, ok, is}
use Rattle.earth.proofs.Floors.{leaf}
use Rattle.sections.specs.File.{refusal_of_rule}
use Rattle.session.specs.Records.{day_by}
use Rattle.wave.specs.Keeping.{reduced_of}
use Rattle.delay.specs.Sessions.{has_id, covers}
use Rattle.delay.proofs.Covered.{both_there, day_in_lem}
use Rattle.delay.proofs.records.Days.with.Goals as goal

-- the next day
abbrev tomorrow : (s : List ℕ) (d : ℤ) → refusal_of_rule s ≡ 0 → covers s d ≡ true → M
tomorrow s d h k = leaf d (day_in_lem s d h k) ⊞ lit (pos 1)

pub overflow_add-day : goal.overflow_add-day
overflow_add-day c = let s = c.args.session in ok (tomorrow s.file.now c.args.day s.accepted c.requires.0) tt

-- the file has its record
pub day_in-requires : goal.day_in-requires
day_in-requires c =
    let file = c.args.session in
    ap (has_id file.file.now 2) (is (tomorrow file.file.now c.args.day file.accepted c.requires.0) tt) ∙ (both_there file.file.now c.args.day file.accepted c.requires.0).1

-- both records stand as they are kept
pub invariant_of-result : goal.invariant_of-result
invariant_of-result c =
    let s = c.args.session in
    record {
      today_is = rw (back c.ranges.day) c.requires.1;
      next_is = rw (back c.ranges.day) (c.day_in.ensures ∙ ap (λ (d : ℤ). reduced_of (day_by s.file.now d)) (is (tomorrow s.file.now c.args.day s.accepted c.requires.0) tt));
    }
