-- `delay::records::Days::today_at` meets its contract.
use Rattle.std.proofs.Common.{rules, ◌≡◌, ℕ, true, List, ℤ, pos, ◌+ℤ◌, ◌-ℤ◌, sym, ap, ◌∙◌, arith, w64, to_z}
use Rattle.whole.proofs.Linear.{back, ret}
use Rattle.whole.proofs.Machine.{M, lit, ◌⊟◌, ok, is}
use Rattle.whole.proofs.Quote.{⟨◌⟩, #, ◌⊕◌, ◌⊝◌, by≡}
use Rattle.earth.proofs.Floors.{leaf}
use Rattle.sections.specs.File.{refusal_of_rule}
use Rattle.session.specs.Records.{day_by}
use Rattle.wave.specs.Keeping.{reduced_of}
use Rattle.delay.specs.Sessions.{has_id, covers}
use Rattle.delay.proofs.Covered.{both_there, day_in_lem}
use Rattle.delay.proofs.records.Days.today_at.Goals as goal

abbrev yesterday : (s : List ℕ) (d : ℤ) → refusal_of_rule s ≡ 0 → covers s d ≡ true → M
yesterday s d h k = leaf d (day_in_lem s d h k) ⊟ lit (pos 1)

pub overflow_sub-day : goal.overflow_sub-day
overflow_sub-day c = let s = c.args.self.session in ok (yesterday s.file.now c.args.day s.accepted c.requires) tt

pub returns-then-self-day : goal.returns-then-self-day
returns-then-self-day c =
    let k = c.args.self in
    let d = c.args.day in
    let s = k.session in
    let before : k.day ≡ d -ℤ pos 1 =
    sym (ret k.day (search rules)) ∙ ap (to_z w64) c.if-self-day.true ∙ is (yesterday s.file.now d s.accepted c.requires) tt
    in
    k.next_is
    ∙ ap (λ (x : ℤ). reduced_of (day_by s.file.now x)) (ap (λ (x : ℤ). x +ℤ pos 1) before ∙ by≡ (⟨ d ⟩ ⊝ # 1 ⊕ # 1) ⟨ d ⟩ (omega arith))

pub day_in-requires : goal.day_in-requires
day_in-requires c =
    let s = c.args.self.session in
    ap (has_id s.file.now 2) (back c.ranges.day) ∙ (both_there s.file.now c.args.day s.accepted c.requires).0
