-- `delay::records::earth_in` meets its contract.
use Rattle.std.proofs.Common.{◌≡◌, ℕ, ◌≤◌, Bool, true, List, ℤ, sym, ap, ◌∙◌, w64, to_z, of_z}
use Rattle.whole.specs.Whole.{∣◌∣}
use Rattle.whole.proofs.Linear.{ret}
use Rattle.whole.proofs.Machine.{var, is}
use Rattle.earth.specs.declared.time.Epoch.{Epoch}
use Rattle.earth.specs.TideInUT1.{tide_at, tide_of}
use Rattle.delay.specs.Sessions.{covers}
use Rattle.delay.proofs.Covered.{day_in_lem, today_in, next_in, earth_by}
use Rattle.delay.proofs.records.earth_in.Goals as goal

-- the day was found to be covered
covered : (s : List ℕ) (d : ℤ) (b : Bool) → ∣ d ∣ ≤ 1_000_000 → b ≡ covers s (to_z w64 (of_z w64 d)) → b ≡ true → covers s d ≡ true
covered s d b h e t = ap (covers s) (sym (is (var d 1_000_000 h) tt)) ∙ sym e ∙ t

-- the minute of the epoch, by the TAI-UTC of its day's record
pub minutes_by-requires : goal.minutes_by-requires
minutes_by-requires c =
    let s = c.args.s.file.now in
    let e = c.args.e in
    let a = c.args.s.accepted in
    let day-is = ap (λ (x : Epoch). x.day) c.e.view_is in
    let k = covered s e.day _ c.requires (rw day-is at c.covers.ensures) c.if-not-covers.false in
    let d = c.from-d in
    ((today_in s e a k d.result d.ensures.0 (rw day-is at d.ensures.1)).tai, day_in_lem s e.day a k)

-- both records are as they are kept, and the tide is that of the epoch
pub earth_at-requires : goal.earth_at-requires
unfolding tide_of
earth_at-requires c =
    let s = c.args.s.file.now in
    let e = c.args.e in
    let a = c.args.s.accepted in
    let day-is = ap (λ (x : Epoch). x.day) c.e.view_is in
    let k = covered s e.day _ c.requires (rw day-is at c.covers.ensures) c.if-not-covers.false in
    let d = c.from-d in
    let tide = c.tide_at_minute-tide in
    let minute = ret c.minutes_by.result c.minutes_by.type_inv ∙ c.minutes_by.ensures.0 in
    let first = today_in s e a k d.result d.ensures.0 (rw day-is at d.ensures.1) in
    let second = next_in s e a k d.result d.ensures.0 (rw day-is at d.ensures.1) in
    record {
      in_record = (first, second, day_in_lem s e.day a k);
      tide_value = ret tide.result tide.type_inv ∙ tide.ensures ∙ ap tide_at minute;
    }

-- so the earth is that of the epoch
pub returns-clause-earth : goal.returns-clause-earth
returns-clause-earth c =
    let s = c.args.s.file.now in
    let e = c.args.e in
    let a = c.args.s.accepted in
    let day-is = ap (λ (x : Epoch). x.day) c.e.view_is in
    let k = covered s e.day _ c.requires (rw day-is at c.covers.ensures) c.if-not-covers.false in
    let d = c.from-d in
    c.earth_at.ensures ∙ earth_by s e a k d.result d.ensures.0 (rw day-is at d.ensures.1)
