-- `delay::keep::Kept::delay_at` meets its contract.
use Rattle.std.proofs.Common.{◌≡◌, ℤ, ap, ◌∙◌, w64, to_z, of_z}
use Rattle.whole.proofs.Linear.{ret}
use Rattle.whole.proofs.Machine.{var, is}
use Rattle.earth.specs.declared.time.Epoch.{Epoch}
use Rattle.earth.specs.Minutes.{minutes_of}
use Rattle.earth.specs.TideInUT1.{tide_at, tide_of}
use Rattle.wave.specs.declared.values.Minute.{Minute}
use Rattle.wave.specs.Keeping.{minute_of, delay_seen_rule}
use Rattle.wave.proofs.DayLaws.{tide_size}
use Rattle.delay.specs.Keeping.{delay_at_rule}
use Rattle.delay.proofs.Covered.{day_in_lem, today_in, next_in, earth_by}
use Rattle.delay.proofs.keep.Kept.delay_at.Goals as goal

-- the tide that is kept is that of the epoch's minute
tide_is : (m : Minute) (n : ℤ) (e : Epoch) (l : ℤ) → m ≡ minute_of n → n ≡ minutes_of e l → m.tide ≡ tide_of e l
unfolding tide_of
tide_is m n e l h k = ap (λ (x : Minute). x.tide) h ∙ ap tide_at k

tide-back : (m : Minute) (e : Epoch) (l : ℤ) → m.tide ≡ tide_of e l → to_z w64 (of_z w64 m.tide) ≡ m.tide
tide-back m e l h = is (var m.tide 2723000 (rw h (tide_size e l))) tt

pub minutes_by-requires : goal.minutes_by-requires
minutes_by-requires c =
    let s = c.args.self.days.session in
    let e = c.args.e in
    let d = c.at-days in
    let day-is = rw (ap (λ (x : Epoch). x.day) c.e.view_is) at d.ensures.1 in
    ((today_in s.file.now e s.accepted c.requires d.result d.ensures.0 day-is).tai, day_in_lem s.file.now e.day s.accepted c.requires)

pub earth_at-earth-requires-clause-in_record : goal.earth_at-earth-requires-clause-in_record
earth_at-earth-requires-clause-in_record c =
    let s = c.args.self.days.session in
    let e = c.args.e in
    let d = c.at-days in
    let day-is = rw (ap (λ (x : Epoch). x.day) c.e.view_is) at d.ensures.1 in (
      today_in s.file.now e s.accepted c.requires d.result d.ensures.0 day-is,
      next_in s.file.now e s.accepted c.requires d.result d.ensures.0 day-is,
      day_in_lem s.file.now e.day s.accepted c.requires,
    )

pub earth_at-earth-requires-clause-tide_value : goal.earth_at-earth-requires-clause-tide_value
earth_at-earth-requires-clause-tide_value c =
    let m = c.minute_at-minute.result in
    let l = c.at-days.result.today.tai_utc in
    let n = ret c.minutes_by.result c.minutes_by.type_inv ∙ c.minutes_by.ensures.0 in
    let t = tide_is m (to_z w64 (of_z w64 c.minutes_by.result)) c.args.e l c.minute_at-minute.ensures n in
    rw (ap (λ (x : Minute). x.tide) c.minute.view_is) (tide-back m c.args.e l t ∙ t)

pub returns-clause-delay : goal.returns-clause-delay
unfolding delay_at_rule
returns-clause-delay c =
    let s = c.args.self.days.session in
    let e = c.args.e in
    let d = c.at-days in
    let day-is = rw (ap (λ (x : Epoch). x.day) c.e.view_is) at d.ensures.1 in
    ret c.delay_seen.result c.delay_seen.type_inv
    ∙ c.delay_seen.ensures
    ∙ ap (delay_seen_rule c.args.v) (c.earth_at-earth.ensures ∙ earth_by s.file.now e s.accepted c.requires d.result d.ensures.0 day-is)
