-- `delay::delayed` meets its contract.
use Rattle.std.proofs.Common.{◌≡◌, ℕ, List, ℤ, sym, ap, ap₂, ◌∙◌, le_trans, lit≤}
use Rattle.std.proofs.lemmas.Result.{err_from_is_err_and}
use Rattle.whole.specs.Refusals.{unless}
use Rattle.whole.proofs.Linear.{back, ret}
use Rattle.whole.proofs.Refusals.{lower_zero, unless_zero}
use Rattle.earth.specs.Calls.{epoch_of}
use Rattle.earth.proofs.Floors.{in_abs}
use Rattle.fields.specs.Ranges.{inside, Holds, id_number, mjd, millisecond}
use Rattle.sections.specs.File.{refusal_of_rule}
use Rattle.session.specs.Records.{station_by, source_by}
use Rattle.wave.specs.declared.Sight.{Sight}
use Rattle.wave.specs.declared.values.Earth.{Earth}
use Rattle.wave.specs.Keeping.{delay_seen_rule}
use Rattle.wave.proofs.Sights.{seen_between}
use Rattle.delay.specs.Calls.{asked_ok_rule, all_there_rule, delay_in}
use Rattle.delay.specs.Keeping.{places_by, places_there, sight_in_rule}
use Rattle.delay.specs.Sessions.{earth_in_rule}
use Rattle.delay.proofs.Numbers.{judged_of, delay_first}
use Rattle.delay.proofs.Ranges.{asked_in}
use Rattle.delay.proofs.Results.{stops, passed, delay_refused, delay_given}
use Rattle.delay.proofs.delayed.Goals.{In_ok-session, In_ok-names}
use Rattle.delay.proofs.delayed.Goals as goal

pub returns-in_err-session : goal.returns-in_err-session
returns-in_err-session c =
    let x = c.args in
    let r = c.ranges in
    let k = simp (back r.station1, back r.station2, back r.source, back r.day, back r.ms) at c.asked_ok-ok.ensures in
    let p = err_from_is_err_and c.from_residual.result c.from_residual.ensures.1 in
    let n = rw k at c.in_err-session.ensures.number in
    rw (p.1, p.2) (delay_refused x.file.now x.station1 x.station2 x.source x.day x.ms _ (delay_first x.file.now x.station1 x.station2 x.source x.day x.ms ∙ stops _ _ _ n))

-- from here on the file is accepted and the arguments are in their ranges
accepted : (c : In_ok-session) → 0 ≡ judged_of c.args.file.now (asked_ok_rule c.args.station1 c.args.station2 c.args.source c.args.day c.args.ms)
accepted c =
    let r = c.ranges in
    let k = simp (back r.station1, back r.station2, back r.source, back r.day, back r.ms) at c.asked_ok-ok.ensures in
    rw k at c.in_ok-session.ensures.number

in_range_lem : (c : In_ok-session) → Holds mjd c.args.day × Holds millisecond c.args.ms
in_range_lem c =
    let x = c.args in
    let l = lower_zero (refusal_of_rule x.file.now) (unless (asked_ok_rule x.station1 x.station2 x.source x.day x.ms) 2) (sym (accepted c)) in
    asked_in (inside id_number x.station1) (inside id_number x.station2) (inside id_number x.source) x.day x.ms (unless_zero (asked_ok_rule x.station1 x.station2 x.source x.day x.ms) 1 l.1)

pub returns-in_err-names : goal.returns-in_err-names
returns-in_err-names c =
    let x = c.args in
    let r = c.ranges in
    let p = err_from_is_err_and c.from_residual-in_err-names.result c.from_residual-in_err-names.ensures.1 in
    let n = accepted (goal.at.returns-in_err-names c).In_ok-session in
    let m = simp (back r.station1, back r.station2, back r.source, c.in_ok-session.ensures.session) at c.in_err-names.ensures.number in
    rw (p.1, p.2) (delay_refused x.file.now x.station1 x.station2 x.source x.day x.ms _ (delay_first x.file.now x.station1 x.station2 x.source x.day x.ms ∙ passed _ _ n ∙ stops _ _ _ m))

-- and from here on what the ids name is there
there : (c : In_ok-names) → 0 ≡ unless (all_there_rule c.args.file.now c.args.station1 c.args.station2 c.args.source) 5
there c =
    let r = c.ranges in
    simp (back r.station1, back r.station2, back r.source, c.in_ok-session.ensures.session) at c.in_ok-names.ensures.number

pub earth_in-requires : goal.earth_in-requires
earth_in-requires c = rw (back c.ranges.day) (le_trans (in_abs c.args.day (in_range_lem (goal.at.earth_in-requires c).In_ok-session).0) (lit≤ tt))

pub invariant_of-earth_in : goal.invariant_of-earth_in
invariant_of-earth_in c = rw (back c.ranges.ms) (in_range_lem (goal.at.invariant_of-earth_in c).In_ok-session).1

pub returns-in_err-earth : goal.returns-in_err-earth
returns-in_err-earth c =
    let x = c.args in
    let p = err_from_is_err_and c.from_residual-in_err-earth.result c.from_residual-in_err-earth.ensures.1 in
    let n = accepted (goal.at.returns-in_err-earth c).In_ok-session in
    let t = there (goal.at.returns-in_err-earth c).In_ok-names in
    let m = simp (back c.ranges.day, c.in_ok-session.ensures.session) at c.in_err-earth.ensures.number in
    rw (p.1, p.2) (delay_refused x.file.now x.station1 x.station2 x.source x.day x.ms _ (delay_first x.file.now x.station1 x.station2 x.source x.day x.ms ∙ passed _ _ n ∙ passed _ _ t ∙ stops _ _ _ m))

pub sight_in-requires : goal.sight_in-requires
sight_in-requires c =
    let found = c.in_ok-names.ensures in
    ap (places_there c.in_ok-session.session.file.now) found.places ∙ unless_zero _ 4 (sym found.number)

-- the delay that was worked out
value-is : (s : List ℕ) (a b r day ms : ℤ) (v : Sight) (t : Earth) (d : ℤ) → v ≡ sight_in_rule s (places_by s a b r) → t ≡ earth_in_rule s (epoch_of day ms) → d ≡ delay_seen_rule v t → d ≡ delay_in s a b r (epoch_of day ms)
unfolding delay_in
value-is s a b r day ms v t d ev et e =
    e
    ∙ ap (λ (x : Sight). delay_seen_rule x t) ev
    ∙ ap (delay_seen_rule (sight_in_rule s (places_by s a b r))) et
    ∙ seen_between (station_by s a) (station_by s b) (source_by s r) (earth_in_rule s (epoch_of day ms))

pub returns : goal.returns
returns c =
    let f = c.args.file.now in
    let x = c.args in
    let r = c.ranges in
    let session = c.in_ok-session.ensures.session in
    let n = accepted (goal.at.returns c).In_ok-session in
    let t = there (goal.at.returns c).In_ok-names in
    let names = simp (back r.station1, back r.station2, back r.source, session) at c.in_ok-names.ensures.places in
    let m = simp (back r.day, session) at c.in_ok-earth.ensures.number in
    let earth = simp (back r.day, back r.ms, session) at c.in_ok-earth.ensures.earth in
    let sight = c.sight_in.ensures ∙ ap₂ sight_in_rule session names in
    delay_given f x.station1 x.station2 x.source x.day x.ms _
    (delay_first f x.station1 x.station2 x.source x.day x.ms ∙ passed _ _ n ∙ passed _ _ t ∙ passed _ _ m)
    (ret c.delay_seen.result c.delay_seen.type_inv ∙ value-is f x.station1 x.station2 x.source x.day x.ms c.sight_in.result c.in_ok-earth.earth c.delay_seen.result sight earth c.delay_seen.ensures)
