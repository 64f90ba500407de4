-- Document 02, L4: records that give the same UT1R give the same earth at every epoch, whichever UT1 they hold. Assumes nothing.
use Rattle.std.proofs.Common.{◌≡◌, pos, ◌-ℤ◌, sym, refl, ap, ◌∙◌, ap₂}
use Rattle.earth.specs.declared.time.Epoch.{Epoch}
use Rattle.fields.specs.declared.Day.{Day}
use Rattle.fields.specs.declared.Station.{Station}
use Rattle.fields.specs.declared.Source.{Source}
use Rattle.wave.specs.DayValues.{tide_in, leap_of, ut1_line, ut1_used_rule, earth_of}
use Rattle.wave.specs.Delays.{delay_between}
use Rattle.wave.specs.Keeping.{reduced_of}
use Rattle.wave.proofs.DayLaws.{ut1r_marked, ut1r_unmarked}

-- the record marked 0 whose UT1-UTC is less by the tide of its own day
abbrev pub less_tide_lem : Day → Day
less_tide_lem r = record { mjd = r.mjd; x = r.x; y = r.y; ut1_utc = r.ut1_utc -ℤ tide_in r; tai_utc = r.tai_utc; mark = pos 0 }

-- a marked record is reduced to that, an unmarked one to itself
pub reduced_marked : (r : Day) → r.mark ≡ pos 1 → reduced_of r ≡ less_tide_lem r
reduced_marked r e =
    λ j. record { mjd = r.mjd; x = r.x; y = r.y; ut1_utc = ut1r_marked r e j; tai_utc = r.tai_utc; mark = pos 0 }

pub reduced_unmarked : (r : Day) → r.mark ≡ pos 0 → reduced_of r ≡ r
reduced_unmarked r e =
    λ j. record { mjd = r.mjd; x = r.x; y = r.y; ut1_utc = ut1r_unmarked r e j; tai_utc = r.tai_utc; mark = sym e j }

-- reducing changes nothing at an epoch
pub earth_reduced : (r0 r1 : Day) (e : Epoch) → earth_of (reduced_of r0) (reduced_of r1) e ≡ earth_of r0 r1 e
unfolding earth_of ut1_used_rule ut1_line leap_of
earth_reduced r0 r1 e = rw (ut1r_unmarked (reduced_of r0) refl, ut1r_unmarked (reduced_of r1) refl)

-- so records that are reduced to the same give the same earth
pub earth_alike : (a0 a1 b0 b1 : Day) (e : Epoch) → reduced_of a0 ≡ reduced_of b0 → reduced_of a1 ≡ reduced_of b1 → earth_of a0 a1 e ≡ earth_of b0 b1 e
earth_alike a0 a1 b0 b1 e h0 h1 =
    sym (earth_reduced a0 a1 e) ∙ ap₂ (λ (x y : Day). earth_of x y e) h0 h1 ∙ earth_reduced b0 b1 e

-- Two records marked 1 give the delays of those marked 0 whose UT1-UTC is less by their tides. No range is asked for: what is left may pass 900,000,000.
pub delay_marked : (a b : Station) (s : Source) (r0 r1 : Day) (e : Epoch) → r0.mark ≡ pos 1 → r1.mark ≡ pos 1
    → delay_between a b s (earth_of r0 r1 e) ≡ delay_between a b s (earth_of (less_tide_lem r0) (less_tide_lem r1) e)
delay_marked a b s r0 r1 e h0 h1 =
    ap (delay_between a b s)
    (earth_alike r0 r1 (less_tide_lem r0) (less_tide_lem r1) e (reduced_marked r0 h0 ∙ sym (reduced_unmarked (less_tide_lem r0) refl)) (reduced_marked r1 h1 ∙ sym (reduced_unmarked (less_tide_lem r1) refl)))
