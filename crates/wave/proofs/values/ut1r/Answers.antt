-- `wave::values::ut1r` meets its contract.
use Rattle.std.proofs.Common.{◌≡◌, ℤ, pos, ◌-ℤ◌, sym, ap, ◌∙◌, w64, to_z, of_z}
use Rattle.whole.proofs.Linear.{ret}
use Rattle.whole.proofs.Machine.{M, var, ◌⊟◌, ok, is}
use Rattle.earth.specs.Calls.{epoch_of}
use Rattle.earth.specs.Minutes.{minutes_of}
use Rattle.earth.specs.TideInUT1.{tide_of, tide_at}
use Rattle.earth.proofs.Floors.{leaf}
use Rattle.fields.specs.Ranges.{Holds, mjd, ut1utc}
use Rattle.fields.specs.declared.Day.{Day}
use Rattle.wave.specs.DayValues.{tide_in}
use Rattle.wave.proofs.DayLaws.{ut1r_marked, ut1r_other, tide_size}
use Rattle.wave.proofs.values.ut1r.Goals as goal

pub returns-then-r-ne1 : goal.returns-then-r-ne1
returns-then-r-ne1 c =
    let e : c.args.r.mark ≡ pos 1 → ⊥ = λ m. c.if-r-ne1.true (ap (of_z w64) m) in
    is (leaf c.args.r.ut1_utc c.requires.ut1_utc) tt ∙ sym (ut1r_other c.args.r e)

-- what is taken away is the tide of the record's own day, by its own TAI-UTC
tide_is : (r : Day) (n t : ℤ) → n ≡ minutes_of (epoch_of r.mjd (pos 0)) r.tai_utc → t ≡ tide_at n → t ≡ tide_in r
unfolding tide_of
tide_is r n t e f = f ∙ ap tide_at e

abbrev left : (r : Day) (t : ℤ) → Holds ut1utc r.ut1_utc → t ≡ tide_in r → M
left r t h e = leaf r.ut1_utc h ⊟ var t 2723000 (rw e (tide_size (epoch_of r.mjd (pos 0)) r.tai_utc))

-- the same as the calls of the code give it
tide-there : (r : Day) (n t : ℤ) → Holds mjd r.mjd → n ≡ minutes_of (epoch_of (to_z w64 (of_z w64 r.mjd)) (pos 0)) r.tai_utc → t ≡ tide_at n → t ≡ tide_in r
tide-there r n t h e f = tide_is r n t (e ∙ ap (λ (d : ℤ). minutes_of (epoch_of d (pos 0)) r.tai_utc) (is (leaf r.mjd h) tt)) f

pub overflow_sub-result : goal.overflow_sub-result
overflow_sub-result c =
    let k = c.minutes_by in
    let t = c.tide_at_minute in
    ok (left c.args.r t.result c.requires.ut1_utc (tide-there c.args.r (to_z w64 (of_z w64 k.result)) t.result c.requires.mjd (ret k.result k.type_inv ∙ k.ensures.0) t.ensures)) tt

pub returns : goal.returns
returns c =
    let r = c.args.r in
    let n = c.minutes_by in
    let f = c.tide_at_minute.ensures in
    let e = tide-there r (to_z w64 (of_z w64 n.result)) _ c.requires.mjd (ret n.result n.type_inv ∙ n.ensures.0) f in
    let m : r.mark ≡ pos 1 = sym (is (leaf r.mark c.requires.mark) tt) ∙ ap (to_z w64) c.if-r-ne1.false in
    is (left r c.tide_at_minute.result c.requires.ut1_utc e) tt ∙ ap (λ (z : ℤ). r.ut1_utc -ℤ z) e ∙ sym (ut1r_marked r m)
