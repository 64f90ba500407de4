-- `wave::values::reduced` meets its contract.
use Rattle.std.proofs.Common.{◌≡◌, pos, sym, ◌∙◌, subst}
use Rattle.whole.proofs.Linear.{ret}
use Rattle.whole.proofs.Machine.{is}
use Rattle.earth.proofs.Floors.{leaf}
use Rattle.fields.specs.declared.Day.{Day}
use Rattle.wave.specs.Bounds.{InRecord}
use Rattle.wave.specs.Keeping.{reduced_of}
use Rattle.wave.proofs.DayLaws.{record_in}
use Rattle.wave.proofs.values.reduced.Goals as goal

pub returns : goal.returns
returns c =
    let r = c.args.r in
    let h = c.requires in
    let u = c.ut1r in
    let e : ◌≡◌ {A = Day} _ (reduced_of r) =
    λ j.
    record {
      mjd = is (leaf r.mjd h.mjd) tt j;
      x = is (leaf r.x h.x) tt j;
      y = is (leaf r.y h.y) tt j;
      ut1_utc = (ret u.result u.type_inv ∙ u.ensures) j;
      tai_utc = is (leaf r.tai_utc h.tai_utc) tt j;
      mark = pos 0;
    }
    in
    (e, subst InRecord (sym e) (record_in r h))
