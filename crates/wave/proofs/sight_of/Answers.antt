-- `wave::sight_of` meets its contract.
use Rattle.std.proofs.Common.{ap, ◌∙◌}
use Rattle.whole.proofs.Machine.{is}
use Rattle.earth.proofs.Floors.{leaf}
use Rattle.wave.specs.Keeping.{sight_of}
use Rattle.wave.specs.PlaneWave.{tick_of, turn_of}
use Rattle.wave.proofs.sight_of.Goals as goal

pub returns : goal.returns
unfolding sight_of
returns c =
    let r = c.args.r in
    let h = c.requires.2 in
    let eb = c.between.ensures.0 in
    let er = c.tick.ensures ∙ ap tick_of (is (leaf r.right_ascension h.right_ascension) tt) in
    let ed = c.turn_by.ensures ∙ ap turn_of (c.tick-2.ensures ∙ ap tick_of (is (leaf r.declination h.declination) tt)) in
    λ i. record { baseline = eb i; source = r; right_ascension = er i; declination = ed i }
