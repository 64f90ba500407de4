-- `explain::days::covered` meets its contract.
use mathlib.Core.Path.{◌≡◌, ap, ◌∙◌}
use lib.IntN.{ℤ}
use mir.Syntax.{w64}
use mir.Val.{to_z, of_z}
use Rattle.whole.proofs.Machine.{var, is}
use Rattle.earth.specs.declared.time.Epoch.{Epoch}
use Rattle.delay.specs.Sessions.{sample_epoch_rule}
use Rattle.delay.proofs.Epochs.{sample-day}
use Rattle.explain.proofs.days.covered.Goals as goal

pub covers-requires : goal.covers-requires
covers-requires c =
    let day : ℤ = (sample_epoch_rule c.args.p.pass c.args.i).day in
    let small = sample-day c.args.p.pass c.args.i c.args.p.in_ranges c.requires in
    -- the day as the code holds it
    let back : to_z w64 (of_z w64 c.e.inside.day) ≡ day =
    ap (λ (e : Epoch). to_z w64 (of_z w64 e.day)) (c.e.view_is ∙ c.epoch-e.ensures) ∙ is (var day 1_000_000 small) tt in
    rw back small
