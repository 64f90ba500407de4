-- `delay::pass::sample_epoch` meets its contract.
use Rattle.std.proofs.Common.{◌≡◌, ℕ, ◌<◌, pos, ◌*ℤ◌, ap, ◌∙◌, arith, w64, to_z, of_z}
use Rattle.whole.proofs.Machine.{M, var, ◌⊠◌, is}
use Rattle.earth.specs.declared.time.Epoch.{Epoch}
use Rattle.earth.specs.Epoch.{later_of}
use Rattle.earth.proofs.Floors.{leaf}
use Rattle.fields.specs.Records.{InPass}
use Rattle.fields.specs.declared.Pass.{Pass}
use Rattle.delay.specs.Sessions.{start_of, sample_epoch_rule}
use Rattle.delay.proofs.pass.sample_epoch.Goals as goal

abbrev added : (p : Pass) (i : ℕ) → InPass p → i < 4096 → M
added p i h l = var (pos i) 4096 (omega arith) ⊠ leaf p.step h.step

pub returns : goal.returns
unfolding sample_epoch_rule
returns c =
    let p = c.args.p in
    let i = c.args.i in
    let h = c.requires.0 in
    let e : ◌≡◌ {A = Epoch} (record { day = to_z w64 (of_z w64 p.mjd); ms = to_z w64 (of_z w64 p.ms) }) (start_of p) =
    λ j. record { day = is (leaf p.mjd h.mjd) tt j; ms = is (leaf p.ms h.ms) tt j } in
    c.later.ensures
    ∙ ap (λ (x : Epoch). later_of x (to_z w64 (of_z w64 (to_z w64 i *ℤ to_z w64 (of_z w64 p.step))))) e
    ∙ ap (later_of (start_of p)) (is (added p i h c.requires.1) tt)
