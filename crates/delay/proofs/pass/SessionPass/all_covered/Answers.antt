-- `delay::pass::SessionPass::all_covered` meets its contract.
use Rattle.std.proofs.Common.{◌≡◌, ℕ, ◌-◌, ◌≤◌, Bool, ◌&&◌, nat_abs, sym, ap, ◌∙◌, arith, w64, to_z, of_z}
use Rattle.whole.specs.Whole.{∣◌∣}
use Rattle.whole.proofs.Machine.{var, is}
use Rattle.earth.specs.declared.time.Epoch.{Epoch}
use Rattle.fields.specs.declared.Pass.{Pass}
use Rattle.fields.specs.Records.{InPass}
use Rattle.delay.specs.Calls.{samples_of}
use Rattle.delay.specs.Sessions.{covers, sample_epoch_rule}
use Rattle.delay.proofs.Covered.{ends_tell}
use Rattle.delay.proofs.Epochs.{samples-count, samples-read, mjd_back, sample-day}
use Rattle.delay.proofs.pass.SessionPass.all_covered.Goals as goal

-- the last sample's day, as the code has it
module _ (p : Pass) (h : InPass p) (e : Epoch) (got : e ≡ sample_epoch_rule p (nat_abs (to_z w64 (of_z w64 p.samples)) - 1)) where
  last : e.day ≡ (sample_epoch_rule p (samples_of p - 1)).day
  last = ap (λ (x : Epoch). x.day) got ∙ ap (λ (n : ℕ). (sample_epoch_rule p (n - 1)).day) (samples-read p h)

  last-small : ∣ e.day ∣ ≤ 1_000_000
  last-small = let c = samples-count p h in rw last (sample-day p (samples_of p - 1) h (omega (arith, c.0, c.1)))

  last-back : to_z w64 (of_z w64 e.day) ≡ (sample_epoch_rule p (samples_of p - 1)).day
  last-back = is (var e.day 1_000_000 last-small) tt ∙ last

pub covers-requires-then-covers : goal.covers-requires-then-covers
covers-requires-then-covers c =
    let p = c.args.self.pass in
    let h = c.args.self.in_ranges in
    let got = c.last.view_is ∙ c.epoch-last.ensures in
    rw (last-back p h _ got, sym (last p h _ got)) (last-small p h _ got)

pub returns-then-covers : goal.returns-then-covers
returns-then-covers c =
    let p = c.args.self.pass in
    let h = c.args.self.in_ranges in
    let s = c.args.self.session in
    let first = sym (rw (mjd_back p h) at c.covers.ensures) ∙ c.if-covers.true in
    let last-is = rw (last-back p h _ (c.last.view_is ∙ c.epoch-last.ensures)) at c.covers-then-covers.ensures in
    last-is ∙ ap (λ (b : Bool). b && covers s.file.now (sample_epoch_rule p (samples_of p - 1)).day) (sym first) ∙ ends_tell s.file.now s.accepted p h

pub returns-else-covers : goal.returns-else-covers
returns-else-covers c =
    let p = c.args.self.pass in
    let h = c.args.self.in_ranges in
    let s = c.args.self.session in
    let first = sym (rw (mjd_back p h) at c.covers.ensures) ∙ c.if-covers.false in
    c.if-covers.false ∙ ap (λ (b : Bool). b && covers s.file.now (sample_epoch_rule p (samples_of p - 1)).day) (sym first) ∙ ends_tell s.file.now s.accepted p h
