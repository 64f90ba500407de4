-- `delay::pass::SessionPass::write_samples` meets its contract.
use Rattle.std.proofs.Common.{rules, ◌≡◌, ℕ, suc, ◌<◌, true, List, ◌++◌, length, drop, set, ℤ, sym, ap, ap₂, ◌∙◌, arith, add-one, w64, to_z, of_z}
use Rattle.whole.proofs.Linear.{ret}
use Rattle.whole.specs.Values.{first_values}
use Rattle.whole.proofs.Each.{below_each}
use Rattle.whole.proofs.Values.{value_none, value-next}
use Rattle.earth.specs.declared.time.Epoch.{Epoch}
use Rattle.fields.specs.declared.Pass.{Pass}
use Rattle.wave.specs.declared.Sight.{Sight}
use Rattle.delay.specs.Calls.{samples_of, all_covered_rule}
use Rattle.delay.specs.Keeping.{delay_at_rule}
use Rattle.delay.specs.Sessions.{covers, sample_epoch_rule}
use Rattle.delay.proofs.Covered.{first_covered}
use Rattle.delay.proofs.Epochs.{samples-read, mjd_back}
use Rattle.delay.proofs.pass.SessionPass.write_samples.Goals as goal

-- sample j
abbrev value : List ℕ → Pass → Sight → ℕ → ℤ
value s p v j = delay_at_rule s v (sample_epoch_rule p j)

pub from-kept-requires : goal.from-kept-requires
from-kept-requires c =
    let p = c.args.self.pass in
    let h = c.args.self.in_ranges in
    let s = c.args.self.session in
    rw (mjd_back p h) (first_covered s.file.now s.accepted p h c.requires.covered)

pub loop-i-init : goal.loop-i-init
loop-i-init c = (value_none _ _, c.from-kept.ensures)

covered : (s : List ℕ) (p : Pass) (i : ℕ) → i < samples_of p → all_covered_rule s p ≡ true → covers s (sample_epoch_rule p i).day ≡ true
unfolding all_covered_rule
covered s p i l e = below_each (samples_of p) i (λ (j : ℕ). covers s (sample_epoch_rule p j).day) l e

pub delay_at-delay-requires : goal.delay_at-delay-requires
delay_at-delay-requires c =
    let p = c.args.self.pass in
    let i = c.loop-i.i in
    let l : i < samples_of p = rw (samples-read p c.args.self.in_ranges) at c.loop-i-test.true in
    rw (c.loop-i.invariant.1, c.epoch.ensures) (covered c.args.self.session.file.now p i l c.requires.covered)

pub loop-i-preserved : goal.loop-i-preserved
loop-i-preserved c =
    let p = c.args.self.pass in
    let s = c.args.self.session.file.now in
    let i = c.loop-i.i in
    let room = c.args.room.now in
    let f = value s p c.args.v in
    let l : i < samples_of p = rw (samples-read p c.args.self.in_ranges) at c.loop-i-test.true in
    let long : i < length room = omega (arith, l, c.requires.room) in
    let d = to_z w64 (of_z w64 c.delay_at-delay.result.0) in
    let is : d ≡ f i =
    ret c.delay_at-delay.result.0 (search rules)
    ∙ c.delay_at-delay.ensures.delay
    ∙ ap₂ (λ (x : List ℕ) (e : Epoch). delay_at_rule x c.args.v e) c.loop-i.invariant.1 c.epoch.ensures in
    let r : set c.loop-i.room i d ≡ first_values (suc i) f ++ drop (suc i) room =
    ap (λ (x : List ℤ). set x i d) c.loop-i.invariant.0
    ∙ ap (set (first_values i f ++ drop i room) i) is
    ∙ value-next i f room long in
    (r ∙ ap (λ (n : ℕ). first_values n f ++ drop n room) (sym (add-one i)), c.delay_at-delay.ensures.session ∙ c.loop-i.invariant.1)

pub returns : goal.returns
returns c =
    let p = c.args.self.pass in
    let i = c.loop-i.i in
    let all : i ≡ samples_of p = omega (arith, samples-read p c.args.self.in_ranges) in
    c.loop-i.invariant.0
    ∙ ap (λ (n : ℕ). first_values n (value c.args.self.session.file.now p c.args.v) ++ drop n c.args.room.now) all
