-- `explain::days::explain_days` names a sample that is there: the first whose epoch the file does not cover.
use mathlib.Core.Path.{◌≡◌, ap, ◌∙◌}
use mathlib.Core.List.{List}
use Prim.Native.Nat.{ℕ, ◌≤◌, ◌<◌}
use native.Mathlib.Omega.{arith}
use lib.IntN.{pos}
use mir.Syntax.{w64}
use mir.Val.{to_z, of_z}
use Rattle.whole.specs.Each.{first_not}
use Rattle.whole.specs.Whole.{∣◌∣}
use Rattle.whole.proofs.Machine.{var, is}
use Rattle.earth.specs.declared.time.Epoch.{Epoch}
use Rattle.fields.specs.declared.Pass.{Pass}
use Rattle.sections.specs.File.{refusal_of_rule, count_of_rule}
use Rattle.session.specs.Records.{pass_of_rule}
use Rattle.session.proofs.Laws.{pass_in}
use Rattle.delay.specs.Calls.{samples_of}
use Rattle.delay.specs.Sessions.{covers, sample_epoch_rule}
use Rattle.delay.proofs.Epochs.{samples-count, sample-day}
use Rattle.lines.specs.Text.{lent_outcome}
use Rattle.explain.proofs.Uncovered.{uncovered_in}
use Rattle.explain.proofs.days.explain_days.Goals as goal

module _ (s : List ℕ) (h : refusal_of_rule s ≡ 0) (i : ℕ) (l : i < count_of_rule s 3) where
  -- the sample that is found is one of the pass
  few : (f : List ℕ) (p : Pass) (j : ℕ) → f ≡ s → p ≡ pass_of_rule s i → (lent_outcome s i).answer.refusal ≡ pos 6
      → j ≡ first_not (samples_of p) (λ (k : ℕ). covers f (sample_epoch_rule p k).day) → j < 4096
  few f p j r q six e =
      let e' = e ∙ ap (λ (g : List ℕ). first_not (samples_of p) (λ (k : ℕ). covers g (sample_epoch_rule p k).day)) r
      ∙ ap (λ (r : Pass). first_not (samples_of r) (λ (k : ℕ). covers s (sample_epoch_rule r k).day)) q in
      let m = (samples-count (pass_of_rule s i) (pass_in s h i l)).1 in
      omega (arith, e', m, uncovered_in s h i l six)

pub epoch-e-requires : goal.epoch-e-requires
epoch-e-requires c =
    let p = c.at-p.result in
    few c.args.s.file.now c.args.s.accepted c.args.i c.requires.0 p.session.file.now p.pass c.first_uncovered-j.result c.at-p.ensures.0 c.at-p.ensures.1 c.requires.1 c.first_uncovered-j.ensures

pub after-next-requires : goal.after-next-requires
after-next-requires c =
    let p = c.at-p.result in
    let j = c.first_uncovered-j.result in
    let n = few c.args.s.file.now c.args.s.accepted c.args.i c.requires.0 p.session.file.now p.pass j c.at-p.ensures.0 c.at-p.ensures.1 c.requires.1 c.first_uncovered-j.ensures in
    let d : ∣ (sample_epoch_rule p.pass j).day ∣ ≤ 1_000_000 = sample-day p.pass j p.in_ranges n in
    let b : to_z w64 (of_z w64 c.e.inside.day) ≡ (sample_epoch_rule p.pass j).day =
    ap (λ (x : Epoch). to_z w64 (of_z w64 x.day)) (c.e.view_is ∙ c.epoch-e.ensures) ∙ is (var _ 1_000_000 d) tt in
    rw b d
