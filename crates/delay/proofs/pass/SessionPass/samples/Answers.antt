-- `delay::pass::SessionPass::samples` meets its contract.
use Rattle.std.proofs.Common.{◌≡◌, ℕ, List, ◌++◌, drop, ℤ, refl, sym, ap, ◌∙◌}
use Rattle.std.proofs.lemmas.Result.{err_from_is_err_and}
use Rattle.whole.specs.Refusals.{number_of}
use Rattle.whole.specs.Values.{first_values}
use Rattle.whole.proofs.Answers.{given_yes, given_no}
use Rattle.fields.specs.declared.Pass.{Pass}
use Rattle.sections.proofs.Refused.{some_number}
use Rattle.session.specs.Records.{station_by, source_by}
use Rattle.wave.specs.declared.Sight.{Sight}
use Rattle.wave.proofs.Sights.{seen_between}
use Rattle.delay.specs.Calls.{samples_of, delay_in, sample_in}
use Rattle.delay.specs.Keeping.{places_of, sight_in_rule, delay_at_rule}
use Rattle.delay.specs.Sessions.{earth_in_rule, sample_epoch_rule}
use Rattle.delay.proofs.pass.SessionPass.samples.Goals as goal

pub returns-in_err-n-clause-room : goal.returns-in_err-n-clause-room
returns-in_err-n-clause-room c =
    let p = err_from_is_err_and c.from_residual.result c.from_residual.ensures.1 in
    rw p.1 (sym (given_no (number_of p.0) _ (λ (m : ℕ). c.args.room.now) (some_number p.0)))

-- what the loop wrote are the samples of the pass
module _ (f : List ℕ) (p : Pass) where
  abbrev sight : Sight
  sight = sight_in_rule f (places_of f p)

  each : (j : ℕ) → delay_at_rule f sight (sample_epoch_rule p j) ≡ sample_in f p j
  unfolding sample_in delay_in delay_at_rule
  each j = seen_between (station_by f p.station1) (station_by f p.station2) (source_by f p.source) (earth_in_rule f (sample_epoch_rule p j))

pub returns-clause-room : goal.returns-clause-room
returns-clause-room c =
    let f = c.args.self.session.file.now in
    let p = c.args.self.pass in
    let room = c.args.room.now in
    let by-sight : Sight → List ℤ = λ (x : Sight). first_values (samples_of p) (λ (j : ℕ). delay_at_rule f x (sample_epoch_rule p j)) ++ drop (samples_of p) room in
    let sight-is = c.sight_in.ensures ∙ ap (sight_in_rule f) c.in_ok-n.ensures.places in
    c.write_samples.ensures
    ∙ ap by-sight sight-is
    ∙ ap (λ (g : ℕ → ℤ). first_values (samples_of p) g ++ drop (samples_of p) room) (λ x j. each f p j x)
    ∙ sym (given_yes 0 _ (λ (m : ℕ). room) refl)
