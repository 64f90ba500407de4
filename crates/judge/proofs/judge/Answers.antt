use Rattle.std.proofs.Common.{◌≡◌, sym, ap, ◌∙◌, ℕ}
use Rattle.whole.proofs.Linear.{back}
use Rattle.track.specs.Answer.{in_range}
use Rattle.track.proofs.Ranged.{ranged, handed_on}
use Rattle.predict.specs.Lent.{lent_of}
use Rattle.judge.specs.Judgement.{judged_from}
use Rattle.judge.proofs.Answers.{answer_2, answer_9, answer_0}
use Rattle.judge.proofs.judge.Goals as goal

pub returns-then-not-call_in_range : goal.returns-then-not-call_in_range
returns-then-not-call_in_range c =
    let a = c.args in
    let says : c.call_in_range.result ≡ in_range a.samples.now a.tolerance = c.call_in_range.ensures ∙ ap (in_range a.samples.now) (back c.ranges.tolerance) in
    c.from.ensures ∙ sym (answer_2 a.samples.now a.tolerance a.track.now (sym says ∙ c.if-not-call_in_range.true))

pub returns-then-not-ranges_ok : goal.returns-then-not-ranges_ok
returns-then-not-ranges_ok c =
    let a = c.args in
    c.from-then-not-ranges_ok.ensures
    ∙ sym (answer_9 a.samples.now a.tolerance a.track.now
    (sym (c.call_in_range.ensures ∙ ap (in_range a.samples.now) (back c.ranges.tolerance)) ∙ c.if-not-call_in_range.false)
    (sym c.ranges_ok.ensures ∙ c.if-not-ranges_ok.true))

pub overflow_cast-samples : goal.overflow_cast-samples
overflow_cast-samples c =
    let a = c.args in
    let says : c.call_in_range.result ≡ in_range a.samples.now a.tolerance = c.call_in_range.ensures ∙ ap (in_range a.samples.now) (back c.ranges.tolerance) in
    let given = ranged a.samples.now a.tolerance (sym says ∙ c.if-not-call_in_range.false) in
    let tol = handed_on _ _ (back c.ranges.tolerance) given in
    tol.cast

pub invariant_of-samples : goal.invariant_of-samples
invariant_of-samples c =
    let a = c.args in
    let says : c.call_in_range.result ≡ in_range a.samples.now a.tolerance = c.call_in_range.ensures ∙ ap (in_range a.samples.now) (back c.ranges.tolerance) in
    let given = ranged a.samples.now a.tolerance (sym says ∙ c.if-not-call_in_range.false) in
    let tol = handed_on _ _ (back c.ranges.tolerance) given in
    record { small = given.small; near = tol.most }

pub first_fault-requires-clause-few : goal.first_fault-requires-clause-few
first_fault-requires-clause-few c =
    let a = c.args in
    let says : c.call_in_range.result ≡ in_range a.samples.now a.tolerance = c.call_in_range.ensures ∙ ap (in_range a.samples.now) (back c.ranges.tolerance) in
    (ranged a.samples.now a.tolerance (sym says ∙ c.if-not-call_in_range.false)).few

pub returns : goal.returns
returns c =
    let a = c.args in
    let says : c.call_in_range.result ≡ in_range a.samples.now a.tolerance = c.call_in_range.ensures ∙ ap (in_range a.samples.now) (back c.ranges.tolerance) in
    let given = ranged a.samples.now a.tolerance (sym says ∙ c.if-not-call_in_range.false) in
    let tol = handed_on _ _ (back c.ranges.tolerance) given in
    c.first_fault.ensures
    ∙ ap (λ (t : ℕ). judged_from a.samples.now t 0 0 (lent_of a.track.now)) tol.same
    ∙ sym (answer_0 a.samples.now a.tolerance a.track.now (sym says ∙ c.if-not-call_in_range.false) (sym c.ranges_ok.ensures ∙ c.if-not-ranges_ok.false))
