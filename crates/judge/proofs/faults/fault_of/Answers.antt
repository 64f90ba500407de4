use Rattle.std.proofs.Common.{sym, ◌∙◌}
use Rattle.judge.proofs.Judging.{fault_place, fault_length, fault_sample, fault_none}
use Rattle.judge.proofs.faults.fault_of.Goals as goal

pub returns-then-not-place_in : goal.returns-then-not-place_in
returns-then-not-place_in c =
    let a = c.args in
    sym (fault_place a.samples.values.now a.samples.tolerance a.at a.x (sym c.place_in.ensures ∙ c.if-not-place_in.true))

pub returns-then-not-length_ok : goal.returns-then-not-length_ok
returns-then-not-length_ok c =
    let a = c.args in
    sym (fault_length a.samples.values.now a.samples.tolerance a.at a.x (sym c.place_in.ensures ∙ c.if-not-place_in.false) (sym c.length_ok.ensures ∙ c.if-not-length_ok.true))

pub returns-then-not-samples_ok : goal.returns-then-not-samples_ok
returns-then-not-samples_ok c =
    let a = c.args in
    sym (fault_sample a.samples.values.now a.samples.tolerance a.at a.x (sym c.place_in.ensures ∙ c.if-not-place_in.false)
    (sym c.length_ok.ensures ∙ c.if-not-length_ok.false) (sym c.samples_ok.ensures ∙ c.if-not-samples_ok.true))

pub returns : goal.returns
returns c =
    let a = c.args in
    sym (fault_none a.samples.values.now a.samples.tolerance a.at a.x (record {
      place = sym c.place_in.ensures ∙ c.if-not-place_in.false;
      long = sym c.length_ok.ensures ∙ c.if-not-length_ok.false;
      near = sym c.samples_ok.ensures ∙ c.if-not-samples_ok.false;
    }))
