use native.Mathlib.Omega.{arith}
use native.Mathlib.Numerals.{add-one}
use mathlib.Core.Path.{◌≡◌, sym, refl, ◌∙◌}
use Rattle.std.proofs.lemmas.Result.{err_from_is_err_and}
use Rattle.sections.specs.File.{start_of}
use Rattle.sections.proofs.Accepted.{contents_walked}
use Rattle.sections.proofs.Shapes.{today}
use Rattle.sections.proofs.Walk.{wrong_sections, sections_passed, wrong_entry, entry_passed, wrong_length, wrong_none}
use Rattle.sections.proofs.contents.Contents.read.Goals as goal

pub returns-then-not-sections_right-clause-word : goal.returns-then-not-sections_right-clause-word
returns-then-not-sections_right-clause-word c = sym (wrong_sections today _ (sym c.sections_right.ensures ∙ c.if-not-sections_right.true))

pub loop-p-init : goal.loop-p-init
unfolding start_of
loop-p-init c = (refl, omega arith, sections_passed today _ (sym c.sections_right.ensures ∙ c.if-not-sections_right.false))

pub returns-in_err-start-clause-word : goal.returns-in_err-start-clause-word
returns-in_err-start-clause-word c =
    let r = err_from_is_err_and c.from_residual.result c.from_residual.ensures.1 in
    let w = c.in_err-start.ensures.word in
    rw (r.1, r.2) (w.1 ∙ sym (wrong_entry today _ c.loop-p.p c.loop-p.invariant.2 (omega (arith, c.loop-p-test.true)) _ refl w.0))

pub loop-p-preserved : goal.loop-p-preserved
loop-p-preserved c =
    let e = c.in_ok-start.ensures.end in
    (rw (add-one c.loop-p.p) e.1, omega (arith, e.2, c.loop-p.invariant.1), entry_passed today _ c.loop-p.p c.loop-p.invariant.2 e.0)

pub length_right-requires : goal.length_right-requires
length_right-requires c =
    let e : c.loop-p.p ≡ 4 = omega (arith, c.loop-p.auto.p-end) in
    rw e at c.loop-p.invariant.0

pub returns-then-not-length_right-clause-word : goal.returns-then-not-length_right-clause-word
returns-then-not-length_right-clause-word c =
    let e : c.loop-p.p ≡ 4 = omega (arith, c.loop-p.auto.p-end) in
    sym (wrong_length today _ (rw e at c.loop-p.invariant.2) (sym c.length_right.ensures ∙ c.if-not-length_right.true))

pub invariant_of-result : goal.invariant_of-result
invariant_of-result c =
    let e : c.loop-p.p ≡ 4 = omega (arith, c.loop-p.auto.p-end) in
    record { right = contents_walked today _ (wrong_none today _ (rw e at c.loop-p.invariant.2) (sym c.length_right.ensures ∙ c.if-not-length_right.false)) }

pub returns-clause-word : goal.returns-clause-word
returns-clause-word c =
    let e : c.loop-p.p ≡ 4 = omega (arith, c.loop-p.auto.p-end) in
    sym (wrong_none today _ (rw e at c.loop-p.invariant.2) (sym c.length_right.ensures ∙ c.if-not-length_right.false))
