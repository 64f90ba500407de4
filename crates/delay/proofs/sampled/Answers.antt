-- `delay::sampled` meets its contract.
use Rattle.std.proofs.Common.{◌≡◌, ℕ, List, length, ltb, sym, ap, ap₂, ◌∙◌}
use borrow.Author.Tests.{ltb-true}
use Rattle.std.proofs.lemmas.Result.{err_from_is_err_and}
use Rattle.whole.specs.Refusals.{unless, number_of}
use Rattle.whole.proofs.Answers.{given_no}
use Rattle.whole.proofs.Refusals.{unless_zero}
use Rattle.fields.specs.declared.Pass.{Pass}
use Rattle.sections.specs.File.{refusal_of_rule, count_of_rule}
use Rattle.sections.proofs.Refused.{some_number}
use Rattle.session.specs.Records.{pass_of_rule}
use Rattle.delay.specs.Calls.{samples_number}
use Rattle.delay.specs.Keeping.{lacks_of, room_by_rule}
use Rattle.delay.proofs.Epochs.{samples_back}
use Rattle.delay.proofs.Numbers.{samples-first, lacks_number}
use Rattle.delay.proofs.Results.{stops, passed, samples_refused, samples_given}
use Rattle.delay.proofs.sampled.Goals as goal

pub returns-in_err-read : goal.returns-in_err-read
returns-in_err-read c =
    let f = c.args.file.now in
    let room = c.args.room.now in
    let p = err_from_is_err_and c.from_residual.result c.from_residual.ensures.1 in
    let n = c.in_err-read.ensures.number in
    rw (p.1, p.2) (samples_refused f c.args.pass room _ room (samples-first f c.args.pass (length room) ∙ stops _ _ _ n) (λ j. room))

pub returns-in_err-p : goal.returns-in_err-p
returns-in_err-p c =
    let f = c.args.file.now in
    let room = c.args.room.now in
    let p = err_from_is_err_and c.from_residual-in_err-p.result c.from_residual-in_err-p.ensures.1 in
    let m = simp c.in_ok-read.ensures.file at c.in_err-p.ensures.number in
    rw (p.1, p.2) (samples_refused f c.args.pass room _ room (samples-first f c.args.pass (length room) ∙ passed _ _ c.in_ok-read.ensures.number ∙ stops _ _ _ m) (λ j. room))

-- of a pass that is there the number is what is lacking for it
lacking : (s : List ℕ) (i n : ℕ) → 0 ≡ refusal_of_rule s → 0 ≡ unless (ltb i (count_of_rule s 3)) 5 → samples_number s i n ≡ lacks_of s (pass_of_rule s i) n
lacking s i n accepted there = lacks_number s i n (sym accepted) (ltb-true i (count_of_rule s 3) (unless_zero _ 4 (sym there)))

pub returns-in_err-samples : goal.returns-in_err-samples
returns-in_err-samples c =
    let f = c.args.file.now in
    let i = c.args.pass in
    let room = c.args.room.now in
    let x = c.in_err-samples.field-0.0 in
    let q = c.in_ok-p.ensures.pass in
    let file = c.in_ok-read.ensures.file in
    let same = q.1 ∙ ap (λ (s : List ℕ). pass_of_rule s i) file in
    let there = simp file at c.in_ok-p.ensures.number in
    let lacks : number_of x ≡ lacks_of f (pass_of_rule f i) (length room) =
    c.in_err-samples.ensures.number ∙ ap₂ (λ (s : List ℕ) (p : Pass). lacks_of s p (length room)) (q.0 ∙ file) same in
    let p = err_from_is_err_and c.from_residual-in_err-samples.result c.from_residual-in_err-samples.ensures.1 in
    rw (p.1, p.2)
    (samples_refused f i room x c.samples.new.room
    (lacking f i (length room) c.in_ok-read.ensures.number there ∙ sym lacks)
    (c.in_err-samples.ensures.room ∙ given_no (number_of x) _ (λ (m : ℕ). room) (some_number x)))

pub returns : goal.returns
returns c =
    let f = c.args.file.now in
    let i = c.args.pass in
    let room = c.args.room.now in
    let p = c.in_ok-p.p in
    let q = c.in_ok-p.ensures.pass in
    let file = c.in_ok-read.ensures.file in
    let same = q.1 ∙ ap (λ (s : List ℕ). pass_of_rule s i) file in
    let there = simp file at c.in_ok-p.ensures.number in
    let lacks : 0 ≡ lacks_of f (pass_of_rule f i) (length room) =
    c.in_ok-samples.ensures.number ∙ ap₂ (λ (s : List ℕ) (p : Pass). lacks_of s p (length room)) (q.0 ∙ file) same in
    samples_given f i room _ c.samples.new.room
    (lacking f i (length room) c.in_ok-read.ensures.number there ∙ sym lacks)
    (samples_back p.pass p.in_ranges ∙ ap (λ (p : Pass). p.samples) same)
    (c.in_ok-samples.ensures.room ∙ ap₂ (λ (s : List ℕ) (p : Pass). room_by_rule s p room 0) (q.0 ∙ file) same)
