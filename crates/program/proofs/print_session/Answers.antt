-- `program::print_session` answers the number that `session::check` gives to the file, and prints the file's text.
use mathlib.Core.Path.{◌≡◌, sym, ap, ◌∙◌}
use mathlib.Core.List.{List}
use Prim.Native.Nat.{ℕ, ◌≤◌}
use lib.Dec.{lit≤}
use native.Mathlib.Omega.{arith}
use lib.IntN.{ℤ, pos}
use lib.ListN.{length, take, replicate, length-replicate}
use lib.Seq.{length-take-le}
use Rattle.whole.specs.Each.{all_below}
use Rattle.whole.proofs.Linear.{back}
use Rattle.sections.specs.File.{refusal_of_rule, count_of_rule}
use Rattle.sections.proofs.Refused.{some_number, not_accepted}
use Rattle.session.proofs.Answers.{check_number}
use Rattle.lines.specs.Text.{pass_texts}
use Rattle.lines.proofs.Session.{refused_text, passes_text}
use Rattle.program.specs.Endings.{pass_answered}
use Rattle.program.proofs.Answered.{refused_all, accepted_number, accepted_all}
use Rattle.program.proofs.print_session.Goals as goal

pub print_refused-whole-requires : goal.print_refused-whole-requires
print_refused-whole-requires c =
    let s = c.args.file.now in
    (rw (length-replicate {A = ℕ} 172100 0) (lit≤ tt), refused_text s _ c.in-Err.ensures.number (some_number c.in-Err.r))

pub returns-in-Err : goal.returns-in-Err
returns-in-Err c =
    let s = c.args.file.now in
    let e = back (record { sfits = omega arith }) ∙ c.number.ensures ∙ ap pos c.in-Err.ensures.number in
    (e ∙ sym (check_number s), refused_all s (not_accepted c.in-Err.r s c.in-Err.ensures.number))

-- the places for the numbers of so many passes
taken : (n : ℕ) → n ≤ 256 → length (take n (replicate 256 (pos 0))) ≡ n
taken n h = length-take-le n (replicate 256 (pos 0)) (rw (length-replicate {A = ℤ} 256 (pos 0)) h)

pub slice_bounds-numbers-end : goal.slice_bounds-numbers-end
slice_bounds-numbers-end c = sym (taken c.count.result c.count.ensures.1)

pub print_passes-written-requires : goal.print_passes-written-requires
print_passes-written-requires c =
    let s = c.in-Ok.s.file.now in
    let k = taken c.count.result c.count.ensures.1 in
    (lit≤ tt, omega (arith, k, c.count.ensures.1), passes_text s c.in-Ok.s.accepted ∙ ap (pass_texts s) (sym (k ∙ c.count.ensures.0)))

pub explain_passes-requires : goal.explain_passes-requires
explain_passes-requires c =
    let k = c.print_passes-written.auto.numbers ∙ taken c.count.result c.count.ensures.1 ∙ c.count.ensures.0 in
    rw (sym k) c.print_passes-written.ensures

pub returns-in-Ok : goal.returns-in-Ok
returns-in-Ok c =
    let s = c.args.file.now in
    let h : refusal_of_rule s ≡ 0 = sym c.in-Ok.ensures.number in
    let k = c.print_passes-written.auto.numbers ∙ taken c.count.result c.count.ensures.1 ∙ c.count.ensures.0 in
    let n = k ∙ ap (λ (f : List ℕ). count_of_rule f 3) c.in-Ok.ensures.file in
    (sym (accepted_number s h), accepted_all s _ h (c.passes_answered.ensures ∙ ap (λ (m : ℕ). all_below m (pass_answered s)) n))
