-- `bulletin::form::past_blanks` meets its contract. Assumes nothing.
use Rattle.std.proofs.Common.{rules, ◌≤◌, ◌∙◌, arith, ℕ, Bool, List, eqb, length}
use lib.ListN.{get_or}
use Rattle.whole.proofs.Each.{first-most}
use Rattle.bulletin.proofs.FormLaws.{rest_is, blanks_first}
use Rattle.bulletin.proofs.form.past_blanks.Goals as goal

abbrev blank : List ℕ → ℕ → Bool
blank s i = eqb (get_or s i 0) 32

pub returns : goal.returns
returns c =
    let s = c.args.s.now in
    rest_is c.first_failing.result s ∙ blanks_first s c.first_failing.result (c.first_failing.ensures (blank s) (λ i b l e. search rules))

pub slice_bounds-result-count : goal.slice_bounds-result-count
slice_bounds-result-count c =
    let s = c.args.s.now in
    omega (arith, c.first_failing.ensures (blank s) (λ i b l e. search rules), first-most (length s) (blank s))

pub slice_bounds-result-start : goal.slice_bounds-result-start
slice_bounds-result-start c =
    let s = c.args.s.now in
    omega (arith, c.first_failing.ensures (blank s) (λ i b l e. search rules), first-most (length s) (blank s))
