-- `bulletin::taking::taken_filled` meets its contract: a row is listed for each day. Assumes nothing.
use Rattle.std.proofs.Common.{rules, ap, ◌∙◌, ℕ, Bool, List, ℤ}
use Rattle.whole.specs.Each.{all_below, implies}
use Rattle.bulletin.specs.Rows.{row_at_rule, is_filled_rule}
use Rattle.bulletin.specs.Reading.{is_taken, taken_filled_rule}
use Rattle.bulletin.proofs.TakingLaws.{listed-long}
use Rattle.bulletin.proofs.taking.taken_filled.Goals as goal

abbrev right : List ℕ → ℤ → ℤ → ℕ → Bool
right text first count i = implies (is_taken text first count i) (is_filled_rule (row_at_rule text i))

pub returns : goal.returns
unfolding taken_filled_rule
returns c =
    let a = c.args in
    let p = right a.rows.text.now a.first a.count in
    c.all_pass.ensures p (λ i b l e. search rules) ∙ ap (λ (n : ℕ). all_below n p) (listed-long a.rows.listed)
