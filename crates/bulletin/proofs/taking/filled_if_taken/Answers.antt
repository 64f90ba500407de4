-- `bulletin::taking::filled_if_taken` meets its contract. Assumes nothing.
use borrow.Author.Rules.{rules}
use mathlib.Core.Path.{◌≡◌, refl, sym, ap, ◌∙◌}
use mathlib.Core.List.{List}
use Prim.Native.Nat.{ℕ, ◌<◌}
use lib.IntN.{ℤ, pos}
use lib.ListN.{length, get_or}
use mir.Syntax.{w64}
use mir.Val.{to_z, of_z, SFits}
use Rattle.whole.specs.Each.{implies}
use Rattle.whole.proofs.Tests.{and_no}
use borrow.Author.Tests.{ne_eqb}
use mathlib.Core.Bool.{Bool, true}
use Rattle.whole.proofs.Linear.{back}
use Rattle.bulletin.specs.Code.{Listed}
use Rattle.bulletin.specs.Rows.{row_at_rule, day_in_rule, is_filled_rule, days_of, first_in_rule}
use Rattle.bulletin.specs.Reading.{asked, is_taken}
use Rattle.bulletin.proofs.TakingLaws.{day_of_lem, near, not_asked, if_taken}
use Rattle.bulletin.proofs.taking.filled_if_taken.Goals as goal

-- of row i, whose day fits: what the code has of its day
module _ {text : List ℕ} {dates : List ℤ} {starts : List ℕ} (l : Listed text dates starts) (i : ℕ) (h : i < length dates) (f : SFits w64 (get_or dates i (pos 0))) where
  day_is : to_z w64 (of_z w64 (get_or dates i (pos 0))) ≡ day_in_rule (row_at_rule text i)
  day_is = back f ∙ day_of_lem l i h

  asked_is : {first count : ℤ} {b : Bool} → SFits w64 first → SFits w64 count → b ≡ asked (to_z w64 (of_z w64 first)) (to_z w64 (of_z w64 count)) (to_z w64 (of_z w64 (get_or dates i (pos 0))))
      → b ≡ asked first count (day_in_rule (row_at_rule text i))
  asked_is u v e = e ∙ (λ j. asked (back u j) (back v j) (day_is j))

  place_is : {n : ℕ} → n ≡ first_in_rule dates (to_z w64 (of_z w64 (get_or dates i (pos 0)))) → n ≡ first_in_rule dates (day_in_rule (row_at_rule text i))
  place_is e = e ∙ ap (first_in_rule dates) day_is

  -- a row that is not the first with its day is not taken
  other_row : (first count : ℤ) → (first_in_rule dates (day_in_rule (row_at_rule text i)) ≡ i → ⊥) → true ≡ implies (is_taken text first count i) (is_filled_rule (row_at_rule text i))
  unfolding is_taken
  other_row first count g =
      let d = day_in_rule (row_at_rule text i) in
      rw (and_no (asked first count d) _ (ne_eqb (first_in_rule (days_of text) d) i (λ e. g (ap (λ (xs : List ℤ). first_in_rule xs d) l.days ∙ e)))) refl

pub is_asked-requires : goal.is_asked-requires
is_asked-requires c =
    let f : SFits w64 (get_or c.args.rows.dates.now c.args.i (pos 0)) = search rules in
    rw (back f) (near c.args.rows.listed c.args.i c.requires)

pub returns-then-not-is_asked : goal.returns-then-not-is_asked
returns-then-not-is_asked c =
    let f : SFits w64 (get_or c.args.rows.dates.now c.args.i (pos 0)) = search rules in
    let a = sym (asked_is c.args.rows.listed c.args.i c.requires f c.ranges.first c.ranges.count c.is_asked.ensures) ∙ c.if-not-is_asked.true in
    sym (not_asked c.args.rows.listed c.args.first c.args.count c.args.i a)

pub returns-then-first_in-i : goal.returns-then-first_in-i
returns-then-first_in-i c =
    let f : SFits w64 (get_or c.args.rows.dates.now c.args.i (pos 0)) = search rules in
    let p = place_is c.args.rows.listed c.args.i c.requires f c.first_in.ensures in
    other_row c.args.rows.listed c.args.i c.requires f c.args.first c.args.count (λ e. c.if-first_in-i.true (p ∙ e))

pub returns : goal.returns
returns c =
    let f : SFits w64 (get_or c.args.rows.dates.now c.args.i (pos 0)) = search rules in
    let a = sym (asked_is c.args.rows.listed c.args.i c.requires f c.ranges.first c.ranges.count c.is_asked.ensures) ∙ c.if-not-is_asked.false in
    let p = place_is c.args.rows.listed c.args.i c.requires f c.first_in.ensures in
    c.is_filled.ensures ∙ ap is_filled_rule c.row_at.ensures ∙ sym (if_taken c.args.rows.listed c.args.first c.args.count c.args.i a (sym p ∙ c.if-first_in-i.false))
