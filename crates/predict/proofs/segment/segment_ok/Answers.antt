use Rattle.std.proofs.Common.{◌≡◌, sym, ◌∙◌, ◌&&◌, Bool, true, false, ℕ}
use Rattle.whole.proofs.Linear.{and_true}
use Rattle.whole.proofs.Tests.{no_and}
use Rattle.predict.specs.declared.segment.Lent.{Lent}
use Rattle.predict.specs.Lent.{place_ok_rule, length_ok_rule, range_ok_rule, predictions_ok, segment_ok_rule}
use Rattle.predict.specs.Ends.{ends_ok_rule}
use Rattle.predict.proofs.Bools.{yes_and}
use Rattle.predict.proofs.Reach.{ends_enough}
use Rattle.predict.proofs.segment.segment_ok.Goals as goal
use Rattle.predict.proofs.segment.segment_ok.Goals.{then-place_in, else-place_in, then-length_ok, else-length_ok}

-- where one fails, so does all that it is joined to
stays : (a b r : Bool) → r ≡ a → r ≡ false → r ≡ (a && b)
stays a b r e h = h ∙ sym (no_and a b (sym e ∙ h))

-- where the first three hold, the ends decide
module _ (at : ℕ) (x : Lent) where
  by_ends : (place_ok_rule at x && length_ok_rule x && range_ok_rule x) ≡ true → ends_ok_rule x.offset x.rate x.count ≡ segment_ok_rule at x
  unfolding segment_ok_rule
  by_ends h = sym (ends_enough x (and_true (place_ok_rule at x) (length_ok_rule x) (and_true (place_ok_rule at x && length_ok_rule x) (range_ok_rule x) h).0).1)
      ∙ sym (yes_and (place_ok_rule at x && length_ok_rule x && range_ok_rule x) (predictions_ok x) h)

pub returns-then-bounds_ok : goal.returns-then-bounds_ok
returns-then-bounds_ok c =
    let at = c.args.at in
    let x = c.args.x in
    let p : c.if-place_in.value ≡ (place_ok_rule at x && length_ok_rule x) = elim c.if-place_in.branch [
      | then-place_in w ↦ w.value-is ∙ w.length_ok.ensures ∙ sym (yes_and (place_ok_rule at x) (length_ok_rule x) (sym c.place_in.ensures ∙ w.if-place_in.true))
      | else-place_in w ↦ w.value-is ∙ stays (place_ok_rule at x) (length_ok_rule x) c.place_in.result c.place_in.ensures w.if-place_in.false
    ] in
    let q : c.if-length_ok.value ≡ (place_ok_rule at x && length_ok_rule x && range_ok_rule x) = elim c.if-length_ok.branch [
      | then-length_ok w ↦ w.value-is ∙ w.bounds_ok.ensures ∙ sym (yes_and (place_ok_rule at x && length_ok_rule x) (range_ok_rule x) (sym p ∙ w.if-length_ok.true))
      | else-length_ok w ↦ w.value-is ∙ stays (place_ok_rule at x && length_ok_rule x) (range_ok_rule x) c.if-place_in.value p w.if-length_ok.false
    ] in
    c.ends_ok.ensures ∙ by_ends at x (sym q ∙ c.if-bounds_ok.true)

pub returns-else-bounds_ok : goal.returns-else-bounds_ok
unfolding segment_ok_rule
returns-else-bounds_ok c =
    let at = c.args.at in
    let x = c.args.x in
    let p : c.if-place_in.value ≡ (place_ok_rule at x && length_ok_rule x) = elim c.if-place_in.branch [
      | then-place_in w ↦ w.value-is ∙ w.length_ok.ensures ∙ sym (yes_and (place_ok_rule at x) (length_ok_rule x) (sym c.place_in.ensures ∙ w.if-place_in.true))
      | else-place_in w ↦ w.value-is ∙ stays (place_ok_rule at x) (length_ok_rule x) c.place_in.result c.place_in.ensures w.if-place_in.false
    ] in
    let q : c.if-length_ok.value ≡ (place_ok_rule at x && length_ok_rule x && range_ok_rule x) = elim c.if-length_ok.branch [
      | then-length_ok w ↦ w.value-is ∙ w.bounds_ok.ensures ∙ sym (yes_and (place_ok_rule at x && length_ok_rule x) (range_ok_rule x) (sym p ∙ w.if-length_ok.true))
      | else-length_ok w ↦ w.value-is ∙ stays (place_ok_rule at x && length_ok_rule x) (range_ok_rule x) c.if-place_in.value p w.if-length_ok.false
    ] in
    stays (place_ok_rule at x && length_ok_rule x && range_ok_rule x) (predictions_ok x) c.if-length_ok.value q c.if-bounds_ok.false
