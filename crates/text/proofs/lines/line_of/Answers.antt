-- `text::lines::line_of` meets its contract. Assumes nothing.
use Rattle.std.proofs.Common.{◌≡◌, ℕ, List, [], Option, Some, None, unwrap_or, refl, ap, ◌∙◌, rules, Bor}
use Rattle.std.specs.Option.{option_map}
use Rattle.std.specs.List.{slice_split}
use Rattle.std.proofs.lemmas.Option.{unwrap_or-slice_get}
use Rattle.std.proofs.lemmas.Iterator.Consumers.{nth_from_yields_List}
use Rattle.std.proofs.lemmas.Iterator.Splits.{YieldsList-from_slice_split}
use borrow.Author.Tests.{tests}
use lib.Dec.{eqb}
use Rattle.text.proofs.LineFeeds.{cut_lines}
use Rattle.text.proofs.lines.line_of.Goals as goal

-- what stands behind a reference that may be missing
lent : (r : Option (Bor (List ℕ))) (d : Bor (List ℕ)) → (unwrap_or r d).now ≡ unwrap_or (option_map (λ (x : Bor (List ℕ)). x.now) r) d.now
lent None d = refl
lent (Some x) d = refl

pub returns : goal.returns
returns c =
    let s = c.args.s.now in
    let n =
    nth_from_yields_List c.nth.result _ _ c.nth.ensures.ran
    (YieldsList-from_slice_split _ (λ (b : ℕ). eqb b 10) s c.split.ensures.rest c.split.ensures.done c.split.ensures.closure (λ x b q k. search (rules, tests))) in
    ap (λ (x : Bor (List ℕ)). x.now) c.unwrap_or.ensures ∙ lent c.nth.result _ ∙ ap (λ (o : Option (List ℕ)). unwrap_or o []) n ∙ unwrap_or-slice_get (slice_split (λ (b : ℕ). eqb b 10) s) _ [] ∙ cut_lines s c.args.k
