-- `text::lines::line_end` meets its contract. Assumes nothing.
use Rattle.std.proofs.Common.{◌≡◌, ◌+◌, ◌-◌, length, take, drop, ℕ, List, ap, ◌∙◌, sym, rules}
use Rattle.std.proofs.lemmas.Iterator.{YieldsList-from_slice, IsFirst-from_position, index_from_first}
use Rattle.std.proofs.lemmas.List.{take_rest}
use borrow.Author.Tests.{tests}
use Rattle.text.specs.Lines.{first_line}
use Rattle.text.proofs.LineFeeds.{none, hit, miss}
use Rattle.text.proofs.lines.line_end.Goals as goal

pub returns : goal.returns
returns c =
    let s = c.args.s.now in
    let at = c.args.at in
    let rest = take (length s - at) (drop at s) in
    let first = IsFirst-from_position _ _ c.position.result (λ (b : ℕ). b ≡ 10) (λ (b : ℕ). ¬ (b ≡ 10)) c.position.ensures.ran (YieldsList-from_slice rest cc) (λ x q k. search (rules, tests)) (λ x q k. search (rules, tests)) in
    let e = index_from_first (λ (bs : List ℕ). length (first_line bs)) (λ (b : ℕ). b ≡ 10) (λ (b : ℕ). ¬ (b ≡ 10)) none hit miss rest c.position.result first in
    ap (λ (k : ℕ). at + k) (c.unwrap_or.ensures ∙ sym e ∙ ap (λ (bs : List ℕ). length (first_line bs)) (take_rest s at))
