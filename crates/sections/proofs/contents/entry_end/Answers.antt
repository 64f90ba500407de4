use native.Mathlib.Omega.{arith}
use mathlib.Core.Path.{◌≡◌, sym, ap, ap₂, ◌∙◌}
use Prim.Native.Nat.{ℕ, ◌+◌, ◌*◌}
use Rattle.sections.specs.Code.{shape_of}
use mathlib.Core.List.{List}
use Rattle.sections.specs.File.{layout_of, size_of, count_of_rule, start_of}
use Rattle.sections.specs.Layouts.{places}
use Rattle.sections.specs.declared.layouts.Shape.{Shape}
use Rattle.sections.proofs.Shapes.{today}
use Rattle.sections.proofs.Walk.{count-present, body_small, entry-kind, entry-offset, entry-count, entry-none}
use Rattle.sections.proofs.contents.entry_end.Goals as goal

pub returns-then-not-kind_right-clause-word : goal.returns-then-not-kind_right-clause-word
returns-then-not-kind_right-clause-word c =
    let e = entry-kind today _ _ (sym c.kind_right.ensures ∙ c.if-not-kind_right.true) in
    (omega (arith, e), omega (arith, e))

pub returns-then-not-offset_right-clause-word : goal.returns-then-not-offset_right-clause-word
returns-then-not-offset_right-clause-word c =
    let e = entry-offset today _ _ (sym c.kind_right.ensures ∙ c.if-not-kind_right.false) (sym c.offset_right.ensures ∙ c.if-not-offset_right.true) in
    (omega (arith, e), omega (arith, e))

pub returns-then-not-count_right-clause-word : goal.returns-then-not-count_right-clause-word
returns-then-not-count_right-clause-word c =
    let e = entry-count today _ _ (sym c.kind_right.ensures ∙ c.if-not-kind_right.false) (sym c.offset_right.ensures ∙ c.if-not-offset_right.false) (sym c.count_right.ensures ∙ c.if-not-count_right.true) in
    (omega (arith, e), omega (arith, e))

pub layout_of-l-requires : goal.layout_of-l-requires
layout_of-l-requires c = (c.requires.0, omega (arith, count-present today _ _ (sym c.count_right.ensures ∙ c.if-not-count_right.false)))

pub word_at-requires : goal.word_at-requires
word_at-requires c = count-present today _ _ (sym c.count_right.ensures ∙ c.if-not-count_right.false)

body : (s : List ℕ) (p : ℕ) {l : Shape} {n : ℕ} → l ≡ shape_of (layout_of places s p) → n ≡ count_of_rule s p → l.size * n ≡ size_of places s p * count_of_rule s p
unfolding shape_of
body s p e f = ap₂ ◌*◌ (ap (λ (l : Shape). l.size) e) f

pub overflow_mul-result-2 : goal.overflow_mul-result-2
overflow_mul-result-2 c = omega (arith, body c.args.s.now c.args.p c.layout_of-l.ensures c.word_at.ensures, body_small today c.args.s.now c.args.p (sym c.count_right.ensures ∙ c.if-not-count_right.false))

pub overflow_mul-result-3 : goal.overflow_mul-result-3
overflow_mul-result-3 c = omega (arith, body c.args.s.now c.args.p c.layout_of-l.ensures c.word_at.ensures, body_small today c.args.s.now c.args.p (sym c.count_right.ensures ∙ c.if-not-count_right.false))

pub overflow_add-result-2 : goal.overflow_add-result-2
overflow_add-result-2 c = omega (arith, c.requires.2, body c.args.s.now c.args.p c.layout_of-l.ensures c.word_at.ensures, body_small today c.args.s.now c.args.p (sym c.count_right.ensures ∙ c.if-not-count_right.false))

pub returns-clause-end : goal.returns-clause-end
unfolding start_of
returns-clause-end c =
    let r = sym c.count_right.ensures ∙ c.if-not-count_right.false in
    let n = entry-none today _ _ (sym c.kind_right.ensures ∙ c.if-not-kind_right.false) (sym c.offset_right.ensures ∙ c.if-not-offset_right.false) r in
    (n, ap₂ (λ (x y : ℕ). x + 8 * y) c.requires.1 (body c.args.s.now c.args.p c.layout_of-l.ensures c.word_at.ensures), omega (arith, body c.args.s.now c.args.p c.layout_of-l.ensures c.word_at.ensures, body_small today c.args.s.now c.args.p r))
