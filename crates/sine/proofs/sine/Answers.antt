-- `sine::sine` meets its contract. Assumes nothing.
use Rattle.std.proofs.Common.{ℕ, ◌-◌, ◌/◌, ◌%◌, ◌^◌, Bool, cond, eqb, leb, ap, ◌∙◌, arith, eqb-true, leb-false, leb-true}
use borrow.Author.Tests.{eqb-false}
use Rattle.whole.proofs.Linear.{ret}
use Rattle.whole.specs.Whole.{sign_of}
use Rattle.sine.specs.Sine.{S}
use Rattle.sine.proofs.Laws.{S_most}
use Rattle.sine.proofs.Parts.{sine_by}
use Rattle.sine.proofs.sine.Goals as goal

-- the code's tests
abbrev negative : ℕ → Bool
negative a = leb 2 (a / 2 ^ 30)

abbrev back : ℕ → Bool
back a = eqb (a / 2 ^ 30 % 2) 1

pub with_sign-requires : goal.with_sign-requires
with_sign-requires c = omega (arith, S_most c.turned-t.result)

pub returns : goal.returns
returns c =
    let a = c.args.a in
    ret c.with_sign.result c.with_sign.type_inv
    ∙ c.with_sign.ensures
    ∙ ap (λ (m : ℕ). sign_of (negative a) m) (c.s_of.ensures ∙ ap S (c.turned-t.ensures.0 ∙ ap (λ (r : ℕ). cond (back a) (2 ^ 30 - r) r) c.from-r.ensures))
    ∙ sine_by a (negative a) (back a) (omega arith)
    (λ t. omega (arith, leb-true, t))
    (λ t. omega (arith, leb-false, t))
    (λ t. omega (arith, eqb-true, t))
    (λ t. omega (arith, eqb-false, t))
