-- `days::words::number_in` reads what its definition says.
use mathlib.Core.Path.{◌≡◌, sym, ap, ap₂, ◌∙◌}
use mathlib.Core.Bool.{true, false}
use native.Mathlib.Omega.{arith}
use Rattle.whole.specs.Whole.{sign_of}
use Rattle.whole.proofs.Linear.{ret}
use Rattle.text.specs.Decimal.{read}
use Rattle.days.specs.Words.{few_digits_rule, is_number}
use Rattle.days.proofs.WordLaws.{digits_all, digits_few, number_fits, number_yes, number_no}
use Rattle.std.specs.Prelude.{Some}
use Rattle.days.proofs.words.number_in.Goals as goal

pub returns-then-not-few_digits : goal.returns-then-not-few_digits
returns-then-not-few_digits c =
    let s = c.args.s.now in
    -- the test is that of the definition
    let are = c.few_digits.ensures ∙ ap few_digits_rule c.past_minus-digits.ensures in
    let no : is_number s ≡ false = sym are ∙ c.if-not-few_digits.true in
    number_no s no

pub read_natural-requires : goal.read_natural-requires
read_natural-requires c =
    let y : few_digits_rule c.past_minus-digits.result.now ≡ true = sym c.few_digits.ensures ∙ c.if-not-few_digits.false in
    (digits_all _ y, omega (arith, digits_few _ y))

pub with_sign-requires : goal.with_sign-requires
with_sign-requires c =
    let y : few_digits_rule c.past_minus-digits.result.now ≡ true = sym c.few_digits.ensures ∙ c.if-not-few_digits.false in
    omega (arith, c.read_natural.ensures, number_fits _ y)

pub returns : goal.returns
returns c =
    let s = c.args.s.now in
    let are = c.few_digits.ensures ∙ ap few_digits_rule c.past_minus-digits.ensures in
    let yes : is_number s ≡ true = sym are ∙ c.if-not-few_digits.false in
    let n = c.read_natural.ensures ∙ ap read c.past_minus-digits.ensures in
    let v = ret c.with_sign.result c.with_sign.type_inv ∙ c.with_sign.ensures ∙ ap₂ sign_of c.is_minus.ensures n in
    ap Some v ∙ number_yes s yes
