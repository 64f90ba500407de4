-- `text::decimal::all_digits` meets its contract. Assumes nothing.
use Rattle.std.proofs.Common.{◌∙◌, rules}
use Rattle.std.proofs.lemmas.Iterator.{YieldsList-from_slice}
use Rattle.std.proofs.lemmas.Iterator.Search.{all_from_yields_List}
use borrow.Author.Tests.{tests}
use Rattle.text.specs.Decimal.{is_digit_rule}
use Rattle.text.proofs.Reading.{digits_listed}
use Rattle.text.proofs.decimal.all_digits.Goals as goal

pub returns : goal.returns
returns c =
    all_from_yields_List is_digit_rule _ _ _ c.all.ensures.ran (YieldsList-from_slice c.args.s.now cc) (λ x b q k. search (rules, tests)) ∙ digits_listed c.args.s.now
