-- `sections::session::Session::read` meets its contract: the four tests in turn. Assumes nothing.
use Prim.Native.Nat.{◌≤◌, ◌<◌}
use native.Mathlib.Omega.{arith}
use mathlib.Core.Path.{sym}
use Rattle.whole.specs.Each.{first_not}
use Rattle.sections.specs.Layouts.{rising, consecutive, places}
use Rattle.sections.specs.File.{section_right_rule, order_right_rule}
use Rattle.sections.proofs.Accepted.{no_contents, is_one, is_two, is_three, is_four, is_none}
use Rattle.sections.proofs.Shapes.{today}
use Rattle.sections.proofs.session.Session.read.Goals as goal

pub returns-in_default-clause-number : goal.returns-in_default-clause-number
returns-in_default-clause-number c =
    let s = c.args.file.now in
    sym (is_one today s (no_contents today s (omega (arith, c.in_default.ensures.word, c.in_default.ensures.most))))

pub returns-then-wrong_section-lt4-clause-number : goal.returns-then-wrong_section-lt4-clause-number
returns-then-wrong_section-lt4-clause-number c =
    let t = c.in-Ok.c.file.now in
    let w : first_not 4 (section_right_rule places t) < 4 = omega arith in
    rw c.in-Ok.ensures.file at (sym (is_two today t c.in-Ok.c.right w))

pub returns-then-wrong_order-lt4-clause-number : goal.returns-then-wrong_order-lt4-clause-number
returns-then-wrong_order-lt4-clause-number c =
    let t = c.in-Ok.c.file.now in
    let b : 4 ≤ first_not 4 (section_right_rule places t) = omega arith in
    let w : first_not 4 (order_right_rule places t rising) < 4 = omega arith in
    rw c.in-Ok.ensures.file at (sym (is_three today t c.in-Ok.c.right b w))

pub returns-then-wrong_order-lt4-2-clause-number : goal.returns-then-wrong_order-lt4-2-clause-number
returns-then-wrong_order-lt4-2-clause-number c =
    let t = c.in-Ok.c.file.now in
    let b : 4 ≤ first_not 4 (section_right_rule places t) = omega arith in
    let d : 4 ≤ first_not 4 (order_right_rule places t rising) = omega arith in
    let w : first_not 4 (order_right_rule places t consecutive) < 4 = omega arith in
    rw c.in-Ok.ensures.file at (sym (is_four today t c.in-Ok.c.right b d w))

pub invariant_of-result : goal.invariant_of-result
invariant_of-result c =
    let t = c.in-Ok.c.file.now in
    let b : 4 ≤ first_not 4 (section_right_rule places t) = omega arith in
    let d : 4 ≤ first_not 4 (order_right_rule places t rising) = omega arith in
    let w : 4 ≤ first_not 4 (order_right_rule places t consecutive) = omega arith in
    record { accepted = rw c.in-Ok.ensures.file at (is_none today t c.in-Ok.c.right b d w) }
