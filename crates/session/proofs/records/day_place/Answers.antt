use mathlib.Core.Path.{◌≡◌, sym, ap, ◌∙◌}
use native.Mathlib.Omega.{arith}
use Prim.Native.Nat.{ℕ, ◌^◌, ◌+◌, ◌*◌, ◌≤◌, ◌<◌}
use mir.Syntax.{w64}
use mir.Val.{to_z, of_z}
use mir.Facts.{to_z-of_z}
use Rattle.whole.proofs.Linear.{ret}
use Rattle.text.specs.Words.{number_at_rule}
use Rattle.sections.specs.File.{count_of_rule, record_byte_rule, field_at_rule}
use Rattle.sections.proofs.Accepted.{accepted_contents}
use Rattle.sections.proofs.Sound.{counts-one, size_one}
use Rattle.session.proofs.Laws.{first_past, day-place, day-before, day_after}
use Rattle.session.proofs.Past.{diff_fits, diff_cast, diff_is}
use Rattle.sections.specs.Layouts.{places}
use Rattle.sections.proofs.Shapes.{today}
use mathlib.Core.List.{List}
use lib.IntN.{ℤ}
use lib.Signed.{mag}
use Rattle.session.proofs.records.day_place.Goals as goal

pub record_byte-requires : goal.record_byte-requires
record_byte-requires c = (omega arith, counts-one today _ (accepted_contents today _ c.args.s.accepted) 2 (omega arith))

pub number_at-first-requires : goal.number_at-first-requires
number_at-first-requires c = omega (arith, c.record_byte.ensures.1, size_one today _ (accepted_contents today _ c.args.s.accepted) 2 (omega arith))

-- the first day's MJD, as the code has it
first : (s : List ℕ) (b : ℕ) (z : ℤ) → mag z < 2 ^ 63 → z ≡ number_at_rule s b → b ≡ record_byte_rule places s 2 0 → to_z w64 (of_z w64 z) ≡ field_at_rule places s 2 0 0
first s b z f h e =
    let m : b ≡ record_byte_rule places s 2 0 + 8 * 0 = omega (arith, e) in
    ret z f ∙ h ∙ ap (number_at_rule s) m

pub returns-then-mjd-first : goal.returns-then-mjd-first
returns-then-mjd-first c =
    let s = c.args.s.file.now in
    let e = first s _ _ c.number_at-first.type_inv c.number_at-first.ensures c.record_byte.ensures.0 in
    let m = to_z-of_z c.ranges.mjd in
    c.count-n.ensures.0 ∙ sym (day-before s c.args.s.accepted c.args.mjd (rw (m, e) at c.if-mjd-first.true))

pub overflow_sub-i : goal.overflow_sub-i
overflow_sub-i c =
    let s = c.args.s.file.now in
    let e = first s _ _ c.number_at-first.type_inv c.number_at-first.ensures c.record_byte.ensures.0 in
    let m = to_z-of_z c.ranges.mjd in
    diff_fits _ _ _ _ m e (first_past s c.args.s.accepted c.args.mjd c.ranges.mjd (rw (m, e) at c.if-mjd-first.false))

pub overflow_cast-i : goal.overflow_cast-i
overflow_cast-i c =
    let s = c.args.s.file.now in
    let e = first s _ _ c.number_at-first.type_inv c.number_at-first.ensures c.record_byte.ensures.0 in
    let m = to_z-of_z c.ranges.mjd in
    diff_cast _ _ _ _ m e (first_past s c.args.s.accepted c.args.mjd c.ranges.mjd (rw (m, e) at c.if-mjd-first.false))

pub returns-then-i-n : goal.returns-then-i-n
returns-then-i-n c =
    let s = c.args.s.file.now in
    let e = first s _ _ c.number_at-first.type_inv c.number_at-first.ensures c.record_byte.ensures.0 in
    let m = to_z-of_z c.ranges.mjd in
    let w = first_past s c.args.s.accepted c.args.mjd c.ranges.mjd (rw (m, e) at c.if-mjd-first.false) in
    let d = diff_is _ _ _ _ m e w in
    let l : w.far < count_of_rule s 2 = omega (arith, d, c.count-n.ensures.0, c.if-i-n.true) in
    d ∙ sym (day-place s c.args.s.accepted c.args.mjd w.far l w.plus)

pub returns : goal.returns
returns c =
    let s = c.args.s.file.now in
    let e = first s _ _ c.number_at-first.type_inv c.number_at-first.ensures c.record_byte.ensures.0 in
    let m = to_z-of_z c.ranges.mjd in
    let w = first_past s c.args.s.accepted c.args.mjd c.ranges.mjd (rw (m, e) at c.if-mjd-first.false) in
    let d = diff_is _ _ _ _ m e w in
    let l : count_of_rule s 2 ≤ w.far = omega (arith, d, c.count-n.ensures.0, c.if-i-n.false) in
    c.count-n.ensures.0 ∙ sym (day_after s c.args.s.accepted c.args.mjd w.far l w.plus)
