-- `text::decimal::read_on` meets its contract: what is left of the digits is read from the number so far. Assumes nothing.
use Rattle.std.proofs.Common.{◌≡◌, ◌+◌, ◌-◌, ◌*◌, ◌^◌, ◌<◌, ◌≤◌, length, drop, get_or, true, ℕ, List, sym, ap, ◌∙◌, arith, add_assoc}
use Rattle.text.specs.Decimal.{all_digits_rule, read_from_rule}
use Rattle.text.proofs.Reading.{read_next, read_none, digit_at, next_below, below_most}
use Rattle.text.proofs.decimal.read_on.Goals as goal

-- the number with the digit at the place reached
below : (s : List ℕ) (i all : ℕ) → i < length s → all_digits_rule s ≡ true → all < 10 ^ (19 - length s + i) → 10 * all + (get_or s i 0 - 48) < 10 ^ (19 - length s + (i + 1))
below s i all t h k = rw (← add_assoc) (next_below all (get_or s i 0 - 48) (19 - length s + i) k (omega (arith, digit_at s i t h)))

most : (s : List ℕ) (i all : ℕ) → length s ≤ 19 → i < length s → all_digits_rule s ≡ true → all < 10 ^ (19 - length s + i) → 10 * all + (get_or s i 0 - 48) < 10_000_000_000_000_000_000
most s i all r t h k = below_most (10 * all + (get_or s i 0 - 48)) (19 - length s + (i + 1)) (below s i all t h k) (omega (arith, t, r))

pub overflow_mul-all : goal.overflow_mul-all
overflow_mul-all c =
    let l = c.loop-b in
    record { fits = omega (arith, most c.args.s.now l.b-index l.all c.requires.1 c.loop-b-test.true c.requires.0 l.invariant.1) }

pub overflow_sub-b : goal.overflow_sub-b
overflow_sub-b c = (digit_at c.args.s.now c.loop-b.b-index c.loop-b-test.true c.requires.0).0

pub overflow_add-all : goal.overflow_add-all
overflow_add-all c =
    let l = c.loop-b in
    record { fits = omega (arith, most c.args.s.now l.b-index l.all c.requires.1 c.loop-b-test.true c.requires.0 l.invariant.1) }

pub loop-b-preserved : goal.loop-b-preserved
loop-b-preserved c =
    let s = c.args.s.now in
    let l = c.loop-b in
    let t = c.loop-b-test.true in
    rw c.from.ensures (sym (read_next s l.b-index t l.all) ∙ l.invariant.0, below s l.b-index l.all t c.requires.0 l.invariant.1)

pub returns : goal.returns
returns c =
    let s = c.args.s.now in
    let l = c.loop-b in
    let e : l.b-index ≡ length s = omega arith in
    sym (read_none l.all s) ∙ ap (λ (k : ℕ). read_from_rule l.all (drop k s)) (sym e) ∙ l.invariant.0
