-- `offset_of` meets its contract.
use Rattle.std.proofs.Common.{◌+◌, ◌*◌, ◌<◌, ◌≤◌, List, ℕ, ℤ, refl, arith}
use Rattle.fit.specs.Line.{Small}
use Rattle.fit.specs.Rates.{scaled, tilt, lo, hi, off}
use Rattle.fit.proofs.Lines.{bound, floor}
use Rattle.fit.proofs.Pairs.{rate-fits}
use Rattle.fit.proofs.Steps.{off-step}
use Rattle.fit.proofs.line.offset_of.Goals as goal

-- the line's bound at a sample
line-bound : (s : List ℤ) (t f n p j : ℕ) → Small s → t ≤ 1_000_000 → lo (scaled s) (65536 * t) tilt f n ≤ p → p ≤ hi (scaled s) (65536 * t) tilt f n → j < n
    → p * j ≤ tilt * j + scaled s (f + j) + 65536 * t
line-bound s t f n p j h k l u i =
    omega (arith, (rate-fits (scaled s) (65536 * t) tilt (bound s t h k) (floor s t h k) p f n l u j i).0)

pub loop-j-init : goal.loop-j-init
unfolding off
loop-j-init c = refl

pub overflow_add-u : goal.overflow_add-u
overflow_add-u c =
    let b = bound c.args.samples.values.now c.args.samples.tolerance c.args.samples.small c.args.samples.near (c.args.first + c.loop-j.j) in
    record { fits = omega (arith, b, c.scaled_at.ensures, c.requires.count_in_bounds.1) }

pub overflow_mul-p : goal.overflow_mul-p
overflow_mul-p c =
    let q = c.requires in
    let j = c.loop-j.j in
    let b = bound c.args.samples.values.now c.args.samples.tolerance c.args.samples.small c.args.samples.near (c.args.first + j) in
    let e = line-bound c.args.samples.values.now c.args.samples.tolerance c.args.first c.args.count c.args.p j c.args.samples.small c.args.samples.near q.count_bound.0 q.count_bound.1 c.loop-j-test.true in
    record { fits = omega (arith, b, e, q.count_in_bounds.1) }

pub overflow_add-w : goal.overflow_add-w
overflow_add-w c =
    let q = c.requires in
    let j = c.loop-j.j in
    let b = bound c.args.samples.values.now c.args.samples.tolerance c.args.samples.small c.args.samples.near (c.args.first + j) in
    let e = line-bound c.args.samples.values.now c.args.samples.tolerance c.args.first c.args.count c.args.p j c.args.samples.small c.args.samples.near q.count_bound.0 q.count_bound.1 c.loop-j-test.true in
    record { fits = omega (arith, b, e, q.count_in_bounds.1) }

pub loop-j-preserved : goal.loop-j-preserved
loop-j-preserved c =
    let x = c.args in
    let k = c.loop-j in
    off-step (scaled x.samples.values.now) (65536 * x.samples.tolerance) tilt x.p x.first k.j _ _ _ _ k.invariant c.scaled_at.ensures (omega (arith, c.saturating_sub.ensures)) c.max-a.ensures
