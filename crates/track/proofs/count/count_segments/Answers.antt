use Rattle.std.proofs.Common.{◌≡◌, refl, sym, ap, ◌∙◌, List, ℕ, suc, ℤ, min, ◌+◌, ◌-◌, ◌<◌, ◌≤◌, length, arith, zero-add, length-set}
use Rattle.fit.specs.Line.{Small}
use Rattle.fit.specs.Greedy.{grow, longest}
use Rattle.fit.specs.Rates.{fit_of}
use Rattle.track.specs.Made.{track_of, run_of, start_at}
use Rattle.track.proofs.Runs.{rest_of, track_of_start, rest_of_more, rest_of_none, run_pos, run_within, start_at_next, stored_more}
use Rattle.track.proofs.Theorems.{track_of_half}
use Rattle.track.proofs.count.count_segments.Goals as goal

-- the run, its bounds, and the segments that are left after it
more : (s : List ℤ) (t f m most c : ℕ) → Small s → length s ≤ 4096 → t ≤ 1_000_000 → f < length s → m ≤ f
    → m + length (rest_of s t (length s - m) f) ≡ length (track_of s t) → most ≡ min 1024 (length s - f) → c ≡ grow (fit_of s t) (most - 1) f 1
    → (c ≡ run_of s t f) × (1 ≤ c) × (f + c ≤ length s)
    × (length (rest_of s t (length s - m) f) ≡ suc (length (rest_of s t (length s - (m + 1)) (f + c)))) × (m < 2048)
unfolding longest
more s t f m most c small few tol l fewer left most_is c_is =
    let e : c ≡ run_of s t f = c_is ∙ ap (λ (z : ℕ). grow (fit_of s t) (z - 1) f 1) most_is in
    let k : length s - m ≡ suc (length s - (m + 1)) = omega arith in
    let r : length (rest_of s t (length s - m) f) ≡ suc (length (rest_of s t (length s - (m + 1)) (f + c))) =
    ap (λ (z : ℕ). length (rest_of s t z f)) k ∙ ap length (rest_of_more s t (length s - (m + 1)) f l)
    ∙ ap (λ (z : ℕ). suc (length (rest_of s t (length s - (m + 1)) (f + z)))) (sym e) in (
      e,
      omega (arith, run_pos s t small tol f),
      omega (arith, run_within s t small tol f l),
      r,
      omega (arith, track_of_half s t small tol),
    )

pub loop-f-init : goal.loop-f-init
unfolding start_at
loop-f-init c = record {
  first = omega arith;
  fewer = omega arith;
  left = zero-add _ ∙ ap length (track_of_start c.args.samples.values.now c.args.samples.tolerance);
  start = refl;
  counts_len = omega arith;
  least_len = omega arith;
  stored = λ i h. absurd (omega arith);
}

pub note-requires : goal.note-requires
note-requires c = let x = c.args.samples in let i = c.loop-f.invariant in
    let k = more x.values.now x.tolerance _ _ _ _ x.small c.requires x.near c.loop-f-test.true i.fewer i.left (omega arith) c.longest_run-run.ensures.0 in (omega (arith, k), omega (arith, k, c.requires))

pub overflow_add-f : goal.overflow_add-f
overflow_add-f c = let x = c.args.samples in let i = c.loop-f.invariant in
    omega (arith, more x.values.now x.tolerance _ _ _ _ x.small c.requires x.near c.loop-f-test.true i.fewer i.left (omega arith) c.longest_run-run.ensures.0)

pub overflow_add-m : goal.overflow_add-m
overflow_add-m c = let x = c.args.samples in let i = c.loop-f.invariant in
    omega (arith, more x.values.now x.tolerance _ _ _ _ x.small c.requires x.near c.loop-f-test.true i.fewer i.left (omega arith) c.longest_run-run.ensures.0)

pub loop-f-smaller : goal.loop-f-smaller
loop-f-smaller c = let x = c.args.samples in let i = c.loop-f.invariant in
    omega (arith, more x.values.now x.tolerance _ _ _ _ x.small c.requires x.near c.loop-f-test.true i.fewer i.left (omega arith) c.longest_run-run.ensures.0)

pub loop-f-preserved : goal.loop-f-preserved
loop-f-preserved c =
    let x = c.args.samples in
    let r = c.longest_run-run.result in
    let i = c.loop-f.invariant in
    let k = more x.values.now x.tolerance _ _ _ _ x.small c.requires x.near c.loop-f-test.true i.fewer i.left (omega arith) c.longest_run-run.ensures.0 in
    record {
      first = omega (arith, k);
      fewer = omega (arith, k);
      left = omega (arith, k.3);
      start = start_at_next x.values.now x.tolerance c.loop-f.m c.loop-f.f r.count i.start k.0;
      counts_len = rw c.note.ensures.0 (simp length-set i.counts_len);
      least_len = rw c.note.ensures.1 (simp length-set i.least_len);
      stored = rw (c.note.ensures.0, c.note.ensures.1) (stored_more x.values.now x.tolerance c.loop-f.runs.counts c.loop-f.runs.least c.loop-f.m c.loop-f.f r.count r.least i.stored
          (omega (arith, k, i.counts_len)) (omega (arith, k, i.least_len)) i.start k.0 c.longest_run-run.ensures.1);
    }

pub returns : goal.returns
returns c =
    let x = c.args.samples in
    let i = c.loop-f.invariant in
    (omega (arith, ap length (rest_of_none x.values.now x.tolerance (length x.values.now - c.loop-f.m) c.loop-f.f (omega arith))), i.stored)
