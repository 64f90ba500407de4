use Rattle.std.proofs.Common.{◌≡◌, refl, sym, ap, subst, ◌∙◌, List, ℕ, ℤ, pos, ◌++◌, ◌∷◌, ◌+◌, ◌-◌, ◌*◌, ◌<◌, ◌≤◌, length, take, drop, get_or, arith, zero-add, w64, to_z, of_z}
use lib.Dec.{T}
use lib.Seq.{take_all}
use mathlib.Core.Logic.{⊎_elim}
use mir.ValLaws.{to_z_pos}
use Rattle.whole.proofs.Linear.{back, abs_fits}
use Rattle.fit.specs.Line.{Small}
use Rattle.fit.specs.Rates.{fit_of, least, offset_of, rate_of_rule}
use Rattle.fit.proofs.Lines.{offset_size, rate_size}
use Rattle.fit.proofs.Tests.{lt_or}
use Rattle.track.specs.Segments.{flat}
use Rattle.track.specs.Made.{track_of, run_of, seg_of, start_at, Stored}
use Rattle.track.proofs.Runs.{rest_of, flat-length, track_of_start, rest_step, rest_of_none, run_pos, run_within, run_cap, run_fits, start_at_next}
use Rattle.track.proofs.Room.{put_again}
use Rattle.track.proofs.write.write_segments.Goals as goal

-- the run at m: as noted, it is the longest from f, and fits
run : (s : List ℤ) (t : ℕ) (ks ps : List ℕ) (f m n k l : ℕ) → Small s → t ≤ 1_000_000 → Stored s t ks ps n → (k ≡ get_or ks m 0) × (l ≡ get_or ps m 0) → m < n
    → n ≡ length (track_of s t) → m ≤ f → m + length (rest_of s t (length s - m) f) ≡ length (track_of s t) → f ≡ start_at s t m
    → (1 ≤ k) × (k ≤ 1024) × (f + k ≤ length s) × T (fit_of s t f k)
    × (rest_of s t (length s - m) f ≡ seg_of s t f k ∷ rest_of s t (length s - (m + 1)) (f + k))
    × (l ≡ least s t f k) × (k ≡ run_of s t f)
run s t ks ps f m n k l small tol stored noted d all fewer left start =
    let h : f < length s = ⊎_elim (λ p. p) (λ p. absurd (omega (arith, ap length (rest_of_none s t (length s - m) f p), left))) (lt_or f (length s)) in
    let st = stored m d in
    let e : k ≡ run_of s t f = noted.0 ∙ st.0 ∙ ap (λ (z : ℕ). run_of s t z) (sym start) in (
      omega (arith, run_pos s t small tol f),
      omega (arith, run_cap s t small tol f h),
      omega (arith, run_within s t small tol f h),
      subst (λ (z : ℕ). T (fit_of s t f z)) (sym e) (run_fits s t small tol f),
      rest_step s t f m k h fewer e,
      noted.1 ∙ st.1 ∙ ap (λ (z : ℕ). least s t z (run_of s t z)) (sym start) ∙ ap (λ (z : ℕ). least s t f z) (sym e),
      e,
    )

pub loop-m-init : goal.loop-m-init
unfolding start_at
loop-m-init c = let x = c.args.samples in record {
  first = omega arith;
  fewer = omega arith;
  left = zero-add _ ∙ ap length (track_of_start x.values.now x.tolerance);
  room_len = refl;
  ahead = ap flat (sym (track_of_start x.values.now x.tolerance));
  so_far = refl;
  start = refl;
}

pub line_of-line-requires-clause-le_count : goal.line_of-line-requires-clause-le_count
line_of-line-requires-clause-le_count c = let x = c.args.samples in let i = c.loop-m.invariant in
    let r = run x.values.now x.tolerance c.args.runs.now.counts c.args.runs.now.least c.loop-m.f c.loop-m.m _ _ _ x.small x.near c.requires.stored c.at-run.ensures (omega arith) c.requires.all.0 i.fewer i.left i.start in (r.0, r.1, r.2)

pub line_of-line-requires-clause-fits : goal.line_of-line-requires-clause-fits
line_of-line-requires-clause-fits c = let x = c.args.samples in let i = c.loop-m.invariant in
    let r = run x.values.now x.tolerance c.args.runs.now.counts c.args.runs.now.least c.loop-m.f c.loop-m.m _ _ _ x.small x.near c.requires.stored c.at-run.ensures (omega arith) c.requires.all.0 i.fewer i.left i.start in (r.3, r.5)

pub overflow_cast-run : goal.overflow_cast-run
overflow_cast-run c = let x = c.args.samples in let i = c.loop-m.invariant in
    record { sfits = omega (arith, run x.values.now x.tolerance c.args.runs.now.counts c.args.runs.now.least c.loop-m.f c.loop-m.m _ _ _ x.small x.near c.requires.stored c.at-run.ensures (omega arith) c.requires.all.0 i.fewer i.left i.start) }

pub overflow_add-f : goal.overflow_add-f
overflow_add-f c = let x = c.args.samples in let i = c.loop-m.invariant in
    record { fits = omega (arith, run x.values.now x.tolerance c.args.runs.now.counts c.args.runs.now.least c.loop-m.f c.loop-m.m _ _ _ x.small x.near c.requires.stored c.at-run.ensures (omega arith) c.requires.all.0 i.fewer i.left i.start, c.well_formed) }

pub loop-m-preserved : goal.loop-m-preserved
unfolding flat seg_of
loop-m-preserved c =
    let x = c.args.samples in
    let s = x.values.now in
    let t = x.tolerance in
    let f = c.loop-m.f in
    let m = c.loop-m.m in
    let k = c.at-run.result.count in
    let i = c.loop-m.invariant in
    let line = c.line_of-line.ensures in
    let r = run s t c.args.runs.now.counts c.args.runs.now.least f m _ _ _ x.small x.near c.requires.stored c.at-run.ensures (omega arith) c.requires.all.0 i.fewer i.left i.start in
    let w = put_again (flat (track_of s t)) c.args.room.now c.loop-m.room c.put.new.room (flat (rest_of s t (length s - (m + 1)) (f + k))) m
    (pos f) (pos k) (offset_of s t f k) (rate_of_rule s t f k) _ _ _ _
    (i.ahead ∙ ap flat r.4) (omega (arith, c.requires.all, c.requires.fits, c.loop-m-test.true)) i.so_far c.put.ensures
    (to_z_pos w64 f (omega (arith, r, c.well_formed))) (to_z_pos w64 k (omega (arith, r)))
    (ap (λ (z : ℤ). to_z w64 (of_z w64 z)) line.0 ∙ back {z = offset_of s t f k} (abs_fits (omega (arith, offset_size s t x.small x.near f k r.0 r.3))))
    (ap (λ (z : ℤ). to_z w64 (of_z w64 z)) line.1 ∙ back {z = rate_of_rule s t f k} (abs_fits (omega (arith, rate_size s t x.small x.near f k r.3)))) in record {
      first = omega (arith, r);
      fewer = omega (arith, r);
      left = omega (arith, ap length r.4, i.left);
      room_len = c.put.auto.room ∙ i.room_len;
      ahead = w.0;
      so_far = w.1;
      start = start_at_next s t m f k i.start r.6;
    }

pub returns : goal.returns
returns c =
    let x = c.args.samples in
    let i = c.loop-m.invariant in
    let xs = track_of x.values.now x.tolerance in
    let e : c.loop-m.m ≡ length xs = omega (arith, c.requires.all, c.loop-m.auto.m-end, c.loop-m-test.false) in
    i.so_far ∙ ap (λ (z : ℕ). take (4 * z) (flat xs) ++ drop (4 * z) c.args.room.now) e
    ∙ ap (λ (z : List ℤ). z ++ drop (4 * length xs) c.args.room.now) (take_all (4 * length xs) (flat xs) (omega (arith, flat-length xs)))
