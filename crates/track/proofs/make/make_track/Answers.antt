use Rattle.std.proofs.Common.{◌≡◌, sym, ap, ◌∙◌, List, ℕ, ℤ, ◌*◌, ◌≤◌, ◌++◌, length, drop, arith, w64, pos, to_z}
use lib.IntN.{nat_abs}
use mir.ValLaws.{to_z_pos}
use Rattle.whole.specs.Whole.{pos_part}
use Rattle.whole.specs.declared.Number.{Number}
use Rattle.whole.proofs.Linear.{back}
use Rattle.track.specs.Segments.{flat}
use Rattle.track.specs.Made.{track_of}
use Rattle.track.proofs.Ranged.{Ranged, ranged, handed_on}
use Rattle.track.proofs.Answers.{answer_8, answer_0}
use Rattle.track.proofs.Theorems.{track_of_half}
use Rattle.track.proofs.make.make_track.Goals as goal

-- there is a place for each run
noted : (s : List ℤ) (t z : ℤ) (m : ℕ) → z ≡ t → Ranged s t → m ≡ length (track_of s (nat_abs z)) → m ≤ 2048
noted s t z m e g many =
    let h = handed_on t z e g in
    omega (arith, many ∙ ap (λ (n : ℕ). length (track_of s n)) h.same, track_of_half s (pos_part t) g.small g.tol, g.few)

pub overflow_cast-samples : goal.overflow_cast-samples
overflow_cast-samples c = (handed_on _ _ (back c.ranges.tolerance) (ranged c.args.samples.now c.args.tolerance c.requires)).cast

pub invariant_of-samples : goal.invariant_of-samples
invariant_of-samples c =
    let g = ranged c.args.samples.now c.args.tolerance c.requires in
    record { small = g.small; near = (handed_on _ _ (back c.ranges.tolerance) g).most }

pub count_segments-m-requires : goal.count_segments-m-requires
count_segments-m-requires c = (ranged c.args.samples.now c.args.tolerance c.requires).few

-- The room is too short: 8,
-- and it stays as it was.
pub returns-then-room-m : goal.returns-then-room-m
returns-then-room-m c =
    let s = c.args.samples.now in
    let t = c.args.tolerance in
    let h = handed_on _ _ (back c.ranges.tolerance) (ranged s t c.requires) in
    let many = c.count_segments-m.ensures.0 ∙ ap (λ (n : ℕ). length (track_of s n)) h.same in
    ap (λ (n : Number). record { answer = n; room = c.args.room.now }) c.from.ensures
    ∙ sym (answer_8 s t c.args.room.now c.requires (omega (arith, c.if-room-m.true, many)))

pub write_segments-requires-clause-all : goal.write_segments-requires-clause-all
write_segments-requires-clause-all c =
    let many = c.count_segments-m.ensures.0 in
    (many, noted c.args.samples.now c.args.tolerance _ _ (back c.ranges.tolerance) (ranged c.args.samples.now c.args.tolerance c.requires) many)

pub returns : goal.returns
returns c =
    let s = c.args.samples.now in
    let t = c.args.tolerance in
    let g = ranged s t c.requires in
    let h = handed_on _ _ (back c.ranges.tolerance) g in
    let xs = track_of s (pos_part t) in
    let many : c.count_segments-m.result ≡ length xs = c.count_segments-m.ensures.0 ∙ ap (λ (n : ℕ). length (track_of s n)) h.same in
    let r : c.write_segments.new.room ≡ flat xs ++ drop (4 * length xs) c.args.room.now =
    c.write_segments.ensures ∙ ap (λ (n : ℕ). flat (track_of s n) ++ drop (4 * length (track_of s n)) c.args.room.now) h.same in
    let v : to_z w64 c.count_segments-m.result ≡ pos (length xs) =
    ap (λ (n : ℕ). to_z w64 n) many ∙ to_z_pos w64 (length xs) (omega (arith, track_of_half s (pos_part t) g.small g.tol, g.few)) in
    ap (λ (n : Number). record { answer = n; room = c.write_segments.new.room }) c.from-2.ensures
    ∙ (λ i. record { answer = record { refusal = pos 0; value = v i }; room = r i })
    ∙ sym (answer_0 s t c.args.room.now c.requires (omega (arith, c.if-room-m.false, many)))
