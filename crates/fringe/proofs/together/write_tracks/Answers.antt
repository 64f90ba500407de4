-- `fringe::together::write_tracks` meets its contract: pass i is given the rest of the room, and has its segments there.
use mathlib.Core.Path.{◌≡◌, refl, ap, ◌∙◌}
use mathlib.Core.List.{List, ◌++◌}
use Prim.Native.Nat.{ℕ, ◌+◌, ◌*◌, ◌-◌, ◌^◌, ◌≤◌, ◌<◌}
use borrow.Rule.Slice.PartMut.{same_len_mid}
use native.Mathlib.Omega.{arith}
use lib.IntN.{ℤ}
use lib.ListN.{length, take, drop, length-drop, length-set}
use lib.Signed.{mag}
use mir.Syntax.{w64}
use mir.Val.{to_z, of_z}
use Rattle.whole.specs.Whole.{∣◌∣}
use Rattle.whole.specs.declared.Number.{Number}
use Rattle.whole.proofs.Linear.{ret}
use Rattle.fields.specs.declared.Pass.{Pass}
use Rattle.session.specs.Records.{pass_of_rule}
use Rattle.sections.specs.File.{refusal_of_rule, count_of_rule}
use Rattle.track.specs.Answer.{Outcome}
use Rattle.fringe.specs.PassTrack.{pass_outcome}
use Rattle.fringe.specs.Promises.{PassTrackPromise}
use Rattle.fringe.specs.OfRecord.{TrackBy}
use Rattle.fringe.specs.Sharing.{segments_in}
use Rattle.fringe.proofs.Passes.{size_pos, by_index}
use Rattle.fringe.proofs.Sharing.{few_passes}
use Rattle.fringe.proofs.Written.{WrittenTo, written_more, count_here, fits_here, rest_lent, rest_back, all_room, all_counts}
use Rattle.fringe.proofs.together.write_tracks.Goals as goal

-- the outcome of the call, on the rest of the room
outcome_is : (file : List ℕ) (i at : ℕ) (room after : List ℤ) (r : Number) → PassTrackPromise file i (take (length room - at) (drop at room)) r after → ◌≡◌ {A = Outcome} (record { answer = r; room = after }) (pass_outcome file i (drop at room))
outcome_is file i at room after r e = e ∙ ap (pass_outcome file i) (rest_lent at room)

value_is : (file : List ℕ) (i at : ℕ) (room after : List ℤ) (r : Number) → mag r.value < 2 ^ 63 → PassTrackPromise file i (take (length room - at) (drop at room)) r after → to_z w64 (of_z w64 r.value) ≡ (pass_outcome file i (drop at room)).answer.value
value_is file i at room after r f e = ret r.value f ∙ ap (λ (o : Outcome). o.answer.value) (outcome_is file i at room after r e)

module _ (file : List ℕ) (z : refusal_of_rule file ≡ 0) (n i at : ℕ) (few : n ≤ count_of_rule file 3) (l : i < n) (start room counts : List ℤ) (inside : at ≤ length room) (w : WrittenTo file n start room counts at i) where
  module _ (size : ℕ) (after : List ℤ) (r : Number) (f : mag r.value < 2 ^ 63) (s : size ≡ ∣ to_z w64 (of_z w64 r.value) ∣) (e : PassTrackPromise file i (take (length room - at) (drop at room)) r after) where
    segments_are : size ≡ segments_in file i
    segments_are = s ∙ ap ∣◌∣ (value_is file i at room after r f e ∙ count_here file z n i l few start room counts at w) ∙ size_pos (segments_in file i)

    fits_now : at + 4 * size ≤ length room
    fits_now = omega (arith, segments_are, fits_here file z n i l few start room counts at w, length-drop at room, inside)

-- what the call answers, by the index of the pass
module _ (s t : List ℕ) (i : ℕ) (p : Pass) (f : t ≡ s) (e : p ≡ pass_of_rule s i) (z : refusal_of_rule s ≡ 0) (l : i < count_of_rule s 3) where
  promised : (room after : List ℤ) (r : Number) → TrackBy t p room r after → PassTrackPromise s i room r after
  promised = by_index s t i p f e z l

pub bounds-counts-i : goal.bounds-counts-i
bounds-counts-i c = omega (arith, few_passes c.args.session.file.now c.args.session.accepted)

pub overflow_mul-at : goal.overflow_mul-at
overflow_mul-at c =
    let x = c.args in
    let s = x.session in
    let n = count_of_rule s.file.now 3 in
    let a = c.loop-i in
    let l : a.i < n = omega arith in
    let k = promised s.file.now _ a.i _ c.at.ensures.0 c.at.ensures.1 s.accepted l _ _ _ c.track_in-r.ensures in
    record { fits = omega (arith, fits_now s.file.now s.accepted n a.i a.at (omega arith) l x.room.now a.room a.counts a.invariant.0 a.invariant.3 c.size.result c.track_in-r.new.room c.track_in-r.result (omega arith) c.size.ensures k) }

pub overflow_add-at : goal.overflow_add-at
overflow_add-at c =
    let x = c.args in
    let s = x.session in
    let n = count_of_rule s.file.now 3 in
    let a = c.loop-i in
    let l : a.i < n = omega arith in
    let k = promised s.file.now _ a.i _ c.at.ensures.0 c.at.ensures.1 s.accepted l _ _ _ c.track_in-r.ensures in
    record { fits = omega (arith, fits_now s.file.now s.accepted n a.i a.at (omega arith) l x.room.now a.room a.counts a.invariant.0 a.invariant.3 c.size.result c.track_in-r.new.room c.track_in-r.result (omega arith) c.size.ensures k) }

pub loop-i-preserved : goal.loop-i-preserved
loop-i-preserved c =
    let x = c.args in
    let s = x.session in
    let n = count_of_rule s.file.now 3 in
    let a = c.loop-i in
    let r = c.track_in-r in
    let l : a.i < n = omega arith in
    let w : n ≤ count_of_rule s.file.now 3 = omega arith in
    let few : a.i < 64 = omega (arith, few_passes s.file.now s.accepted) in
    let g : mag r.result.value < 2 ^ 63 = omega arith in
    let k = promised s.file.now _ a.i _ c.at.ensures.0 c.at.ensures.1 s.accepted l _ _ _ r.ensures in
    let same : length (take a.at a.room ++ (r.new.room ++ drop (length a.room - a.at) (drop a.at a.room))) ≡ length a.room = same_len_mid a.at (length a.room - a.at) a.room r.new.room r.auto.room in (
      omega (arith, same, fits_now s.file.now s.accepted n a.i a.at w l x.room.now a.room a.counts a.invariant.0 a.invariant.3 c.size.result r.new.room r.result g c.size.ensures k),
      same ∙ a.invariant.1,
      length-set a.counts a.i _ ∙ a.invariant.2,
      written_more s.file.now s.accepted n a.i l w x.room.now a.room a.counts a.at a.invariant.3 a.invariant.0 _
          (rest_back a.at a.room r.new.room ∙ ap (λ (o : Outcome). take a.at a.room ++ o.room) (outcome_is s.file.now a.i a.at a.room r.new.room r.result k))
          _ c.size.result _ _ few a.invariant.2 (value_is s.file.now a.i a.at a.room r.new.room r.result g k)
          (segments_are s.file.now s.accepted n a.i a.at w l x.room.now a.room a.counts a.invariant.0 a.invariant.3 c.size.result r.new.room r.result g c.size.ensures k)
          refl refl,
    )

pub returns-clause-counts : goal.returns-clause-counts
returns-clause-counts c =
    let a = c.loop-i in
    let f = c.args.session.file.now in
    let e : a.i ≡ count_of_rule f 3 = omega arith in
    all_counts f (count_of_rule f 3) a.i e c.args.room.now a.room a.counts a.at a.invariant.3

pub returns-clause-room : goal.returns-clause-room
returns-clause-room c =
    let a = c.loop-i in
    let f = c.args.session.file.now in
    let e : a.i ≡ count_of_rule f 3 = omega arith in
    all_room f (count_of_rule f 3) a.i e c.args.room.now a.room a.counts a.at a.invariant.3
