-- `fringe::single::track_by` meets its contract.
use mathlib.Core.Path.{◌≡◌, refl, sym, ap, ap₂, ◌∙◌}
use mathlib.Core.List.{List}
use Prim.Native.Nat.{ℕ}
use lib.IntN.{ℤ, nat_abs}
use lib.ListN.{length, take}
use mir.Syntax.{w64}
use mir.Val.{to_z, of_z}
use Rattle.whole.specs.Refusals.{number_of}
use Rattle.whole.specs.declared.Number.{Number}
use Rattle.whole.proofs.Answers.{given_yes, given_no}
use Rattle.whole.proofs.Machine.{is}
use Rattle.earth.proofs.Floors.{leaf}
use Rattle.fields.specs.declared.Pass.{Pass}
use Rattle.fields.specs.Records.{InPass}
use Rattle.sections.proofs.Refused.{some_number}
use Rattle.delay.specs.Keeping.{lacks_of, room_by_rule}
use Rattle.delay.proofs.Epochs.{samples-read}
use Rattle.track.specs.Answer.{in_range, outcome, refused}
use Rattle.fringe.specs.OfRecord.{samples_by, outcome_by}
use Rattle.fringe.proofs.Taken.{room_start}
use Rattle.fringe.proofs.Passes.{lacks_same, in_range_lem}
use Rattle.fringe.proofs.single.track_by.Goals as goal

-- what is lacking for the pass, with the place that is lent, is what is lacking with room for 4,096
pub returns-in-Err : goal.returns-in-Err
unfolding outcome_by
returns-in-Err c =
    let p = c.args.p.pass in
    let s = c.args.p.session.file.now in
    let room = c.args.room.now in
    let r = c.in-Err.r in
    let e : number_of r ≡ lacks_of s p 4096 = c.in-Err.ensures.number ∙ lacks_same s p (length c.args.place.now) c.args.p.in_ranges c.requires in
    ap (λ (n : Number). record { answer = n; room = room }) c.from.ensures
    ∙ ap (λ (n : ℕ). refused n room) e
    ∙ sym (given_no (lacks_of s p 4096) _ (λ n. refused n room) (λ z. some_number r (e ∙ z)))

-- the samples as they are handed on, and the tolerance
samples_are : (s : List ℕ) (p : Pass) (place stored : List ℤ) → InPass p → stored ≡ room_by_rule s p place 0 → take (nat_abs (to_z w64 (of_z w64 p.samples))) stored ≡ samples_by s p
samples_are s p place stored h e = ap₂ take (samples-read p h) e ∙ room_start s p place 0 refl

tolerance_is : (p : Pass) → InPass p → to_z w64 (of_z w64 p.tolerance) ≡ p.tolerance
tolerance_is p h = is (leaf p.tolerance h.tolerance) tt

pub make_track-requires : goal.make_track-requires
make_track-requires c =
    let p = c.args.p.pass in
    let h = c.args.p.in_ranges in
    let s = c.args.p.session in
    let e = c.in_default.ensures.number ∙ lacks_same s.file.now p (length c.args.place.now) h c.requires in
    ap₂ in_range (samples_are s.file.now p c.args.place.now _ h c.in_default.ensures.room) (tolerance_is p h)
    ∙ in_range_lem s.file.now s.accepted p h 4096 (sym e)

pub returns : goal.returns
unfolding outcome_by
returns c =
    let p = c.args.p.pass in
    let h = c.args.p.in_ranges in
    let s = c.args.p.session.file.now in
    let room = c.args.room.now in
    let e = c.in_default.ensures.number ∙ lacks_same s p (length c.args.place.now) h c.requires in
    c.make_track.ensures
    ∙ ap₂ (λ (ys : List ℤ) (z : ℤ). outcome ys z room) (samples_are s p c.args.place.now _ h c.in_default.ensures.room) (tolerance_is p h)
    ∙ sym (given_yes (lacks_of s p 4096) _ (λ n. refused n room) (sym e))
