-- `fringe::together::taken_by` meets its contract.
use mathlib.Core.Path.{sym, ap, ◌∙◌}
use Prim.Native.Nat.{◌/◌, ◌≤◌}
use native.Mathlib.Omega.{arith}
use lib.IntN.{pos}
use lib.ListN.{length, replicate, length-replicate}
use Rattle.whole.specs.Whole.{∣◌∣}
use Rattle.whole.proofs.Linear.{ret}
use Rattle.track.specs.Answer.{Outcome}
use Rattle.fringe.specs.Sharing.{taken_of}
use Rattle.fringe.proofs.Passes.{size_pos, lent}
use Rattle.fringe.proofs.together.taken_by.Goals as goal

-- where the room left is not ample the track is made, in room for 2,048 segments
pub returns-clause-segments : goal.returns-clause-segments
returns-clause-segments c =
    let s = c.args.p.session in
    let p = c.args.p.pass in
    let room = replicate 8192 (pos 0) in
    let m : 2048 ≤ length room / 4 = omega (arith, length-replicate 8192 (pos 0)) in
    c.size.ensures
    ∙ ap ∣◌∣ (ret c.track_in-r.result.value (omega arith) ∙ ap (λ (o : Outcome). o.answer.value) c.track_in-r.ensures ∙ lent s.file.now s.accepted p c.args.p.in_ranges room m (sym c.in_ok-places.ensures.number))
    ∙ size_pos _
    ∙ sym (ap (taken_of s.file.now p) c.if-ample.false)
