-- `fringe::pass_track` meets its contract.
use mathlib.Core.Path.{◌≡◌, sym, ap, ◌∙◌}
use mathlib.Core.List.{List, [], ◌∷◌}
use Prim.Native.Nat.{ℕ, zero, suc, ◌<◌}
use borrow.Author.Tests.{ltb-true}
use lib.Dec.{ltb}
use lib.IntN.{ℤ}
use Rattle.whole.specs.declared.Number.{Number}
use Rattle.whole.specs.Refusals.{unless, first_of}
use Rattle.whole.specs.Answers.{no_number_rule}
use Rattle.whole.proofs.Refusals.{first_zero, unless_zero}
use Rattle.sections.specs.File.{refusal_of_rule, count_of_rule}
use Rattle.sections.proofs.Refused.{some_number}
use Rattle.track.specs.Answer.{Outcome, refused}
use Rattle.delay.proofs.Numbers.{samples-first}
use Rattle.fringe.specs.PassTrack.{pass_number, pass_outcome}
use Rattle.fringe.proofs.Passes.{lacking, by_index}
use Rattle.fringe.proofs.pass_track.Goals as goal

-- the file is accepted, and has the pass
found : (s : List ℕ) (i : ℕ) → 0 ≡ first_of (refusal_of_rule s ∷ unless (ltb i (count_of_rule s 3)) 5 ∷ []) → (refusal_of_rule s ≡ 0) × (i < count_of_rule s 3)
found s i e =
    let f = first_zero (refusal_of_rule s) (unless (ltb i (count_of_rule s 3)) 5 ∷ []) (sym e) in
    (f.0, ltb-true i (count_of_rule s 3) (unless_zero _ 4 (first_zero (unless (ltb i (count_of_rule s 3)) 5) [] f.1).0))

pub returns-in-Ok : goal.returns-in-Ok
returns-in-Ok c =
    let s = c.args.file.now in
    let i = c.args.pass in
    let h = found s i c.in-Ok.ensures.number in
    by_index s _ i _ c.in-Ok.ensures.pass.0 c.in-Ok.ensures.pass.1 h.0 h.1 c.args.room.now _ _ c.track_in.ensures

-- a number above 0 that the pass has, and the room as it was
gives : (s : List ℕ) (i : ℕ) (room : List ℤ) (r : Number) (n : ℕ) → r ≡ no_number_rule n → pass_number s i ≡ n → (n ≡ 0 → ⊥) → ◌≡◌ {A = Outcome} (record { answer = r; room = room }) (pass_outcome s i room)
gives s i room r n e k f =
    ap (λ (x : Number). record { answer = x; room = room }) e
    ∙ ap (λ (m : ℕ). refused m room) (sym k)
    ∙ sym (lacking s i room (λ z. f (sym k ∙ z)))

-- the first of two that apply stands before all that follow
before : (a b : ℕ) (ns : List ℕ) → (first_of (a ∷ b ∷ []) ≡ 0 → ⊥) → first_of (a ∷ b ∷ ns) ≡ first_of (a ∷ b ∷ [])
before zero zero ns g = absurd (g (λ j. 0))
before zero (suc b) ns g = λ j. suc b
before (suc a) b ns g = λ j. suc a

pub returns-in-Err : goal.returns-in-Err
returns-in-Err c =
    let s = c.args.file.now in
    let i = c.args.pass in
    let r = c.in-Err.r in
    let n = c.in-Err.ensures.number in
    let g = λ (z : first_of (refusal_of_rule s ∷ unless (ltb i (count_of_rule s 3)) 5 ∷ []) ≡ 0). some_number r (n ∙ z) in
    gives s i c.args.room.now c.from.result _ c.from.ensures (samples-first s i 4096 ∙ before _ _ _ g ∙ sym n) (some_number r)
