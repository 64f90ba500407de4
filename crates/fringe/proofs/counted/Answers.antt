-- `fringe::counted` meets its contract.
use mathlib.Core.Path.{◌≡◌, sym, ap, ◌∙◌}
use mathlib.Core.List.{List}
use Prim.Native.Nat.{ℕ, ◌/◌}
use native.Mathlib.Omega.{arith}
use lib.IntN.{ℤ, pos}
use lib.ListN.{length}
use Rattle.std.proofs.lemmas.Result.{err_from_is_err_and}
use Rattle.sections.specs.File.{refusal_of_rule, count_of_rule}
use Rattle.sections.proofs.Refused.{some_number}
use Rattle.fringe.specs.AllTracks.{in_turn, all_number, AllOutcome, tracks}
use Rattle.fringe.specs.Sharing.{number_from_rule}
use Rattle.fringe.proofs.Sharing.{turn-number}
use Rattle.fringe.proofs.Theorems.{refused_all, answered_all, of_file, of_passes_lem}
use Rattle.fringe.proofs.counted.Goals as goal

pub returns-in_err-session : goal.returns-in_err-session
returns-in_err-session c =
    let f = c.args.file.now in
    let room = c.args.room.now in
    let x = c.in_err-session.field-0.0 in
    let n = c.in_err-session.ensures.number in
    let p = err_from_is_err_and c.from_residual.result c.from_residual.ensures.1 in
    rw (p.1, p.2) (sym (refused_all f room _ (of_file f room (λ z. some_number x (n ∙ z)) ∙ sym n) (some_number x)))

-- the number that was found is that of the passes in turn, and so of the call
turns_are : (s t : List ℕ) (room : List ℤ) (n : ℕ) → t ≡ s → refusal_of_rule t ≡ 0 → n ≡ number_from_rule t (count_of_rule t 3) 0 (length room / 4) → (in_turn s (count_of_rule s 3) 0 room).refusal ≡ n
turns_are s t room n e z r = ap (λ (f : List ℕ). (in_turn f (count_of_rule f 3) 0 room).refusal) (sym e) ∙ turn-number t z (count_of_rule t 3) 0 room (omega arith) ∙ sym r

number_is : (s t : List ℕ) (room : List ℤ) (n : ℕ) → t ≡ s → refusal_of_rule t ≡ 0 → n ≡ number_from_rule t (count_of_rule t 3) 0 (length room / 4) → all_number s room ≡ n
number_is s t room n e z r = of_passes_lem s room (ap refusal_of_rule (sym e) ∙ z) ∙ turns_are s t room n e z r

pub returns-in_err-first_refused : goal.returns-in_err-first_refused
returns-in_err-first_refused c =
    let f = c.args.file.now in
    let room = c.args.room.now in
    let s = c.in_ok-session.session in
    let x = c.in_err-first_refused.field-0.0 in
    let p = err_from_is_err_and c.from_residual-in_err-first_refused.result c.from_residual-in_err-first_refused.ensures.1 in
    rw (p.1, p.2) (sym (refused_all f room _ (number_is f s.file.now room _ c.in_ok-session.ensures.file s.accepted c.in_err-first_refused.ensures) (some_number x)))

pub write_tracks-requires : goal.write_tracks-requires
write_tracks-requires c =
    let s = c.in_ok-session.session in
    turns_are s.file.now s.file.now c.args.room.now 0 (λ j. s.file.now) s.accepted c.in_ok-first_refused.ensures

pub returns : goal.returns
returns c =
    let f = c.args.file.now in
    let room = c.args.room.now in
    let s = c.in_ok-session.session in
    let w = c.write_tracks.ensures in
    let all : List ℕ → AllOutcome = λ (t : List ℕ). let turns = in_turn t (count_of_rule t 3) 0 room in record { answer = tracks (count_of_rule t 3) turns.counts; room = turns.room } in
    (λ i. record { answer = record { refusal = pos 0; counts = w.counts i }; room = w.room i })
    ∙ ap all c.in_ok-session.ensures.file
    ∙ sym (answered_all f room (number_is f s.file.now room 0 c.in_ok-session.ensures.file s.accepted c.in_ok-first_refused.ensures))
