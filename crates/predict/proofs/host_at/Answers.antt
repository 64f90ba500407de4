use Rattle.std.proofs.Common.{◌≡◌, sym, ap, subst, ◌∙◌, ◌≤◌, arith, List, ℕ, ℤ, pos, w64, to_z, of_z}
use lib.Ieee.{of_bits, of_int}
use Rattle.whole.specs.Whole.{∣◌∣}
use Rattle.whole.specs.Answers.{number}
use Rattle.whole.specs.Refusals.{number_of}
use Rattle.whole.specs.declared.Number.{Number}
use Rattle.whole.proofs.Linear.{back, abs_fits}
use Rattle.whole.proofs.Answers.{given_yes, given_no, answer_yes}
use Rattle.predict.specs.Lent.{lent_of, prediction_at_rule, predict_number, predict_outcome}
use Rattle.predict.specs.Host.{record_of_rule, zeros, host_answer, no_host, host_outcome}
use Rattle.predict.proofs.Answers.{number_some, value_size, number-most, refusal_is}
use Rattle.predict.proofs.host_at.Goals as goal

-- a prediction, as its double is made of it
exact : (s : List ℤ) (k : ℕ) (ps : ℤ) → number ps ≡ predict_outcome s k → to_z w64 (of_z w64 ps) ≡ (predict_outcome s k).value
exact s k ps e =
    ap (λ (n : Number). to_z w64 (of_z w64 n.value)) e ∙ back {z = (predict_outcome s k).value} (abs_fits (omega (arith, value_size s k)))

pub record_of-requires : goal.record_of-requires
record_of-requires c =
    let s = c.args.track.now in
    let k = c.args.sample in
    subst (λ (z : ℤ). ∣ z ∣ ≤ 131_000_000_000) (sym (exact s k c.in-Ok.ps c.in-Ok.ensures)) (value_size s k)

pub returns-in-Ok : goal.returns-in-Ok
unfolding host_outcome predict_outcome
returns-in-Ok c =
    let s = c.args.track.now in
    let k = c.args.sample in
    let e : pos 0 ≡ pos (predict_number s k) = ap (λ (n : Number). n.refusal) c.in-Ok.ensures ∙ refusal_is s k in
    let z : predict_number s k ≡ 0 = cc in
    let ps = prediction_at_rule (lent_of s) k in
    let r : c.record_of.result ≡ record_of_rule ps =
    c.record_of.ensures ∙ ap record_of_rule (exact s k c.in-Ok.ps c.in-Ok.ensures ∙ ap (λ (n : Number). n.value) (answer_yes (predict_number s k) ps z)) in
    (λ i. record { refusal = pos 0; «record» = r i }) ∙ sym (given_yes (predict_number s k) (host_answer ps) no_host z)

pub returns-in-Err : goal.returns-in-Err
unfolding host_outcome of_bits of_int
returns-in-Err c =
    let s = c.args.track.now in
    let k = c.args.sample in
    let e : pos (number_of c.in-Err.r) ≡ pos (predict_number s k) = ap (λ (n : Number). n.refusal) c.in-Err.ensures ∙ refusal_is s k in
    let n : number_of c.in-Err.r ≡ predict_number s k = cc in
    let number_is : to_z w64 (of_z w64 c.number.result) ≡ pos (predict_number s k) =
    ap (λ (z : ℤ). to_z w64 (of_z w64 z)) (c.number.ensures ∙ e) ∙ back {z = pos (predict_number s k)} (abs_fits (omega (arith, number-most s k))) in
    (λ i. record { refusal = number_is i; «record» = zeros })
    ∙ sym (given_no (predict_number s k) (host_answer (prediction_at_rule (lent_of s) k)) no_host (λ z. number_some c.in-Err.r (n ∙ z)))
