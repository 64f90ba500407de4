-- `text::decimal::put_natural` meets its contract: the digits left to be put are as many as places. Assumes nothing.
use Rattle.std.proofs.Common.{◌≡◌, ◌+◌, ◌-◌, ◌/◌, ◌%◌, ◌<◌, ◌≤◌, length, set, ℕ, List, suc, sym, ap, ◌∙◌, arith}
use Rattle.text.specs.Bytes.{pasted}
use Rattle.text.specs.Decimal.{digits_of}
use Rattle.text.proofs.Digits.{lowest, lowest_long, lowest_all}
use Rattle.text.proofs.Paste.{pasted-none}
use Rattle.text.proofs.Puts.{pasted-before}
use Rattle.text.proofs.decimal.put_natural.Goals as goal

-- the last digit, where it belongs, leaves those before it to be put
digit-put : (room : List ℕ) (at i rest : ℕ) → at < i → i ≤ length room
    → pasted (set room (i - 1) (48 + rest % 10)) at (lowest (i - 1 - at) (rest / 10)) ≡ pasted room at (lowest (i - at) rest)
unfolding lowest
digit-put room at i rest h k =
    let ds = lowest (i - 1 - at) (rest / 10) in
    let e : i - 1 ≡ at + length ds = omega (arith, lowest_long (i - 1 - at) (rest / 10)) in
    let f : i - at ≡ suc (i - 1 - at) = omega arith in
    ap (λ (j : ℕ). pasted (set room j (48 + rest % 10)) at ds) e
    ∙ pasted-before room at ds (48 + rest % 10) (omega arith)
    ∙ ap (λ (j : ℕ). pasted room at (lowest j rest)) (sym f)

pub loop-i-init : goal.loop-i-init
loop-i-init c =
    let e : c.args.at + c.digits.result - c.args.at ≡ length (digits_of c.args.n) = omega arith in
    ap (λ (k : ℕ). pasted c.args.room.now c.args.at (lowest k c.args.n)) e ∙ ap (pasted c.args.room.now c.args.at) (lowest_all c.args.n)

pub loop-i-preserved : goal.loop-i-preserved
loop-i-preserved c = let l = c.loop-i in digit-put l.room c.args.at l.i l.rest (omega arith) (omega arith) ∙ l.invariant

pub returns : goal.returns
unfolding lowest
returns c =
    let l = c.loop-i in
    let e : 0 ≡ l.i - c.args.at = omega arith in
    record {
      bytes = sym (pasted-none l.room c.args.at) ∙ ap (λ (k : ℕ). pasted l.room c.args.at (lowest k l.rest)) e ∙ l.invariant;
      place = ap (λ (n : ℕ). c.args.at + n) c.digits.ensures;
    }
