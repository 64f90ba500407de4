-- `lines::pass_text` meets its contract. Assumes nothing.
use Rattle.std.proofs.Common.{◌≡◌, ◌^◌, ◌<◌, length, List, ◌++◌, true, false, ℕ, ℤ, pos, sym, ap, ap₂, ◌∙◌, subst, arith, of_z, to_z}
use Rattle.std.specs.Int.{w64}
use Rattle.std.specs.Int.Signed.{le_z}
use lib.Signed.{mag}
use Rattle.whole.specs.Whole.{pos_part, ∣◌∣}
use Rattle.whole.proofs.Linear.{ret}
use Rattle.track.specs.Answer.{Outcome}
use Rattle.text.specs.Put.{Put}
use Rattle.text.specs.Table.{refused_line}
use Rattle.lines.specs.Text.{pass_line, segment_lines, outcome_text, pass_text_rule, lent_outcome}
use Rattle.text.proofs.Puts.{put_then, put_long}
use Rattle.lines.proofs.Texts.{lent_holds, refused_is, made_is}
use Rattle.lines.proofs.pass_text.Goals as goal

-- a number of what `pass_track` answers, read back
read : (z y : ℤ) → mag z < 2 ^ 63 → z ≡ y → to_z w64 (of_z w64 z) ≡ y
read z y h e = ret z h ∙ e

pub returns-then-n-ge1 : goal.returns-then-n-ge1
unfolding pass_text_rule
returns-then-n-ge1 c =
    let t = c.pass_track-r in
    let n = c.put_refused-line in
    let o = lent_outcome c.args.file.now c.args.pass in
    let h : mag t.result.refusal < 2 ^ 63 = omega arith in
    let e : to_z w64 (of_z w64 t.result.refusal) ≡ o.answer.refusal = read t.result.refusal o.answer.refusal h (ap (λ (o : Outcome). o.answer.refusal) t.ensures) in
    let y : le_z (pos 1) o.answer.refusal ≡ true = ap (le_z (pos 1)) (sym e) ∙ c.if-n-ge1.true in
    let w = ap refused_line e ∙ sym (refused_is c.args.pass o y) in
    (subst (λ (bs : List ℕ). Put c.args.room.now 0 bs n.new.room n.result) w n.ensures, e)

pub put_rows-end-requires : goal.put_rows-end-requires
put_rows-end-requires c =
    let t = c.pass_track-r in
    let o = lent_outcome c.args.file.now c.args.pass in
    let h = lent_holds c.args.file.now c.args.pass in
    let g : mag t.result.value < 2 ^ 63 = omega arith in
    let v = read t.result.value o.answer.value g (ap (λ (o : Outcome). o.answer.value) t.ensures) in
    let m : c.size.result ≡ pos_part o.answer.value = c.size.ensures ∙ ap ∣◌∣ v ∙ omega (arith, h.counted) in
    let r : length t.new.room ≡ length o.room = ap (λ (o : Outcome). length o.room) t.ensures in
    let p = c.put_pass-start in
    let l = put_long p.ensures.0 (omega (arith, p.ensures.1, c.requires)) in
    (omega arith, omega (arith, m, h.few, p.ensures.1, l, c.requires), omega (arith, m, h.there, r))

pub returns : goal.returns
unfolding pass_text_rule
returns c =
    let t = c.pass_track-r in
    let o = lent_outcome c.args.file.now c.args.pass in
    let h = lent_holds c.args.file.now c.args.pass in
    let f : mag t.result.refusal < 2 ^ 63 = omega arith in
    let g : mag t.result.value < 2 ^ 63 = omega arith in
    let e : to_z w64 (of_z w64 t.result.refusal) ≡ o.answer.refusal = read t.result.refusal o.answer.refusal f (ap (λ (o : Outcome). o.answer.refusal) t.ensures) in
    let v : to_z w64 (of_z w64 t.result.value) ≡ o.answer.value = read t.result.value o.answer.value g (ap (λ (o : Outcome). o.answer.value) t.ensures) in
    let m : c.size.result ≡ pos_part o.answer.value = c.size.ensures ∙ ap ∣◌∣ v ∙ omega (arith, h.counted) in
    let r : t.new.room ≡ o.room = ap (λ (o : Outcome). o.room) t.ensures in
    let p = c.put_pass-start in
    let n = c.put_rows-end in
    let y : le_z (pos 1) o.answer.refusal ≡ false = ap (le_z (pos 1)) (sym e) ∙ c.if-n-ge1.false in
    let w : pass_line c.args.pass (to_z w64 (of_z w64 t.result.value)) ++ segment_lines t.new.room c.size.result ≡ outcome_text c.args.pass o =
    ap₂ ◌++◌ (ap (pass_line c.args.pass) v) (ap₂ segment_lines r m) ∙ sym (made_is c.args.pass o y) in
    let q = put_then p.ensures.0 (omega (arith, p.ensures.1, c.requires)) n.ensures.0 in
    (subst (λ (bs : List ℕ). Put c.args.room.now 0 bs n.new.room n.result) w q, e)
