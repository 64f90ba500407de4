-- `text::bytes::put_all` meets its contract. Assumes nothing.
use Rattle.std.proofs.Common.{◌≡◌, length, map, get_or, sym, ap, ◌∙◌, arith}
use Rattle.std.proofs.lemmas.List.{length-map, get_or-map}
use Rattle.text.specs.Bytes.{bytes_of_all}
use Rattle.text.proofs.Paste.{pasted-none, words_more}
use Rattle.text.proofs.bytes.put_all.Goals as goal

pub loop-j-init : goal.loop-j-init
unfolding bytes_of_all
loop-j-init g c = sym (pasted-none _ _)

pub loop-j-preserved : goal.loop-j-preserved
loop-j-preserved g c =
    let bits = g.T.Eight.bits in
    let ns = c.args.ns.now in
    let n = c.index-ns-j in
    let k : length (map bits ns) ≡ length ns = length-map ns bits in
    let e : get_or (map bits ns) c.loop-j.j 0 ≡ c.bits.result = get_or-map bits ns c.loop-j.j n.result 0 c.loop-j-test.true ∙ ap bits (sym n.is) ∙ sym c.bits.ensures in
    words_more c.args.d.now c.loop-j.d c.copy.new.d c.to_le_bytes.result (map bits ns) c.args.at c.loop-j.j c.bits.result (omega arith) (omega arith) e c.bits.type_inv c.loop-j.invariant c.to_le_bytes.ensures c.copy.ensures
