use Rattle.std.proofs.Common.{◌≡◌, ap, ◌∙◌, List, [], ◌∷◌, ◌++◌, append_assoc, ℕ, length, length-append, arith, w64, of_z}
use Rattle.std.proofs.lemmas.List.{length-map}
use Rattle.text.specs.Bytes.{bytes_of_all, words_of, pasted}
use Rattle.text.proofs.Paste.{more}
use Rattle.sections.specs.Layouts.{places}
use Rattle.whole.specs.Values.{joined}
use Rattle.writer.specs.Writing.{start_for, contents_for_rule, file_words, file_of}
use Rattle.writer.proofs.Longest.{contents_long, made-long, made-fits}
use Rattle.writer.proofs.encode.Goals as goal

pub put_words-requires : goal.put_words-requires
unfolding start_for
put_words-requires c =
    let a = c.args.l in
    let ls = a.stations.now ∷ a.sources.now ∷ a.days.now ∷ a.passes.now ∷ [] in
    omega (arith, ap length c.contents_for-h.ensures, contents_long places a.kinds ls, c.requires.1, made-long places a.kinds ls)

pub put_list-s2-requires : goal.put_list-s2-requires
unfolding start_for
put_list-s2-requires c = omega (arith, made-fits places _ _ _ c.requires.1)

pub put_list-s3-requires : goal.put_list-s3-requires
unfolding start_for
put_list-s3-requires c = omega (arith, made-fits places _ _ _ c.requires.1)

pub put_list-s4-requires : goal.put_list-s4-requires
unfolding start_for
put_list-s4-requires c = omega (arith, made-fits places _ _ _ c.requires.1)

pub put_list-requires : goal.put_list-requires
unfolding start_for
put_list-requires c = omega (arith, made-fits places _ _ _ c.requires.1)

pub returns : goal.returns
unfolding file_of file_words joined start_for
returns c =
    let a = c.args.l in
    let ls = a.stations.now ∷ a.sources.now ∷ a.days.now ∷ a.passes.now ∷ [] in
    let h = contents_for_rule places a.kinds ls in
    let wp = words_of a.stations.now in
    let wq = words_of a.sources.now in
    let wr = words_of a.days.now in
    let wt = words_of a.passes.now in
    let long = made-long places a.kinds ls in
    let lh = contents_long places a.kinds ls in
    let lp = length-map a.stations.now (of_z w64) in
    let lq = length-map a.sources.now (of_z w64) in
    let lr = length-map a.days.now (of_z w64) in
    let d = c.args.d.now in
    let e1 = c.put_list-s2.ensures in
    let e2 = c.put_list-s3.ensures in
    let e3 = c.put_list-s4.ensures in
    let e4 = c.put_list.ensures in
    let m0 : c.put_words.new.d ≡ pasted d 0 (bytes_of_all h) = rw c.contents_for-h.ensures at c.put_words.ensures in
    let m1 = more d _ _ h wp _ m0 e1.1 (omega (arith, lh)) (omega (arith, lh, c.requires.1, long)) in
    let n1 = length-append h wp in
    let m2 = more d _ _ (h ++ wp) wq _ m1 e2.1 (omega (arith, e1.0)) (omega (arith, c.requires.1, long)) in
    let n2 = length-append (h ++ wp) wq in
    let m3 = more d _ _ ((h ++ wp) ++ wq) wr _ m2 e3.1 (omega (arith, e1.0, e2.0)) (omega (arith, c.requires.1, long)) in
    let n3 = length-append ((h ++ wp) ++ wq) wr in
    let m4 = more d _ _ (((h ++ wp) ++ wq) ++ wr) wt _ m3 e4.1 (omega (arith, e1.0, e2.0, e3.0)) (omega (arith, c.requires.1, long)) in
    let s : ((((h ++ wp) ++ wq) ++ wr) ++ wt) ≡ h ++ (((wp ++ wq) ++ wr) ++ wt) = simp append_assoc in
    record {
      bytes = m4 ∙ ap (λ (x : List ℕ). pasted d 0 (bytes_of_all x)) s;
      place = omega (arith, long, e1.0, e2.0, e3.0, e4.0);
    }
