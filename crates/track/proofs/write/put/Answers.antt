use Rattle.std.proofs.Common.{◌≡◌, ap, ◌∙◌, List, ℕ, ℤ, [], ◌∷◌, ◌++◌, ◌+◌, ◌-◌, drop, take, arith}
use borrow.Rule.Slice.PartMut.{put_mid}
use Rattle.std.proofs.lemmas.List.{drop-drop}
use Rattle.whole.proofs.Linear.{back}
use Rattle.track.proofs.write.put.Goals as goal

pub returns : goal.returns
returns c =
    let y = c.args in
    let r = y.room.now in
    let end : y.at + (y.at + 4 - y.at) ≡ y.at + 4 = omega arith in
    ap (λ (l : List ℤ). put_mid y.at (y.at + 4 - y.at) r l) c.copy_from_slice.ensures.after
    ∙ (λ i. put_mid y.at (y.at + 4 - y.at) r (back c.ranges.a i ∷ back c.ranges.b i ∷ back c.ranges.c i ∷ back c.ranges.d i ∷ []))
    ∙ ap (λ (l : List ℤ). take y.at r ++ (y.a ∷ y.b ∷ y.c ∷ y.d ∷ l)) (drop-drop (y.at + 4 - y.at) y.at r ∙ ap (λ (n : ℕ). drop n r) end)
