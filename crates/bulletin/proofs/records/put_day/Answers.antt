-- `bulletin::records::put_day` meets its contract. Assumes nothing.
use mathlib.Core.Path.{◌≡◌, sym, ap, ap₂, ◌∙◌}
use mathlib.Core.List.{List, [], ◌∷◌, ◌++◌}
use Prim.Native.Nat.{ℕ, ◌+◌, ◌*◌, ◌-◌}
use native.Mathlib.Omega.{arith}
use lib.IntN.{ℤ}
use lib.ListN.{take, drop}
use mir.Syntax.{w64}
use mir.Val.{SFits}
use Rattle.whole.proofs.Linear.{back}
use borrow.Author.Rules.{rules}
use Rattle.std.proofs.lemmas.List.{append_assoc, drop-drop}
use Rattle.std.proofs.lemmas.List.Edits.{sets-eq}
use Rattle.bulletin.specs.Reading.{numbers_of_rule}
use Rattle.bulletin.proofs.records.put_day.Goals as goal

pub returns : goal.returns
returns c =
    let at = 6 * c.args.k in
    let days = c.args.days.now in
    let d = c.args.d in
    let m : SFits w64 d.mjd = search rules in
    let x : SFits w64 d.x = search rules in
    let y : SFits w64 d.y = search rules in
    let u : SFits w64 d.ut1_utc = search rules in
    let t : SFits w64 d.tai_utc = search rules in
    let w : SFits w64 d.mark = search rules in
    let e : at + 6 - at ≡ 6 = omega arith in
    let is : c.copy_from_slice.new.self ≡ numbers_of_rule d =
    c.copy_from_slice.ensures.after
    ∙ (λ i. back m i ∷ back x i ∷ back y i ∷ back u i ∷ back t i ∷ back w i ∷ []) in
    ap₂ (λ (xs ys : List ℤ). take at days ++ (xs ++ ys)) is (ap (λ (n : ℕ). drop n (drop at days)) e ∙ drop-drop 6 at days)
    ∙ sym (append_assoc (take at days) (numbers_of_rule d) (drop (at + 6) days))
    ∙ sym (sets-eq (numbers_of_rule d) days at (omega (arith, c.requires, c.told-days)))
