-- `bulletin::putting::record_at` meets its contract. Assumes nothing.
use mathlib.Core.Path.{◌≡◌, refl, sym, ◌∙◌}
use mathlib.Core.List.{List}
use Prim.Native.Nat.{ℕ, ◌+◌, ◌*◌}
use native.Mathlib.Omega.{arith}
use lib.IntN.{ℤ, pos}
use lib.ListN.{drop}
use lib.Seq.{get_or-drop}
use mir.Syntax.{w64}
use mir.Val.{to_z, of_z, SFits}
use Rattle.fields.specs.Records.{number_in, day_from_rule}
use Rattle.fields.proofs.Rows.{number_back}
use borrow.Author.Rules.{rules}
use Rattle.bulletin.proofs.putting.record_at.Goals as goal

-- number k of the record, which the code reads at place n
number_is : (numbers : List ℤ) (i n k : ℕ) → SFits w64 (number_in numbers n) → n ≡ 6 * i + k → to_z w64 (of_z w64 (number_in numbers n)) ≡ number_in (drop (6 * i) numbers) k
number_is numbers i n k f e = number_back numbers n (6 * i + k) f.sfits e ∙ sym (get_or-drop (6 * i) numbers k (pos 0))

pub returns : goal.returns
unfolding day_from_rule
returns c =
    let numbers = c.args.numbers.now in
    let at = 6 * c.args.i in
    let is = number_is numbers c.args.i in
    let m : SFits w64 (number_in numbers at) = search rules in
    let x : SFits w64 (number_in numbers (at + 1)) = search rules in
    let y : SFits w64 (number_in numbers (at + 2)) = search rules in
    let u : SFits w64 (number_in numbers (at + 3)) = search rules in
    let t : SFits w64 (number_in numbers (at + 4)) = search rules in
    let w : SFits w64 (number_in numbers (at + 5)) = search rules in
    λ j. record { mjd = is _ 0 m (omega arith) j; x = is _ 1 x refl j; y = is _ 2 y refl j; ut1_utc = is _ 3 u refl j; tai_utc = is _ 4 t refl j; mark = is _ 5 w refl j }
