-- `bulletin::form::put_minus` meets its contract. Assumes nothing.
use mathlib.Core.Path.{sym, subst}
use mathlib.Core.List.{List}
use Prim.Native.Nat.{ℕ, ◌<◌, ◌≤◌}
use native.Mathlib.Omega.{arith}
use lib.ListN.{set}
use Rattle.whole.specs.Whole.{pos_part, neg_part}
use Rattle.whole.proofs.Linear.{back, lt_z_true, lt_z_false}
use Rattle.text.specs.Put.{Put}
use Rattle.text.proofs.Puts.{put_none, put_one}
use Rattle.bulletin.proofs.Printing.{minus_is, minus_none}
use Rattle.bulletin.proofs.form.put_minus.Goals as goal

pub returns-then-z-lt0 : goal.returns-then-z-lt0
returns-then-z-lt0 c =
    let z = c.args.z in
    let room = c.args.room.now in
    let t : pos_part z < neg_part z = omega (arith, lt_z_true z _ (simp (back c.ranges.z) at c.if-z-lt0.true)) in
    subst (λ (bs : List ℕ). Put room 0 bs (set room 0 45) 1) (sym (minus_is z t)) (put_one room 0 45 (omega (arith, c.requires)))

pub returns : goal.returns
returns c =
    let z = c.args.z in
    let room = c.args.room.now in
    let t : neg_part z ≤ pos_part z = omega (arith, lt_z_false z _ (simp (back c.ranges.z) at c.if-z-lt0.false)) in
    subst (λ (bs : List ℕ). Put room 0 bs room 0) (sym (minus_none z t)) (put_none room 0)
