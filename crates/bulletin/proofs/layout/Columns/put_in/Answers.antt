-- `bulletin::layout::Columns::put_in` meets its contract. Assumes nothing.
use mathlib.Core.Path.{◌≡◌, sym, ap₂, subst, ◌∙◌}
use mathlib.Core.List.{List}
use Prim.Native.Nat.{ℕ, ◌-◌}
use native.Mathlib.Nat.{zero-add}
use lib.Seq.{length-take-le}
use lib.ListN.{length, replicate, take}
use lib.IntN.{ℤ}
use mir.Syntax.{w64}
use mir.Val.{SFits, to_z, of_z}
use Rattle.whole.proofs.Linear.{back}
use Rattle.text.specs.Bytes.{pasted}
use Rattle.text.specs.Put.{Put}
use Rattle.text.proofs.Puts.{put_start, put_inside}
use Rattle.bulletin.specs.Columns.{with_decimal}
use Rattle.bulletin.specs.Decimals.{printed}
use Rattle.bulletin.proofs.layout.Columns.put_in.Goals as goal

-- what the code has printed: n bytes e
module _ (p : ℕ) {z : ℤ} (f : SFits w64 z) {n : ℕ} {e : List ℕ} (u : Put (replicate 32 0) 0 (printed p (to_z w64 (of_z w64 z))) e n) where
  shown : Put (replicate 32 0) 0 (printed p z) e n
  shown = subst (λ (y : ℤ). Put (replicate 32 0) 0 (printed p y) e n) (back f) u

  long : n ≡ length (printed p z)
  long = shown.place ∙ zero-add (length (printed p z))

  shown_is : take n e ≡ printed p z
  shown_is = put_start shown

pub slice_bounds-bytes-end : goal.slice_bounds-bytes-end
slice_bounds-bytes-end c = put_inside (shown c.args.self.decimals c.ranges.z c.put_printed-n.ensures)

pub slice_bounds-copy-end : goal.slice_bounds-copy-end
slice_bounds-copy-end c = sym (length-take-le _ _ (put_inside (shown c.args.self.decimals c.ranges.z c.put_printed-n.ensures)))

pub returns : goal.returns
unfolding with_decimal
returns c =
    let p = c.args.self.decimals in
    let u = c.put_printed-n.ensures in
    c.copy.ensures ∙ ap₂ (λ (k : ℕ) (bs : List ℕ). pasted c.args.row.now (c.args.self.last - k) bs) (long p c.ranges.z u) (shown_is p c.ranges.z u)
