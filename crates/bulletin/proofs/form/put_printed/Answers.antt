-- `bulletin::form::put_printed` meets its contract: sign, digits, point and decimals are put one behind the other. Assumes nothing.
use mathlib.Core.Path.{◌≡◌, ap, subst, ◌∙◌}
use mathlib.Core.List.{List, ◌∷◌, ◌++◌, append_assoc}
use Prim.Native.Nat.{ℕ, ◌+◌, ◌/◌, ◌^◌, ◌<◌, ◌≤◌}
use native.Mathlib.Omega.{arith}
use lib.ListN.{length, length-set, set}
use lib.IntN.{ℤ}
use mir.Syntax.{w64}
use mir.Val.{SFits, to_z, of_z}
use Rattle.whole.specs.Whole.{∣◌∣}
use Rattle.whole.proofs.Linear.{back}
use Rattle.text.specs.Decimal.{digits_of}
use Rattle.text.specs.Put.{Put}
use Rattle.text.proofs.Puts.{put_one, put_then}
use Rattle.bulletin.specs.Decimals.{last_digits, minus_of, printed}
use Rattle.bulletin.proofs.Printing.{minus_long, nineteen_before}
use Rattle.bulletin.proofs.form.put_printed.Goals as goal

-- of the number z that the code has by its bits: its size n, the part t of that before the point, and the sign, put up to `at`
module _ (p : ℕ) {z : ℤ} (f : SFits w64 z) {n t at : ℕ} {d e : List ℕ} (s : n ≡ ∣ to_z w64 (of_z w64 z) ∣) (w : t ≡ n / 10 ^ p) (m : Put d 0 (minus_of (to_z w64 (of_z w64 z))) e at) where
  sized : n ≡ ∣ z ∣
  sized = s ∙ ap ∣◌∣ (back f)

  whole_part : t ≡ ∣ z ∣ / 10 ^ p
  whole_part = w ∙ ap (λ (k : ℕ). k / 10 ^ p) sized

  signed : Put d 0 (minus_of z) e at
  signed = subst (λ (y : ℤ). Put d 0 (minus_of y) e at) (back f) m

  -- at most 19 digits follow the sign
  digits-most : at + length (digits_of t) ≤ 20
  digits-most = omega (arith, signed.place, minus_long z, ap (λ (k : ℕ). length (digits_of k)) whole_part, nineteen_before p z f)

  -- the sign and the digits before the point, put up to `point`
  module _ {point : ℕ} {g : List ℕ} (i : 32 ≤ length d) (l : length e ≡ length d) (k : length g ≡ length e) (u : Put e at (digits_of t) g point) where
    point-most : point ≤ 20
    point-most = omega (arith, u.place, digits-most)

    front : Put d 0 (minus_of z ++ digits_of (∣ z ∣ / 10 ^ p)) g point
    front = subst (λ (j : ℕ). Put d 0 (minus_of z ++ digits_of j) g point) whole_part (put_then signed (omega (arith, signed.place, minus_long z, i)) u)

    -- then the point and the decimals
    all : {h : List ℕ} {end : ℕ} → Put (set g point 46) (point + 1) (last_digits p n) h end → Put d 0 (printed p z) h end
    unfolding printed
    all {h} {end} v =
        let o : point < length g = omega (arith, point-most, k, l, i) in
        let put = put_then front (omega (arith, o, k, l)) (put_then (put_one g point 46 o) (omega (arith, o)) v) in
        let a = append_assoc (minus_of z) (digits_of (∣ z ∣ / 10 ^ p)) (46 ∷ last_digits p ∣ z ∣) in
        let b = ap (λ (j : ℕ). (minus_of z ++ digits_of (∣ z ∣ / 10 ^ p)) ++ (46 ∷ last_digits p j)) sized in
        subst (λ (bs : List ℕ). Put d 0 bs h end) (b ∙ a) put

pub put_natural-point-requires : goal.put_natural-point-requires
put_natural-point-requires c =
    let h = digits-most c.args.p c.ranges.z c.size-n.ensures c.tenths.ensures c.put_minus-at.ensures in
    omega (arith, h, c.put_minus-at.auto.room, c.requires.1)

pub bounds-room-point : goal.bounds-room-point
bounds-room-point c =
    let h = point-most c.args.p c.ranges.z c.size-n.ensures c.tenths.ensures c.put_minus-at.ensures c.requires.1 c.put_minus-at.auto.room c.put_natural-point.auto.room c.put_natural-point.ensures in
    omega (arith, h, c.put_natural-point.auto.room, c.put_minus-at.auto.room, c.requires.1)

pub overflow_add-point : goal.overflow_add-point
overflow_add-point c =
    let h = point-most c.args.p c.ranges.z c.size-n.ensures c.tenths.ensures c.put_minus-at.ensures c.requires.1 c.put_minus-at.auto.room c.put_natural-point.auto.room c.put_natural-point.ensures in
    omega (arith, h)

pub put_last-requires : goal.put_last-requires
put_last-requires c =
    let h = point-most c.args.p c.ranges.z c.size-n.ensures c.tenths.ensures c.put_minus-at.ensures c.requires.1 c.put_minus-at.auto.room c.put_natural-point.auto.room c.put_natural-point.ensures in
    simp length-set (omega (arith, h, c.put_natural-point.auto.room, c.put_minus-at.auto.room, c.requires.0, c.requires.1))

pub returns : goal.returns
returns c =
    all c.args.p c.ranges.z c.size-n.ensures c.tenths.ensures c.put_minus-at.ensures c.requires.1 c.put_minus-at.auto.room c.put_natural-point.auto.room c.put_natural-point.ensures
    c.put_last.ensures
