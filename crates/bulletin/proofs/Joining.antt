-- Records that are put into an array of zeros one behind the other. Assumes nothing.
use mathlib.Core.Path.{◌≡◌, sym, ap, ap₂, ◌∙◌}
use mathlib.Core.List.{List, ◌++◌}
use Prim.Native.Nat.{ℕ, zero, suc, ◌+◌, ◌-◌, ◌*◌, ◌≤◌, ◌<◌}
use native.Mathlib.Nat.{zero-add, suc-add}
use native.Mathlib.Numerals.{add-one}
use native.Mathlib.Omega.{arith}
use lib.ListN.{length, take, drop, replicate, length-append, length-replicate}
use lib.Seq.{sets, sets-eq, take_at, drop-append-add}
use lib.IntN.{ℤ, pos}
use Rattle.whole.specs.Values.{joined}
use Rattle.whole.proofs.Values.{joined_even}

drop-zeros : (n m : ℕ) → drop n (replicate (n + m) (pos 0)) ≡ replicate m (pos 0)
drop-zeros zero m = ap (λ (k : ℕ). replicate k (pos 0)) (zero-add m)
drop-zeros (suc n) m = rw (suc-add n m) (drop-zeros n m)

module _ (f : ℕ → List ℤ) (each : (i : ℕ) → length (f i) ≡ 6) (k : ℕ) (h : k < 64) where
  -- one record more
  pub store_next : sets (joined k f ++ replicate (384 - 6 * k) (pos 0)) (6 * k) (f k) ≡ joined (k + 1) f ++ replicate (384 - 6 * (k + 1)) (pos 0)
  unfolding joined
  store_next =
      let l = joined k f ++ replicate (384 - 6 * k) (pos 0) in
      let n : length (joined k f) ≡ 6 * k = joined_even f 6 k (λ i l. each i) in
      let m : 384 - 6 * k ≡ 6 + (384 - 6 * (k + 1)) = omega arith in
      let a : 6 * k + length (f k) ≡ length (joined k f) + 6 = omega (arith, each k, n) in
      let e : 6 * k + length (f k) ≤ length l = omega (arith, each k, n, length-append (joined k f) (replicate (384 - 6 * k) (pos 0)), length-replicate (384 - 6 * k) (pos 0)) in
      let t : take (6 * k) l ≡ joined k f = take_at (joined k f) (replicate (384 - 6 * k) (pos 0)) (6 * k) n in
      let d : drop (6 * k + length (f k)) l ≡ replicate (384 - 6 * (k + 1)) (pos 0) =
      ap (λ (i : ℕ). drop i l) a
      ∙ drop-append-add (joined k f) (replicate (384 - 6 * k) (pos 0)) 6
      ∙ ap (λ (i : ℕ). drop 6 (replicate i (pos 0))) m
      ∙ drop-zeros 6 (384 - 6 * (k + 1)) in
      sets-eq (f k) l (6 * k) e
      ∙ ap₂ (λ (x y : List ℤ). (x ++ f k) ++ y) t d
      ∙ ap (λ (i : ℕ). joined i f ++ replicate (384 - 6 * (k + 1)) (pos 0)) (sym (add-one k))
