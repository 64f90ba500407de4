-- Bytes put one behind the other. Assumes nothing.
use mathlib.Core.Path.{◌≡◌, refl, sym, ap, ap₂, ◌∙◌}
use mathlib.Core.List.{List, [], ◌∷◌, ◌++◌}
use Prim.Native.Nat.{ℕ, suc, ◌+◌, ◌-◌, ◌≤◌, ◌<◌}
use native.Mathlib.Omega.{arith}
use lib.ListN.{length, set, take, drop, length-append}
use lib.Seq.{length-take-le, set_split, take-set-le, drop_at, append_snoc, take-append_seam}
use Rattle.text.specs.Bytes.{pasted}
use Rattle.text.proofs.Paste.{pasted-none, pasted-next, pasted-long, byte_one}
use Rattle.text.specs.Put.{Put}

module _ {d e bs : List ℕ} {at a : ℕ} (p : Put d at bs e a) (h : a ≤ length d) where
  pub put_long : length e ≡ length d
  put_long = ap length p.bytes ∙ pasted-long d at bs (omega (arith, p.place))

  -- bytes behind bytes
  pub put_then : {f cs : List ℕ} {b : ℕ} → Put e a cs f b → Put d at (bs ++ cs) f b
  put_then {f = f} {cs = cs} {b = b} q =
      record {
        bytes = q.bytes ∙ ap₂ (λ (x : List ℕ) (k : ℕ). pasted x k cs) p.bytes p.place ∙ pasted-next d at bs (omega (arith, p.place)) cs;
        place = omega (arith, p.place, q.place, length-append bs cs);
      }

  -- the bytes stand between the two places
  pub put_part : take (a - at) (drop at e) ≡ bs
  unfolding pasted
  put_part =
      let l : a - at ≡ length bs = omega (arith, p.place) in
      let m : length (take at d) ≡ at = length-take-le at d (omega (arith, p.place)) in
      ap₂ (λ (n : ℕ) (x : List ℕ). take n (drop at x)) l p.bytes
      ∙ ap (take (length bs)) (drop_at (take at d) (bs ++ drop (at + length bs) d) at m)
      ∙ take-append_seam bs (drop (at + length bs) d)

-- the place behind the bytes is in the room
pub put_inside : {d e bs : List ℕ} {a : ℕ} → Put d 0 bs e a → a ≤ length e
unfolding pasted
put_inside {d = d} {e = e} {bs = bs} {a = a} p = omega (arith, p.place, ap length p.bytes, length-append bs (drop (0 + length bs) d))

-- and the bytes stand before it
pub put_start : {d e bs : List ℕ} {a : ℕ} → Put d 0 bs e a → take a e ≡ bs
unfolding pasted
put_start {d = d} {e = e} {bs = bs} {a = a} p =
    let l : a ≡ length bs = omega (arith, p.place) in
    ap₂ take l p.bytes ∙ take-append_seam bs (drop (0 + length bs) d)

-- no byte
pub put_none : (d : List ℕ) (at : ℕ) → Put d at [] d at
put_none d at = record { bytes = sym (pasted-none d at); place = omega arith }

-- one byte
pub put_one : (d : List ℕ) (at b : ℕ) → at < length d → Put d at (b ∷ []) (set d at b) (at + 1)
put_one d at b h = record { bytes = byte_one d at b h; place = refl }

-- a byte that stands behind others, put before they are
pub pasted-before : (d : List ℕ) (at : ℕ) (bs : List ℕ) (b : ℕ) → at + length bs < length d
    → pasted (set d (at + length bs) b) at bs ≡ pasted d at (bs ++ (b ∷ []))
unfolding pasted
pasted-before d at bs b h =
    let p = at + length bs in
    let l : at + length (bs ++ (b ∷ [])) ≡ suc p = omega (arith, length-append bs (b ∷ [])) in
    let e : drop p (set d p b) ≡ b ∷ drop (suc p) d = ap (drop p) (set_split d p b h) ∙ drop_at (take p d) (b ∷ drop (suc p) d) p (length-take-le p d (omega arith)) in
    ap₂ (λ (x y : List ℕ). x ++ (bs ++ y)) (take-set-le at d p b (omega arith)) e
    ∙ ap (λ (x : List ℕ). take at d ++ x) (sym (append_snoc bs b (drop (suc p) d)) ∙ ap (λ (k : ℕ). (bs ++ (b ∷ [])) ++ drop k d) (sym l))
