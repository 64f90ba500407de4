-- Eight bytes and their number: writing and reading undo each other, and the library's methods do both.
-- Assumes nothing.
use mathlib.Core.Path.{◌≡◌, sym, ap, ap₂, ◌∙◌}
use Prim.Native.Nat.{ℕ, zero, suc, ◌+◌, ◌*◌, ◌/◌, ◌%◌, ◌^◌, ◌≤◌, ◌<◌}
use native.Mathlib.Nat.{add-zero}
use native.Mathlib.Omega.{arith}
use mathlib.Core.List.{List, [], ◌∷◌, ◌++◌}
use lib.Dec.{lit<}
use lib.ListN.{length, get_or, take, drop, length-drop, take-append-drop}
use lib.Seq.{length-take-le, drop-drop, get_or-append-add, get_or-drop}
use Rattle.std.proofs.lemmas.List.{get_or-take}
use Rattle.std.proofs.lemmas.Nat.{le_bytes_8}
use Rattle.std.specs.Int.{w64, from_le_bytes, to_le_bytes}
use Rattle.text.specs.Words.{bits_at}
use Rattle.text.specs.Bytes.{bytes_of}
use Rattle.text.proofs.Numbers.{Bytes}

-- the number of eight bytes, given in parts
abbrev two : ℕ → ℕ → ℕ
two a b = a + 256 * b

pub eight : ℕ → ℕ → ℕ → ℕ → ℕ → ℕ → ℕ → ℕ → ℕ
eight a b c d e f g h = (two a b + 65536 * two c d) + 4294967296 * (two e f + 65536 * two g h)

join_two : (w : ℕ) → two (w % 256) (w / 256) ≡ w
join_two w = omega arith

join_four : (w : ℕ) → w % 65536 + 65536 * (w / 65536) ≡ w
join_four w = omega arith

join_eight : (w : ℕ) → w % 4294967296 + 4294967296 * (w / 4294967296) ≡ w
join_eight w = omega arith

-- the bytes of w make w
pub bytes-number : (w : ℕ)
    → eight (w % 4294967296 % 65536 % 256) (w % 4294967296 % 65536 / 256) (w % 4294967296 / 65536 % 256) (w % 4294967296 / 65536 / 256)
    (w / 4294967296 % 65536 % 256) (w / 4294967296 % 65536 / 256) (w / 4294967296 / 65536 % 256) (w / 4294967296 / 65536 / 256) ≡ w
unfolding eight
bytes-number w = simp (join_two, join_four, join_eight)

-- reading behind p what w's bytes are
pub read-written : (p q : List ℕ) (w : ℕ) → bits_at (p ++ (bytes_of w ++ q)) (length p) ≡ w
unfolding bits_at bytes_of eight
read-written p q w =
    let l = bytes_of w ++ q in
    let g : (k : ℕ) → get_or (p ++ l) (length p + k) 0 ≡ get_or l k 0 = λ k. get_or-append-add p l k 0 in
    let g0 : get_or (p ++ l) (length p) 0 ≡ get_or l 0 0 = ap (λ (n : ℕ). get_or (p ++ l) n 0) (sym (add-zero (length p))) ∙ g 0 in
    let e3 : length p + 2 + 1 ≡ length p + 3 = omega arith in
    let e5 : length p + 4 + 1 ≡ length p + 5 = omega arith in
    let e6 : length p + 4 + 2 ≡ length p + 6 = omega arith in
    let e7 : length p + 6 + 1 ≡ length p + 7 = omega arith in
    rw (e6, e3, e5, e7, g0, g 1, g 2, g 3, g 4, g 5, g 6, g 7) (bytes-number w)

-- what the library reads of eight bytes is their number
pub read_bytes : (s : List ℕ) (at : ℕ) → from_le_bytes w64 (take 8 (drop at s)) ≡ bits_at s at
unfolding bits_at
read_bytes s at =
    let g : (k : ℕ) → k < 8 → get_or (take 8 (drop at s)) k 0 ≡ get_or s (at + k) 0 = λ k h. get_or-take 8 (drop at s) k 0 h ∙ get_or-drop at s k 0 in
    let g0 : get_or (take 8 (drop at s)) 0 0 ≡ get_or s at 0 = g 0 (lit< tt) ∙ ap (λ (n : ℕ). get_or s n 0) (add-zero at) in
    let e3 : at + 2 + 1 ≡ at + 3 = omega arith in
    let e5 : at + 4 + 1 ≡ at + 5 = omega arith in
    let e6 : at + 4 + 2 ≡ at + 6 = omega arith in
    let e7 : at + 6 + 1 ≡ at + 7 = omega arith in
    rw (e6, e3, e5, e7) (omega (arith, g0, g 1 (lit< tt), g 2 (lit< tt), g 3 (lit< tt), g 4 (lit< tt), g 5 (lit< tt), g 6 (lit< tt), g 7 (lit< tt)))

-- and what it makes of a word are the word's bytes
pub word_bytes : (w : ℕ) → w < 2 ^ 64 → to_le_bytes w64 w ≡ bytes_of w
unfolding bytes_of
word_bytes w h =
    let e0 : w % 256 ≡ w % 4294967296 % 65536 % 256 = omega arith in
    let e1 : w / 256 % 256 ≡ w % 4294967296 % 65536 / 256 = omega arith in
    let e2 : w / 65536 % 256 ≡ w % 4294967296 / 65536 % 256 = omega arith in
    let e3 : w / 16777216 % 256 ≡ w % 4294967296 / 65536 / 256 = omega arith in
    let e4 : w / 4294967296 % 256 ≡ w / 4294967296 % 65536 % 256 = omega arith in
    let e5 : w / 1099511627776 % 256 ≡ w / 4294967296 % 65536 / 256 = omega arith in
    let e6 : w / 281474976710656 % 256 ≡ w / 4294967296 / 65536 % 256 = omega arith in
    let e7 : w / 72057594037927936 % 256 ≡ w / 4294967296 / 65536 / 256 = omega arith in
    cc

bits_below : (s : List ℕ) (at : ℕ) → Bytes s → bits_at s at < 2 ^ 64
unfolding bits_at
bits_below s at b = omega (arith, b at, b (at + 1), b (at + 2), b (at + 2 + 1), b (at + 4), b (at + 4 + 1), b (at + 4 + 2), b (at + 4 + 2 + 1))

taken_below : (n : ℕ) (s : List ℕ) (k : ℕ) → get_or s k 0 < 256 → get_or (take n s) k 0 < 256
taken_below zero s k h = lit< tt
taken_below (suc n) [] k h = h
taken_below (suc n) (x ∷ s) zero h = h
taken_below (suc n) (x ∷ s) (suc k) h = taken_below n s k h

-- what stands from at on, in front of what stands past it
pub written_read : (s : List ℕ) (at : ℕ) → Bytes s → at + 8 ≤ length s → bytes_of (bits_at s at) ++ drop (at + 8) s ≡ drop at s
written_read s at b h =
    let bs = take 8 (drop at s) in
    let l : length bs ≡ 8 = length-take-le 8 (drop at s) (omega (arith, length-drop at s)) in
    let m : (i : ℕ) → get_or bs i 0 < 256 = λ i. taken_below 8 (drop at s) i (rw (get_or-drop at s i 0) (b (at + i))) in
    let e : bytes_of (bits_at s at) ≡ bs = sym (word_bytes (bits_at s at) (bits_below s at b)) ∙ le_bytes_8 bs (bits_at s at) l m (sym (read_bytes s at)) in
    ap₂ ◌++◌ e (sym (drop-drop 8 at s)) ∙ take-append-drop 8 (drop at s)
