-- Numbers written one after the other are read back, and bytes that are read are written back.
-- Assumes nothing.
use mathlib.Core.Path.{◌≡◌, refl, ap, ap₂, ◌∙◌}
use Prim.Native.Nat.{ℕ, zero, suc, ◌+◌, ◌*◌}
use native.Mathlib.Omega.{arith}
use mathlib.Core.List.{List, [], ◌∷◌, ◌++◌}
use lib.ListN.{length, drop, length-append, length-drop}
use lib.Seq.{get_or-drop, drop_at}
use Rattle.text.specs.Words.{bits_at}
use Rattle.text.specs.Bytes.{bytes_of, bytes_of_all}
use Rattle.text.proofs.Numbers.{Bytes, numbers_of_rule}
use Rattle.text.proofs.Eight.{read-written, written_read}

pub eight_long : (w : ℕ) → length (bytes_of w) ≡ 8
unfolding bytes_of
eight_long w = refl

pub all_long : (ws : List ℕ) → length (bytes_of_all ws) ≡ 8 * length ws
unfolding bytes_of_all
all_long [] = refl
all_long (w ∷ ws) = length-append (bytes_of w) (bytes_of_all ws) ∙ omega (arith, all_long ws, eight_long w)

-- numbers that are written are read back
pub numbers_back : (ws : List ℕ) → numbers_of_rule (length ws) (bytes_of_all ws) ≡ ws
unfolding bytes_of_all numbers_of_rule
numbers_back [] = refl
numbers_back (w ∷ ws) =
    ap₂ (λ (x : ℕ) (xs : List ℕ). x ∷ xs) (read-written [] (bytes_of_all ws) w)
    (ap (numbers_of_rule (length ws)) (drop_at (bytes_of w) (bytes_of_all ws) 8 (eight_long w)) ∙ numbers_back ws)

pub bytes_drop : (s : List ℕ) (n : ℕ) → Bytes s → Bytes (drop n s)
bytes_drop s n b k = rw get_or-drop (b (n + k))

-- bytes that are read are written back
pub bytes_back : (n : ℕ) (s : List ℕ) → Bytes s → length s ≡ 8 * n → bytes_of_all (numbers_of_rule n s) ≡ s
unfolding bytes_of_all numbers_of_rule
bytes_back zero [] b e = refl
bytes_back zero (x ∷ s) b e = absurd (omega arith)
bytes_back (suc n) s b e =
    let l : length (drop 8 s) ≡ 8 * n = length-drop 8 s ∙ omega arith in
    ap (λ (r : List ℕ). bytes_of (bits_at s 0) ++ r) (bytes_back n (drop 8 s) (bytes_drop s 8 b) l)
    ∙ written_read s 0 b (omega arith)
