-- Four numbers written to a room whose front already holds a list's first numbers.
use mathlib.Core.Path.{◌≡◌, sym, ap, ap₂, ◌∙◌}
use mathlib.Core.List.{List, [], ◌∷◌, ◌++◌}
use Prim.Native.Nat.{ℕ, ◌+◌, ◌*◌, ◌<◌}
use native.Mathlib.Omega.{arith}
use lib.ListN.{length, take, drop, length-drop}
use lib.Seq.{take-add, take_at, drop_at, length-take-le}
use lib.IntN.{ℤ}
use Rattle.std.proofs.lemmas.List.{append_assoc, drop-drop}

pub put_again : (F R₀ room last R : List ℤ) (m : ℕ) (a b c d A B C D : ℤ) → drop (4 * m) F ≡ a ∷ b ∷ c ∷ d ∷ R → 4 * m + 3 < length R₀ → room ≡ take (4 * m) F ++ drop (4 * m) R₀
    → last ≡ take (4 * m) room ++ (A ∷ B ∷ C ∷ D ∷ drop (4 * m + 4) room) → A ≡ a → B ≡ b → C ≡ c → D ≡ d
    → (drop (4 * (m + 1)) F ≡ R) × (last ≡ take (4 * (m + 1)) F ++ drop (4 * (m + 1)) R₀)
put_again F R₀ room last R m a b c d A B C D h l r e p q u v = (
  ap (λ (n : ℕ). drop n F) next ∙ sym (drop-drop 4 (4 * m) F) ∙ ap (drop 4) h,
  e ∙ (λ i. front i ++ (p i ∷ q i ∷ u i ∷ v i ∷ back i)) ∙ sym (append_assoc (take (4 * m) F) (a ∷ b ∷ c ∷ d ∷ []) (drop (4 * m + 4) R₀))
      ∙ ap₂ (λ (x y : List ℤ). x ++ y) (sym more) (ap (λ (n : ℕ). drop n R₀) (sym next)),
)
  where
    next : 4 * (m + 1) ≡ 4 * m + 4
    next = omega arith

    long : length (take (4 * m) F) ≡ 4 * m
    long = length-take-le (4 * m) F (omega (arith, ap length h, length-drop (4 * m) F))

    front : take (4 * m) room ≡ take (4 * m) F
    front = ap (take (4 * m)) r ∙ take_at (take (4 * m) F) (drop (4 * m) R₀) (4 * m) (omega (arith, long))

    back : drop (4 * m + 4) room ≡ drop (4 * m + 4) R₀
    back = sym (drop-drop 4 (4 * m) room) ∙ ap (drop 4) (ap (drop (4 * m)) r ∙ drop_at (take (4 * m) F) (drop (4 * m) R₀) (4 * m) (omega (arith, long))) ∙ drop-drop 4 (4 * m) R₀

    more : take (4 * (m + 1)) F ≡ take (4 * m) F ++ (a ∷ b ∷ c ∷ d ∷ [])
    more = ap (λ (n : ℕ). take n F) next ∙ take-add (4 * m) 4 F ∙ ap (λ (x : List ℤ). take (4 * m) F ++ take 4 x) h
