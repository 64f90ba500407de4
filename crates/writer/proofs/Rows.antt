-- The records of a place as one run of the file's words. Assumes nothing.
use mathlib.Core.Path.{◌≡◌, sym, ap, ap₂, ◌∙◌}
use Prim.Native.Nat.{ℕ, zero, suc, ◌+◌, ◌*◌}
use native.Mathlib.Nat.{mul-zero}
use native.Mathlib.Omega.{arith}
use mathlib.Core.List.{List, ◌++◌}
use lib.ListN.{length}
use lib.IntN.{ℤ}
use mir.Syntax.{w64}
use mir.Val.{to_z}
use Rattle.whole.specs.Values.{first_values}
use Rattle.whole.proofs.Values.{values_long, values_same, values_join}
use Rattle.text.specs.Words.{bits_at, word}
use Rattle.sections.specs.Layouts.{Table}
use Rattle.sections.specs.File.{count_of_rule, size_of, first_byte, record_byte_rule, field_at_rule}
use Rattle.whole.specs.Values.{joined}
use Rattle.writer.specs.Handed.{rows_in}
use Rattle.whole.proofs.Values.{joined_even}

-- records of size numbers each, one after the other
pub joined_values : (size n : ℕ) (f : ℕ → List ℤ) (g : ℕ → ℤ) → ((i : ℕ) → f i ≡ first_values size (λ (k : ℕ). g (size * i + k))) → joined n f ≡ first_values (size * n) g
unfolding joined first_values
joined_values size zero f g e = ap (λ (n : ℕ). first_values n g) (sym (mul-zero size))
joined_values size (suc n) f g e =
    let m : size * n + size ≡ size * suc n = omega arith in
    ap₂ (λ (x y : List ℤ). x ++ y) (joined_values size n f g e) (e n)
    ∙ values_join (size * n) size g
    ∙ ap (λ (k : ℕ). first_values k g) m

pub rows_long : (t : Table) (s : List ℕ) (p : ℕ) → length (rows_in t s p) ≡ size_of t s p * count_of_rule s p
unfolding rows_in
rows_long t s p = joined_even (λ (i : ℕ). first_values (size_of t s p) (field_at_rule t s p i)) (size_of t s p) (count_of_rule s p) (λ i l. values_long (size_of t s p) (field_at_rule t s p i))

-- those of place p, whose body starts at word at
pub rows_values : (t : Table) (s : List ℕ) (p at n : ℕ) → first_byte s p ≡ 8 * at → size_of t s p * count_of_rule s p ≡ n
    → rows_in t s p ≡ first_values n (λ (j : ℕ). to_z w64 (word s (at + j)))
unfolding rows_in record_byte_rule
rows_values t s p at n e f =
    joined_values (size_of t s p) (count_of_rule s p) (λ (i : ℕ). first_values (size_of t s p) (field_at_rule t s p i)) (λ (j : ℕ). to_z w64 (word s (at + j)))
    (λ i.
    values_same (size_of t s p) _ _
    (λ k l.
    let h : first_byte s p + 8 * (size_of t s p * i) + 8 * k ≡ 8 * (at + (size_of t s p * i + k)) = omega (arith, e) in
    ap (λ (m : ℕ). to_z w64 (bits_at s m)) h))
    ∙ ap (λ (m : ℕ). first_values m (λ (j : ℕ). to_z w64 (word s (at + j)))) f
