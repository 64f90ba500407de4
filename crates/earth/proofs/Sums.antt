-- The sum over rows, for any list of rows: one row more at a time, and never beyond the sum of the amplitudes' sizes in units of 2^30.
-- Assumes nothing.
use Rattle.std.proofs.Common.{◌≡◌, ℕ, zero, suc, ◌+◌, ◌*◌, ◌^◌, ◌<◌, ◌≤◌, List, [], ◌∷◌, ◌++◌, length, get_or, take, ℤ, pos, ◌+ℤ◌, sym, refl, ap, ◌∙◌, le_refl, le_of_suc-le-suc, not-suc-le-zero, add-one, arith, take-suc}
use lib.IntN.{+ℤ_idl, +ℤ_idr, +ℤ_assoc}
use Rattle.whole.specs.Whole.{∣◌∣}
use Rattle.whole.proofs.Linear.{abs_add, abs_mul≤}
use Rattle.sine.specs.Sine.{sine_of}
use Rattle.sine.proofs.Laws.{sine_size}
use Rattle.earth.specs.declared.ticks.Delaunay.{Delaunay}
use Rattle.earth.specs.TideInUT1.{amplitude, row_angle_rule, row_term_rule, rows_sum, sizes}

-- ---- one row more
sum_append : (xs ys : List (List ℤ)) (a : Delaunay) → rows_sum (xs ++ ys) a ≡ rows_sum xs a +ℤ rows_sum ys a
unfolding rows_sum
sum_append [] ys a = sym (+ℤ_idl (rows_sum ys a))
sum_append (x ∷ xs) ys a = ap (λ (z : ℤ). row_term_rule x a +ℤ z) (sum_append xs ys a) ∙ sym (+ℤ_assoc (row_term_rule x a) (rows_sum xs a) (rows_sum ys a))

sum_one : (r : List ℤ) (a : Delaunay) → rows_sum (r ∷ []) a ≡ row_term_rule r a
unfolding rows_sum
sum_one r a = +ℤ_idr (row_term_rule r a)

pub sum_none : (a : Delaunay) → rows_sum [] a ≡ pos 0
unfolding rows_sum
sum_none a = refl

pub sum_more : (rs : List (List ℤ)) (i : ℕ) (a : Delaunay) → i < length rs → rows_sum (take (i + 1) rs) a ≡ rows_sum (take i rs) a +ℤ row_term_rule (get_or rs i []) a
sum_more rs i a h =
    ap (λ (n : ℕ). rows_sum (take n rs) a) (add-one i)
    ∙ ap (λ (xs : List (List ℤ)). rows_sum xs a) (take-suc rs i [] h)
    ∙ sum_append (take i rs) (get_or rs i [] ∷ []) a
    ∙ ap (λ (z : ℤ). rows_sum (take i rs) a +ℤ z) (sum_one (get_or rs i []) a)

-- ---- bounds
pub term-most : (r : List ℤ) (a : Delaunay) → ∣ row_term_rule r a ∣ ≤ ∣ amplitude r ∣ * 2 ^ 30
term-most r a = abs_mul≤ (amplitude r) (sine_of (row_angle_rule r a)) ∣ amplitude r ∣ (2 ^ 30) (le_refl ∣ amplitude r ∣) (sine_size (row_angle_rule r a))

pub sum_most : (rs : List (List ℤ)) (a : Delaunay) → ∣ rows_sum rs a ∣ ≤ sizes rs * 2 ^ 30
unfolding rows_sum sizes
sum_most [] a = omega arith
sum_most (r ∷ rs) a = omega (arith, abs_add (row_term_rule r a) (rows_sum rs a), term-most r a, sum_most rs a)

-- of the first rows, and of one row
pub sizes-take : (rs : List (List ℤ)) (i : ℕ) → sizes (take i rs) ≤ sizes rs
unfolding sizes
sizes-take rs zero = omega arith
sizes-take [] (suc i) = omega arith
sizes-take (r ∷ rs) (suc i) = omega (arith, sizes-take rs i)

pub size_at : (rs : List (List ℤ)) (i : ℕ) → i < length rs → ∣ amplitude (get_or rs i []) ∣ ≤ sizes rs
unfolding sizes
size_at [] i h = absurd (not-suc-le-zero h)
size_at (r ∷ rs) zero h = omega arith
size_at (r ∷ rs) (suc i) h = omega (arith, size_at rs i (le_of_suc-le-suc h))
