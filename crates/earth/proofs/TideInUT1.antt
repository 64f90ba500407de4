-- The table of the tide: its rows are small, by one computed test, and so the tide is never beyond 2,723,000 ns either side. Assumes nothing.
use Rattle.std.proofs.Common.{◌≡◌, ℕ, zero, suc, ◌*◌, ◌^◌, ◌<◌, ◌≤◌, Bool, true, ◌&&◌, T, leb, List, [], ◌∷◌, ℤ, pos, negsuc, ◌*ℤ◌, refl, le_of_suc-le-suc, not-suc-le-zero, arith, leb→le}
use mir.Facts.{and_yes}
use Rattle.whole.specs.Whole.{∣◌∣, near, R}
use Rattle.whole.proofs.Linear.{pos_part-neg, neg_part-neg, abs_mul≤}
use Rattle.whole.proofs.Rounding.{near_mono, near_mul}
use Rattle.earth.specs.declared.ticks.Delaunay.{Delaunay}
use Rattle.earth.specs.DelaunayArguments.{arguments_of}
use Rattle.earth.specs.Rows.{rows}
use Rattle.earth.specs.TideInUT1.{entry, rows_sum, sizes, Few, AllFew, tide_at}
use Rattle.earth.proofs.Sums.{sum_most}

-- ---- the test over the whole table, and what it says of a row
abbrev fewb : List ℤ → Bool
fewb r = leb ∣ entry r 0 ∣ 1000 && (leb ∣ entry r 1 ∣ 1000 && (leb ∣ entry r 2 ∣ 1000 && (leb ∣ entry r 3 ∣ 1000 && leb ∣ entry r 4 ∣ 1000)))

abbrev every : List (List ℤ) → Bool
every [] = true
every (r ∷ rs) = fewb r && every rs

few_of : (r : List ℤ) → T (fewb r) → Few r
few_of r t =
    let t1 = and_yes (leb ∣ entry r 0 ∣ 1000) (leb ∣ entry r 1 ∣ 1000 && (leb ∣ entry r 2 ∣ 1000 && (leb ∣ entry r 3 ∣ 1000 && leb ∣ entry r 4 ∣ 1000))) t in
    let t2 = and_yes (leb ∣ entry r 1 ∣ 1000) (leb ∣ entry r 2 ∣ 1000 && (leb ∣ entry r 3 ∣ 1000 && leb ∣ entry r 4 ∣ 1000)) t1.1 in
    let t3 = and_yes (leb ∣ entry r 2 ∣ 1000) (leb ∣ entry r 3 ∣ 1000 && leb ∣ entry r 4 ∣ 1000) t2.1 in
    let t4 = and_yes (leb ∣ entry r 3 ∣ 1000) (leb ∣ entry r 4 ∣ 1000) t3.1 in
    record {
      l = leb→le ∣ entry r 0 ∣ 1000 t1.0;
      lp = leb→le ∣ entry r 1 ∣ 1000 t2.0;
      f = leb→le ∣ entry r 2 ∣ 1000 t3.0;
      d = leb→le ∣ entry r 3 ∣ 1000 t4.0;
      om = leb→le ∣ entry r 4 ∣ 1000 t4.1;
    }

pub all_few : (rs : List (List ℤ)) → T (every rs) → AllFew rs
all_few [] t k h = absurd (not-suc-le-zero h)
all_few (r ∷ rs) t zero h = few_of r (and_yes (fewb r) (every rs) t).0
all_few (r ∷ rs) t (suc k) h = all_few rs (and_yes (fewb r) (every rs) t).1 k (le_of_suc-le-suc h)

pub rows_few : AllFew rows
unfolding rows
rows_few = all_few rows tt

pub rows_size : sizes rows ≡ 2723
unfolding rows sizes
rows_size = refl

-- ---- the bounds
pub t_most : (a : Delaunay) → ∣ rows_sum rows a ∣ ≤ 2723 * 2 ^ 30
t_most a = omega (arith, sum_most rows a, rows_size)

-- a fraction of size at most k rounds to a number of size at most k
near-most : (a b k : ℕ) → 0 < b → a ≤ k * b → near a b ≤ k
near-most a b k h l = omega (arith, near_mono a (k * b) b h l, near_mul k b h)

pub R_most : (z : ℤ) (b k : ℕ) → 0 < b → ∣ z ∣ ≤ k * b → ∣ R z b ∣ ≤ k
R_most (pos a) b k h l = omega (arith, near-most a b k h (omega arith))
R_most (negsuc a) b k h l = omega (arith, near-most (suc a) b k h (omega arith), pos_part-neg (pos (near (suc a) b)), neg_part-neg (pos (near (suc a) b)))

-- "never beyond 2,723,000 either side"
pub tide_most : (n : ℤ) → ∣ tide_at n ∣ ≤ 2723000
unfolding tide_at
tide_most n =
    let t = rows_sum rows (arguments_of n) in
    R_most (pos 1000 *ℤ t) (2 ^ 30) 2723000 (omega arith)
    (omega (arith, abs_mul≤ (pos 1000) t 1000 (2723 * 2 ^ 30) (omega arith) (t_most (arguments_of n))))
