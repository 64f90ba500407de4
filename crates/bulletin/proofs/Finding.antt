-- What is proved of the first place of a day in a list. Assumes nothing.
use mathlib.Core.Path.{◌≡◌, refl, sym, ap, ◌∙◌}
use mathlib.Core.Bool.{Bool, true, false, not}
use mathlib.Core.List.{List, [], ◌∷◌}
use Prim.Native.Nat.{ℕ, zero, suc, ◌+◌, ◌≤◌, ◌<◌}
use native.Mathlib.Numerals.{add-one}
use native.Mathlib.Omega.{arith}
use native.Mathlib.Decide.{dec_lt}
use lib.ListN.{length, get_or, drop}
use lib.Seq.{drop-cons, drop-length}
use lib.IntN.{ℤ, pos}
use Rattle.whole.specs.Ranges.{eq_z}
use Rattle.whole.specs.Each.{first_not}
use Rattle.whole.proofs.Each.{first-most as not-most, first_fails, first-before}
use Rattle.whole.proofs.Linear.{no_ft, no_tf}
use Rattle.whole.proofs.Order.{eq_z_true, eq_z_refl, not_so}
use Rattle.bulletin.specs.Rows.{first_in_rule}

-- ---- from place i on: it is found there, or later

module _ (xs : List ℤ) (d : ℤ) (i : ℕ) (h : i < length xs) where
  pub found_here : get_or xs i (pos 0) ≡ d → first_in_rule (drop i xs) d ≡ 0
  unfolding first_in_rule
  found_here e = rw (drop-cons xs i (pos 0), eq_z_refl (get_or xs i (pos 0)) d e)

  pub found_later : (get_or xs i (pos 0) ≡ d → ⊥) → first_in_rule (drop i xs) d ≡ suc (first_in_rule (drop (i + 1) xs) d)
  unfolding first_in_rule
  found_later f = rw (add-one, drop-cons xs i (pos 0), not_so (eq_z (get_or xs i (pos 0)) d) (λ e. f (eq_z_true (get_or xs i (pos 0)) d e)))

pub found_none : (xs : List ℤ) (d : ℤ) → first_in_rule (drop (length xs) xs) d ≡ 0
unfolding first_in_rule
found_none xs d = rw drop-length

-- ---- what it says

first-most_by : (x : ℤ) (xs : List ℤ) (d : ℤ) → first_in_rule xs d ≤ length xs → (t : Bool) → eq_z x d ≡ t → first_in_rule (x ∷ xs) d ≤ suc (length xs)
unfolding first_in_rule
first-most_by x xs d h true e = rw e (omega arith)
first-most_by x xs d h false e = rw e (omega arith)

pub first-most : (xs : List ℤ) (d : ℤ) → first_in_rule xs d ≤ length xs
unfolding first_in_rule
first-most [] d = omega arith
first-most (x ∷ xs) d = first-most_by x xs d (first-most xs d) (eq_z x d) refl

first_is_by : (x : ℤ) (xs : List ℤ) (d : ℤ) → (first_in_rule xs d < length xs → get_or xs (first_in_rule xs d) (pos 0) ≡ d) → (t : Bool) → eq_z x d ≡ t
    → first_in_rule (x ∷ xs) d < suc (length xs) → get_or (x ∷ xs) (first_in_rule (x ∷ xs) d) (pos 0) ≡ d
unfolding first_in_rule
first_is_by x xs d f true e h = rw e (eq_z_true x d e)
first_is_by x xs d f false e h = let k : first_in_rule xs d < length xs = omega (arith, rw e at h) in rw e (f k)

-- where it is below the length, d stands there
pub first_is : (xs : List ℤ) (d : ℤ) → first_in_rule xs d < length xs → get_or xs (first_in_rule xs d) (pos 0) ≡ d
unfolding first_in_rule
first_is [] d h = absurd (omega arith)
first_is (x ∷ xs) d h = first_is_by x xs d (first_is xs d) (eq_z x d) refl h

-- ---- as a search from place 0 on finds it

abbrev pub other : List ℤ → ℤ → ℕ → Bool
other xs d i = not (eq_z (get_or xs i (pos 0)) d)

first_to : (xs : List ℤ) (d : ℤ) (i : ℕ) → i ≤ first_not (length xs) (other xs d) → first_in_rule xs d ≡ i + first_in_rule (drop i xs) d
first_to xs d zero h = omega arith
first_to xs d (suc i) h =
    let l : i < length xs = omega (arith, h, not-most (length xs) (other xs d)) in
    let t : other xs d i ≡ true = first-before (length xs) i (other xs d) (omega (arith, h)) l in
    let f : get_or xs i (pos 0) ≡ d → ⊥ = λ e. no_ft (ap not (sym (eq_z_refl (get_or xs i (pos 0)) d e)) ∙ t) in
    let r = found_later xs d i l f in
    rw (sym (add-one i)) (omega (arith, first_to xs d i (omega (arith, h)), r))

not_false : (b : Bool) → not b ≡ false → b ≡ true
not_false true e = refl
not_false false e = no_tf e

first_by : (xs : List ℤ) (d : ℤ) (i : ℕ) → i ≡ first_not (length xs) (other xs d) → Dec (i < length xs) → first_in_rule (drop i xs) d ≡ 0
first_by xs d i e (yes l) =
    let f : other xs d i ≡ false = ap (other xs d) e ∙ first_fails (length xs) (other xs d) (omega (arith, e, l)) in
    found_here xs d i l (eq_z_true (get_or xs i (pos 0)) d (not_false (eq_z (get_or xs i (pos 0)) d) f))
first_by xs d i e (no l) =
    let m : i ≡ length xs = omega (arith, l, e, not-most (length xs) (other xs d)) in
    rw m (found_none xs d)

pub first_found : (xs : List ℤ) (d : ℤ) (i : ℕ) → i ≡ first_not (length xs) (other xs d) → i ≡ first_in_rule xs d
first_found xs d i e = omega (arith, first_to xs d i (omega (arith, e)), first_by xs d i e (dec_lt i (length xs)))
