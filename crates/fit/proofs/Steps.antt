-- One step of the code's loops, and numbers with their lift or tilt taken off.
use mathlib.Core.Path.{◌≡◌, refl, sym, ap, ap₂, subst, ◌∙◌}
use mathlib.Core.Bool.{Bool, true, false, not}
use mathlib.Core.List.{List}
use lib.Dec.{T, le→leb}
use lib.Arith.{lt→nleb}
use Prim.Native.Nat.{ℕ, suc, ◌+◌, ◌*◌, ◌-◌, ◌≤◌, ◌<◌, max}
use native.Mathlib.Numerals.{add-one}
use native.Mathlib.Omega.{arith}
use lib.IntN.{ℤ, pos, sub_ℕ, ◌-ℤ◌}
use mir.Syntax.{w64}
use mir.Val.{SFits, to_z, of_z}
use mir.ValLaws.{to_z-of_z, to_z_pos}
use Rattle.whole.specs.Whole.{∣◌∣}
use Rattle.whole.proofs.Linear.{back, abs_fits}
use Rattle.whole.proofs.Tests.{is_true}
use Rattle.fit.specs.Rates.{scaled, fit_of, tilt, row_lo, lo, hi, fit, off}
use Rattle.fit.specs.Greedy.{grow}
use Rattle.fit.proofs.Diff.{sub_ind, sub_pos, sub_sub, sub_eq}

pub small_back : (z : ℤ) → ∣ z ∣ ≤ 130_000_000_000 → to_z w64 (of_z w64 z) ≡ z
small_back z h = back (abs_fits (omega arith))

pub small_bits : (z : ℤ) → ∣ z ∣ ≤ 130_000_000_000 → ∣ to_z w64 (of_z w64 z) ∣ ≤ 130_000_000_000
small_bits z h = subst (λ (y : ℤ). ∣ y ∣ ≤ 130_000_000_000) (sym (small_back z h)) h

false_of : (b : Bool) → T (not b) → b ≡ false
false_of true h = absurd h
false_of false h = refl

-- a run of c samples grown, as the code grows it, to at most m
module _ (test : ℕ → ℕ → Bool) (f m c : ℕ) where
  pub grow_yes : c < m → T (test f (c + 1)) → grow test (m - (c + 1)) f (c + 1) ≡ grow test (m - c) f c
  unfolding grow
  grow_yes h t = sym (rw (e, is_true (test f (suc c)) (rw add-one at t), add-one))
    where
      e : m - c ≡ suc (m - (c + 1))
      e = omega arith

  pub grow_no : c < m → T (not (test f (c + 1))) → grow test (m - c) f c ≡ c
  unfolding grow
  grow_no h t = rw (e, false_of (test f (suc c)) (rw add-one at t))
    where
      e : m - c ≡ suc (m - (c + 1))
      e = omega arith

  pub grow-end : m ≤ c → grow test (m - c) f c ≡ c
  unfolding grow
  grow-end h = rw e
    where
      e : m - c ≡ 0
      e = omega arith

-- one sample leaves every rate; and one sample more
pub lo_none : (g : ℕ → ℕ) (w N f : ℕ) → 0 ≡ lo g w N f 1
unfolding lo row_lo
lo_none g w N f = refl

pub lo_step : (g : ℕ → ℕ) (w N f c l r : ℕ) → l ≡ lo g w N f c → r ≡ row_lo g w N f (f + c) c l → r ≡ lo g w N f (c + 1)
unfolding lo
lo_step g w N f c l r hl hr = rw add-one (hr ∙ ap (λ (z : ℕ). row_lo g w N f (f + c) c z) hl)

pub fit_yes : (s : List ℤ) (t f c a b : ℕ) → a ≡ lo (scaled s) (65536 * t) tilt f c → b ≡ hi (scaled s) (65536 * t) tilt f c → a ≤ b → T (fit_of s t f c)
unfolding fit_of fit
fit_yes s t f c a b ha hb h = le→leb (lo (scaled s) (65536 * t) tilt f c) (hi (scaled s) (65536 * t) tilt f c) (omega arith)

pub fit_no : (s : List ℤ) (t f c a b : ℕ) → a ≡ lo (scaled s) (65536 * t) tilt f c → b ≡ hi (scaled s) (65536 * t) tilt f c → b < a → T (not (fit_of s t f c))
unfolding fit_of fit
fit_no s t f c a b ha hb h = lt→nleb (lo (scaled s) (65536 * t) tilt f c) (hi (scaled s) (65536 * t) tilt f c) (omega arith)

-- a number with a bias taken off
pub pos_sub : (a b : ℕ) → pos a -ℤ pos b ≡ sub_ℕ a b
pos_sub a b = ap₂ (λ (x y : ℤ). x -ℤ y) (sym (sub_pos a 0 a (omega arith))) (sym (sub_pos b 0 b (omega arith))) ∙ sub_sub a 0 b 0
    ∙ sub_eq (a + 0) (0 + b) a b (omega arith)

pub sub_fits : (a b : ℕ) → a ≤ 2 * tilt → b ≤ 2 * tilt → SFits w64 (sub_ℕ a b)
sub_fits a b h k = sub_ind a b (λ z. SFits w64 z) (λ m e. record { sfits = omega arith }) (λ m e. record { sfits = omega arith })

pub unbias : (a b : ℕ) → a ≤ 2 * tilt → b ≤ 2 * tilt → to_z w64 a -ℤ to_z w64 b ≡ sub_ℕ a b
unbias a b h k = ap₂ (λ (x y : ℤ). x -ℤ y) (to_z_pos w64 a (omega arith)) (to_z_pos w64 b (omega arith)) ∙ pos_sub a b

pub off-step : (g : ℕ → ℕ) (w N p f j a b x r : ℕ) → a ≡ off g w N p f j → b ≡ g (f + j) → x ≡ N * j + b - (w + p * j) → r ≡ max a x → r ≡ off g w N p f (j + 1)
unfolding off
off-step g w N p f j a b x r ha hb hx hr = rw add-one (cc)

pub back_sub : (x : ℤ) (a b : ℕ) → x ≡ sub_ℕ a b → a ≤ 2 * tilt → b ≤ 2 * tilt → to_z w64 (of_z w64 x) ≡ sub_ℕ a b
back_sub x a b e h k = ap (λ (z : ℤ). to_z w64 (of_z w64 z)) e ∙ to_z-of_z w64 (sub_ℕ a b) (sub_fits a b h k)
