-- Tests on whole numbers, as the code makes them. Assumes nothing.
use mathlib.Core.Path.{◌≡◌, refl}
use Prim.Native.Nat.{ℕ}
use native.Mathlib.Omega.{arith}
use mathlib.Core.Bool.{true, false, ◌&&◌, and-true as and-right-true}
use lib.IntN.{ℤ, pos, ◌+ℤ◌, ◌-ℤ◌}
use lib.Signed.{le_z, lt_z}
use borrow.Author.Tests.{ne_eqb}
use mir.Syntax.{w64}
use mir.Val.{SFits}
use Rattle.whole.proofs.Linear.{add_law, sub_lawℤ, le_z_true, le_z_false, fits-pos_part, fits-neg_part, ⇒sfits, and_true}
use Rattle.whole.specs.Ranges.{eq_z}
use Rattle.sections.specs.File.{steps}
use Rattle.whole.proofs.Order.{not_so, le_yes}
use Rattle.whole.proofs.Tests.{and_yes, same_test}

-- ---- b is the number after a

module _ (a b : ℤ) where
  pub next_no : le_z b a ≡ true → eq_z b (a +ℤ pos 1) ≡ false
  next_no h =
      let x = le_z_true b a h in
      let y = add_law a (pos 1) in
      not_so (eq_z b (a +ℤ pos 1)) (λ e. let z = le_z_true (a +ℤ pos 1) b (and_true (le_z b (a +ℤ pos 1)) _ e).1 in omega arith)

  module _ (h : le_z b a ≡ false) where
    pub next_fits : SFits w64 a → SFits w64 b → SFits w64 (b -ℤ pos 1)
    next_fits f g =
        let x = le_z_false b a h in
        let y = sub_lawℤ b (pos 1) in
        let u = fits-pos_part b g in
        let v = fits-neg_part a f in
        ⇒sfits (b -ℤ pos 1) (omega arith) (omega arith)

    pub next_is : le_z (b -ℤ pos 1) a ≡ eq_z b (a +ℤ pos 1)
    next_is =
        let x = le_z_false b a h in
        let y = add_law a (pos 1) in
        let z = sub_lawℤ b (pos 1) in
        same_test (le_z (b -ℤ pos 1) a) (eq_z b (a +ℤ pos 1))
        (λ e. let k = le_z_true (b -ℤ pos 1) a e in and_yes (le_yes b (a +ℤ pos 1) (omega arith)) (le_yes (a +ℤ pos 1) b (omega arith)))
        (λ e. let k = le_z_true b (a +ℤ pos 1) (and_true (le_z b (a +ℤ pos 1)) _ e).0 in le_yes (b -ℤ pos 1) a (omega arith))

-- ---- the orders

pub steps-rising : (a b : ℤ) → steps 1 a b ≡ lt_z a b
unfolding steps
steps-rising a b = and-right-true (lt_z a b)

pub steps-consecutive : (a b : ℤ) → steps 2 a b ≡ eq_z b (a +ℤ pos 1)
unfolding steps
steps-consecutive a b = refl

pub steps-free : (o : ℕ) (a b : ℤ) → (o ≡ 1 → ⊥) → (o ≡ 2 → ⊥) → steps o a b ≡ true
unfolding steps
steps-free o a b h k = rw (ne_eqb o 1 h, ne_eqb o 2 k)

-- ---- a range, with its ends and the number read back

pub inside-same : {a b z a' b' z' : ℤ} → a ≡ a' → b ≡ b' → z ≡ z' → le_z a z && le_z z b ≡ le_z a' z' && le_z z' b'
inside-same e f g = cc
