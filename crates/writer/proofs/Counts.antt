-- Lists that are right counts of whole records. Assumes nothing.
use mathlib.Core.Path.{◌≡◌, refl, sym, ap, ◌∙◌}
use Prim.Native.Nat.{ℕ, zero, suc, ◌*◌, ◌/◌, ◌<◌}
use native.Mathlib.Omega.{arith}
use mathlib.Core.Bool.{true, false}
use mathlib.Core.List.{List}
use lib.ListN.{length}
use lib.IntN.{ℤ}
use lib.Dec.{eqb}
use borrow.Author.Tests.{eq-eqb, ne_eqb, eqb-true, lt-ltb, ltb-true}
use Rattle.whole.proofs.Linear.{and_true}
use Rattle.whole.proofs.Each.{below_each}
use Rattle.sections.specs.Layouts.{Layout, Table, layout_in_rule, stands_in}
use Rattle.sections.specs.File.{between}
use Rattle.sections.specs.Code.{shape_of}
use Rattle.sections.specs.declared.layouts.Shape.{Shape}
use Rattle.sections.proofs.Shapes.{Good, stands-some}
use Rattle.writer.specs.Writing.{kind_at, list_at, size_in, list_right_rule, lists_right_rule}
use Rattle.writer.specs.declared.Kinds.{Kinds}

-- ---- a layout as the code holds it

module _ (l : Layout) {r : Shape} (e : r ≡ shape_of l) where
  pub size_held : r.size ≡ length l.fields
  unfolding shape_of
  size_held = ap (λ (x : Shape). x.size) e

  pub fewest_held : r.fewest ≡ l.fewest
  unfolding shape_of
  fewest_held = ap (λ (x : Shape). x.fewest) e

  pub most_held : r.most ≡ l.most
  unfolding shape_of
  most_held = ap (λ (x : Shape). x.most) e

-- ---- as the code tests them

module _ {t : Table} (g : Good t) (p k n : ℕ) where
  pub list_none : size_in t p k ≡ 0 → list_right_rule t p k n ≡ false
  unfolding list_right_rule
  list_none h = rw (stands-some g p k, h)

  module _ (a : 0 < size_in t p k) where
    stands : stands_in t p k ≡ true
    stands = stands-some g p k ∙ lt-ltb 0 (size_in t p k) a

    pub list_broken : (size_in t p k * (n / size_in t p k) ≡ n → ⊥) → list_right_rule t p k n ≡ false
    unfolding list_right_rule
    list_broken h = rw (stands, ne_eqb (size_in t p k * (n / size_in t p k)) n h)

    pub list_counted : size_in t p k * (n / size_in t p k) ≡ n → list_right_rule t p k n ≡ between (layout_in_rule t p k).fewest (layout_in_rule t p k).most (n / size_in t p k)
    unfolding list_right_rule
    list_counted b = rw (stands, eq-eqb _ n b)

-- ---- what they say

pub record ListRight (t : Table) (p k n : ℕ) : Type 0 where
  pub stands : stands_in t p k ≡ true
  pub size : 0 < size_in t p k
  pub exact : size_in t p k * (n / size_in t p k) ≡ n
  pub counted : between (layout_in_rule t p k).fewest (layout_in_rule t p k).most (n / size_in t p k) ≡ true

pub list_right : {t : Table} (g : Good t) (p k n : ℕ) → list_right_rule t p k n ≡ true → ListRight t p k n
unfolding list_right_rule
list_right {t = t} g p k n h =
    let a = and_true (stands_in t p k) _ h in
    let b = and_true (eqb (size_in t p k * (n / size_in t p k)) n) _ a.1 in
    record {
      stands = a.0;
      size = ltb-true 0 (size_in t p k) (sym (stands-some g p k) ∙ a.0);
      exact = eqb-true (size_in t p k * (n / size_in t p k)) n b.0;
      counted = b.1;
    }

pub lists_right_lem : {t : Table} (g : Good t) (k : Kinds) (ls : List (List ℤ)) → lists_right_rule t k ls ≡ true → (p : ℕ) → p < 4 → ListRight t p (kind_at k p) (length (list_at ls p))
unfolding lists_right_rule
lists_right_lem {t = t} g k ls h p l = list_right g p _ _ (below_each 4 p (λ (p : ℕ). list_right_rule t p (kind_at k p) (length (list_at ls p))) l h)

pub positive : (n : ℕ) → (n ≡ 0 → ⊥) → 0 < n
positive zero h = absurd (h refl)
positive (suc n) h = omega arith
