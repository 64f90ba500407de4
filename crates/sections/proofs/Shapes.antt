-- Laws of a table of places: what a test that is computed over the whole table says of the layout of any kind in any place. Assumes nothing.
use mathlib.Core.Path.{◌≡◌, refl, sym}
use Prim.Native.Nat.{ℕ, zero, suc, ◌≤◌}
use mathlib.Core.Bool.{Bool, true, false, ◌&&◌, cond}
use mathlib.Core.List.{List, [], ◌∷◌}
use lib.ListN.{length}
use lib.Dec.{eqb, leb, ltb}
use native.Mathlib.Omega.{arith}
use borrow.Author.Tests.{eq-eqb, ne_eqb, eqb-true, leb-true}
use Rattle.sections.specs.Layouts.{Layout, Table, places, no_layout, of_kind, any_of_kind, layouts_in, layout_in_rule, stands_in}
use Rattle.whole.proofs.Linear.{and_true, no_ft}

-- ---- a test of each layout, of a place's list and of a table

abbrev pub all_of : (Layout → Bool) → List Layout → Bool
all_of test [] = true
all_of test (l ∷ ls) = test l && all_of test ls

abbrev pub all_in : (Layout → Bool) → Table → Bool
all_in test [] = true
all_in test (ls ∷ rest) = all_of test ls && all_in test rest

in_place : (test : Layout → Bool) (t : Table) (p : ℕ) → all_in test t ≡ true → all_of test (layouts_in t p) ≡ true
in_place test [] p h = refl
in_place test (ls ∷ rest) zero h = (and_true (all_of test ls) (all_in test rest) h).0
in_place test (ls ∷ rest) (suc p) h = in_place test rest p (and_true (all_of test ls) (all_in test rest) h).1

-- the layout of a kind that stands in a place is one of the place's list, so it passes what each of them passes
one_of : (test : Layout → Bool) (ls : List Layout) (k : ℕ) → all_of test ls ≡ true → any_of_kind ls k ≡ true → test (of_kind ls k) ≡ true
one_of test [] k h m = no_ft m
one_of test (l ∷ ls) k h m = let w = and_true (test l) (all_of test ls) h in by (eqb k l.kind) w.0 (one_of test ls k w.1) m
  where
    by : (b : Bool) → test l ≡ true → (any_of_kind ls k ≡ true → test (of_kind ls k) ≡ true) → cond b true (any_of_kind ls k) ≡ true → test (cond b l (of_kind ls k)) ≡ true
    by true a r m = a
    by false a r m = r m

pub listed : (test : Layout → Bool) (t : Table) (p k : ℕ) → all_of test (layouts_in t p) ≡ true → stands_in t p k ≡ true → test (layout_in_rule t p k) ≡ true
unfolding layout_in_rule stands_in
listed test t p k h m = one_of test (layouts_in t p) k h m

-- and what no layout passes too holds of every kind
of_kind_lem : (test : Layout → Bool) (ls : List Layout) (k : ℕ) → test no_layout ≡ true → all_of test ls ≡ true → test (of_kind ls k) ≡ true
of_kind_lem test [] k n h = n
of_kind_lem test (l ∷ ls) k n h = let w = and_true (test l) (all_of test ls) h in by (eqb k l.kind) w.0 (of_kind_lem test ls k n w.1)
  where
    by : (b : Bool) → test l ≡ true → test (of_kind ls k) ≡ true → test (cond b l (of_kind ls k)) ≡ true
    by true a r = a
    by false a r = r

pub any_kind : (test : Layout → Bool) (t : Table) (p k : ℕ) → test no_layout ≡ true → all_in test t ≡ true → test (layout_in_rule t p k) ≡ true
unfolding layout_in_rule
any_kind test t p k n h = of_kind_lem test (layouts_in t p) k n (in_place test t p h)

-- ---- a table that the code can hold: few fields, few records and at least one; and each kind has fields and a small number

pub small : Layout → Bool
small l = leb (length l.fields) 8 && (leb l.most 256 && leb 1 l.fewest)

pub some : Layout → Bool
some l = ltb 0 (length l.fields) && leb l.kind 255

pub record Good (t : Table) : Type 0 where
  pub all_small : all_in small t ≡ true
  pub all_some : all_in some t ≡ true

-- today's is one
pub today : Good places
unfolding places small some
today = record { all_small = refl; all_some = refl }

module _ {t : Table} (g : Good t) (p k : ℕ) where
  small_in : small (layout_in_rule t p k) ≡ true
  unfolding no_layout small
  small_in = any_kind small t p k refl g.all_small

  pub size_small : length (layout_in_rule t p k).fields ≤ 8
  unfolding small
  size_small = leb-true _ _ (and_true _ _ small_in).0

  counts : leb (layout_in_rule t p k).most 256 && leb 1 (layout_in_rule t p k).fewest ≡ true
  unfolding small
  counts = (and_true (leb (length (layout_in_rule t p k).fields) 8) _ small_in).1

  pub most-small : (layout_in_rule t p k).most ≤ 256
  most-small = leb-true _ _ (and_true _ _ counts).0

  pub fewest-one : 1 ≤ (layout_in_rule t p k).fewest
  fewest-one = leb-true _ _ (and_true (leb (layout_in_rule t p k).most 256) _ counts).1

-- ---- a kind stands in a place exactly where its layout has fields

has : Layout → Bool
has l = ltb 0 (length l.fields)

any_has : (ls : List Layout) (k : ℕ) → all_of some ls ≡ true → any_of_kind ls k ≡ has (of_kind ls k)
unfolding no_layout has some
any_has [] k h = refl
any_has (l ∷ ls) k h =
    let w = and_true (some l) (all_of some ls) h in
    by (eqb k l.kind) (and_true (has l) (leb l.kind 255) w.0).0 (any_has ls k w.1)
  where
    by : (b : Bool) → has l ≡ true → any_of_kind ls k ≡ has (of_kind ls k) → cond b true (any_of_kind ls k) ≡ has (cond b l (of_kind ls k))
    by true a r = sym a
    by false a r = r

any_low : (ls : List Layout) (k : ℕ) → all_of some ls ≡ true → any_of_kind ls k ≡ true → k ≤ 255
unfolding some
any_low [] k h m = no_ft m
any_low (l ∷ ls) k h m =
    let w = and_true (some l) (all_of some ls) h in
    by (eqb k l.kind) refl (leb-true l.kind 255 (and_true (ltb 0 (length l.fields)) _ w.0).1) (any_low ls k w.1) m
  where
    by : (b : Bool) → eqb k l.kind ≡ b → l.kind ≤ 255 → (any_of_kind ls k ≡ true → k ≤ 255) → cond b true (any_of_kind ls k) ≡ true → k ≤ 255
    by true e a r m = omega (arith, eqb-true k l.kind e)
    by false e a r m = r m

module _ {t : Table} (g : Good t) (p k : ℕ) where
  pub stands-some : stands_in t p k ≡ ltb 0 (length (layout_in_rule t p k).fields)
  unfolding layout_in_rule stands_in has
  stands-some = any_has (layouts_in t p) k (in_place some t p g.all_some)

  pub kind-small : stands_in t p k ≡ true → k ≤ 255
  unfolding stands_in
  kind-small h = any_low (layouts_in t p) k (in_place some t p g.all_some) h

-- ---- the first of a list, and those behind it, as the code asks for a kind

pub kind_hit : (l : Layout) (ls : List Layout) (k : ℕ) → k ≡ l.kind → of_kind (l ∷ ls) k ≡ l
kind_hit l ls k e = rw (eq-eqb k l.kind e)

pub kind_miss : (l : Layout) (ls : List Layout) (k : ℕ) → (k ≡ l.kind → ⊥) → of_kind (l ∷ ls) k ≡ of_kind ls k
kind_miss l ls k f = rw (ne_eqb k l.kind f)
