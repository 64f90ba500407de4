-- The two round trips of the calls, by the kind of the days. Assumes nothing.
use mathlib.Core.Path.{◌≡◌, refl, sym, ap, ◌∙◌}
use Prim.Native.Nat.{ℕ, ◌≤◌, ◌<◌}
use native.Mathlib.Omega.{arith}
use mathlib.Core.Bool.{Bool, true, false, cond, ◌||◌}
use mathlib.Core.List.{List, [], ◌∷◌}
use mathlib.Core.Logic.{◌⊎◌, inl, inr, ⊎_elim}
use lib.ListN.{length}
use lib.IntN.{ℤ, pos, nat_abs}
use lib.Dec.{eqb}
use borrow.Author.Tests.{eqb-true}
use Rattle.whole.specs.Ranges.{eq_z}
use Rattle.whole.specs.Answers.{number}
use Rattle.whole.proofs.Linear.{no_ft}
use Rattle.whole.proofs.Order.{eq_z_true}
use Rattle.text.specs.Bytes.{pasted}
use Rattle.text.proofs.Numbers.{Bytes}
use Rattle.sections.specs.Layouts.{places, stands_in}
use Rattle.sections.specs.File.{refusal_of_rule, kind_of}
use Rattle.sections.proofs.Shapes.{today}
use Rattle.sections.proofs.Sound.{kind-stands}
use Rattle.sections.proofs.Accepted.{accepted_contents}
use Rattle.session.specs.declared.Counts.{Counts}
use Rattle.session.specs.Records.{check_of}
use Rattle.session.proofs.Answers.{check_number, check_accepted}
use Rattle.writer.specs.Writing.{kind_at, kinds_with_rule}
use Rattle.writer.specs.Handed.{stations_in, sources_in, days_in, passes_in}
use Rattle.writer.specs.Promises.{WritePromise}
use Rattle.writer.specs.Round.{Longs, ReadBack, WrittenBack}
use Rattle.writer.proofs.RoundTrips.{each-place, written_as}
use Rattle.writer.proofs.Handing.{stations-rows, sources-rows, days-rows, passes-rows, hands}
use Rattle.writer.proofs.DayKinds.{answered, as_standing, keeps_standing, number_five, other_refused}
use Rattle.writer.proofs.ThreeBack.{three_back, three_again}

-- ---- what is written is read back

module _ (p q r t : List ℤ) (room : List ℕ) where
  five_back : Longs p → Longs q → Longs r → Longs t → ReadBack (pos 5) p q r t room
  five_back fp fq fr ft e =
      let w = keeps_standing (pos 5) p q r t room (number_five p q r t (length room)) (each-place _ fp fq fr ft) e in
      hands 5 p q r r t _ w (days-rows _ w.accepted (w.kind 2 (omega arith)) ∙ w.rows 2 (omega arith))

  pub read_back : (kind : ℤ) → Longs p → Longs q → Longs r → Longs t → ReadBack kind p q r t room
  read_back kind fp fq fr ft = by (eq_z kind (pos 3)) (eq_z kind (pos 5)) refl refl
    where
      by : (a b : Bool) → eq_z kind (pos 3) ≡ a → eq_z kind (pos 5) ≡ b → ReadBack kind p q r t room
      by true b x y = rw (eq_z_true kind (pos 3) x) (three_back p q r t room fp fq fr ft)
      by false true x y = rw (eq_z_true kind (pos 5) y) (five_back fp fq fr ft)
      by false false x y =
          let none : (eq_z kind (pos 3) || eq_z kind (pos 5)) ≡ false = rw (x, y) in
          λ e. absurd (other_refused kind p q r t (length room) none (ap nat_abs (sym (answered kind p q r t (length room)) ∙ e)))

-- ---- the kinds of a file that is accepted

only : (b : Bool) (k n : ℕ) → eqb k n ≡ b → cond b true false ≡ true → k ≡ n
only true k n e m = eqb-true k n e
only false k n e m = no_ft m

either : (a b : Bool) (k m n : ℕ) → eqb k m ≡ a → eqb k n ≡ b → cond a true (cond b true false) ≡ true → (k ≡ m) ⊎ (k ≡ n)
either true b k m n e f h = inl (eqb-true k m e)
either false b k m n e f h = inr (only b k n f h)

kinds_today : (s : List ℕ) → refusal_of_rule s ≡ 0
    → ((p : ℕ) → p < 4 → kind_of s p ≡ kind_at (kinds_with_rule 3) p) ⊎ ((p : ℕ) → p < 4 → kind_of s p ≡ kind_at (kinds_with_rule 5) p)
unfolding stands_in places
kinds_today s h =
    let stands : (p : ℕ) → p < 4 → stands_in places p (kind_of s p) ≡ true = kind-stands today s (accepted_contents today s h) in
    let all : (k : ℕ) → kind_of s 2 ≡ k → (p : ℕ) → p < 4 → kind_of s p ≡ kind_at (kinds_with_rule k) p = λ k e. each-place (λ (p : ℕ). kind_of s p ≡ kind_at (kinds_with_rule k) p) (only _ _ 1 refl (stands 0 (omega arith))) (only _ _ 2 refl (stands 1 (omega arith))) e (only _ _ 4 refl (stands 3 (omega arith))) in
    ⊎_elim (λ e. inl (all 3 e)) (λ e. inr (all 5 e)) (either _ _ (kind_of s 2) 3 5 refl refl (stands 2 (omega arith)))

-- ---- what is accepted is what is written

five_again : (s : List ℕ) → Bytes s → refusal_of_rule s ≡ 0 → ((p : ℕ) → p < 4 → kind_of s p ≡ kind_at (kinds_with_rule 5) p) → (room : List ℕ) → length s ≤ length room
    → WritePromise (pos 5) (stations_in s) (sources_in s) (days_in s) (passes_in s) room (number (pos (length s))) (pasted room 0 s)
five_again s b h k room l =
    let p = stations_in s in
    let q = sources_in s in
    let r = days_in s in
    let t = passes_in s in
    as_standing (pos 5) p q r t room (number_five p q r t (length room)) _ _
    (written_as s b (kinds_with_rule 5) (p ∷ q ∷ r ∷ t ∷ []) (λ i m. sym (k i m))
    (each-place _ (stations-rows s h (k 0 (omega arith))) (sources-rows s h (k 1 (omega arith))) (days-rows s h (k 2 (omega arith))) (passes-rows s h (k 3 (omega arith)))) h room l)

pub written_back : (s : List ℕ) → Bytes s → WrittenBack s
written_back s b e room l =
    let h : refusal_of_rule s ≡ 0 = ap nat_abs (sym (check_number s) ∙ e) in
    let kind : (check_of s).day_kind ≡ pos (kind_of s 2) = ap (λ (c : Counts). c.day_kind) (check_accepted s h) in
    ⊎_elim (λ k. rw (kind, k 2 (omega arith)) (three_again s b h k room l)) (λ k. rw (kind, k 2 (omega arith)) (five_again s b h k room l)) (kinds_today s h)
