-- A lent track as a loop reads it, four numbers at a time; and what the four conditions leave.
use mathlib.Core.Path.{◌≡◌, refl, sym, ap, ap₂, ◌∙◌}
use mathlib.Core.Bool.{Bool, true, false, cond, ◌&&◌}
use mathlib.Core.List.{List, [], ◌∷◌, map}
use Prim.Native.Nat.{ℕ, suc, ◌+◌, ◌*◌, ◌/◌, ◌-◌, ◌≤◌, ◌<◌}
use native.Mathlib.Omega.{arith}
use borrow.Author.Tests.{leb-true, le-leb}
use lib.Dec.{leb}
use lib.ListN.{length, get_or, drop, length-drop}
use lib.Seq.{drop-cons}
use lib.IntN.{ℤ, pos, negsuc, ◌+ℤ◌, ◌-ℤ◌, ◌*ℤ◌}
use lib.Signed.{le_z, lt_z}
use Rattle.whole.specs.Whole.{pos_part, neg_part, ∣◌∣}
use Rattle.whole.specs.declared.Number.{Number}
use Rattle.whole.specs.Ranges.{eq_z}
use Rattle.whole.specs.Answers.{given, no_number_rule, answer_by}
use Rattle.whole.specs.Refusals.{unless}
use Rattle.whole.proofs.Linear.{and_true, le_z_true, ⇒eq, lt_z_true, lt_z_false, no_ft}
use Rattle.whole.proofs.Quote.{⟨◌⟩, #, ◌⊕◌, ◌⊝◌, bal, by≡}
use Rattle.whole.proofs.Each.{below_each}
use Rattle.whole.proofs.Tests.{and_no}
use Rattle.track.specs.Segments.{Segment, flat}
use Rattle.predict.specs.declared.segment.Lent.{Lent}
pub use Rattle.predict.specs.Lent.{lent_at}
use Rattle.predict.specs.Lent.{lent_of, as_lent, predicted, place_ok_rule, place_in_rule, length_ok_rule, range_ok_rule, predictions_ok, segment_ok_rule, sound_from, covers, covered_by, prediction_at_rule, answer_at}
use Rattle.predict.specs.Ends.{reach}
use Rattle.predict.proofs.Reach.{round_reach}

next : (s : List ℤ) (k k' : ℕ) → k' ≡ suc k → k < length s → drop k s ≡ get_or s k (pos 0) ∷ drop k' s
next s k k' e h = drop-cons s k (pos 0) h ∙ ap (λ (n : ℕ). get_or s k (pos 0) ∷ drop n s) (sym e)

pub lent_of_more : (s : List ℤ) (i : ℕ) → 4 * i + 3 < length s → lent_of (drop (4 * i) s) ≡ lent_at s i ∷ lent_of (drop (4 * (i + 1)) s)
unfolding lent_of
lent_of_more s i h = ap lent_of (
    next s (4 * i) (4 * i + 1) (omega arith) (omega arith)
    ∙ ap (λ (l : List ℤ). get_or s (4 * i) (pos 0) ∷ l) (
    next s (4 * i + 1) (4 * i + 2) (omega arith) (omega arith)
    ∙ ap (λ (l : List ℤ). get_or s (4 * i + 1) (pos 0) ∷ l) (
    next s (4 * i + 2) (4 * i + 3) (omega arith) (omega arith)
    ∙ ap (λ (l : List ℤ). get_or s (4 * i + 2) (pos 0) ∷ l) (next s (4 * i + 3) (4 * (i + 1)) (omega arith) h)
    )
    )
    )

short : (l : List ℤ) → length l < 4 → lent_of l ≡ []
unfolding lent_of
short [] h = refl
short (a ∷ []) h = refl
short (a ∷ b ∷ []) h = refl
short (a ∷ b ∷ c ∷ []) h = refl
short (a ∷ b ∷ c ∷ d ∷ l) h = absurd (omega arith)

pub lent_of_none : (s : List ℤ) (i : ℕ) → length s / 4 ≤ i → lent_of (drop (4 * i) s) ≡ []
lent_of_none s i h = short (drop (4 * i) s) (omega (arith, length-drop (4 * i) s))

-- what is written as a track is lent as its segments; and a list has as many as four go into its numbers
pub lent_of_flat : (xs : List Segment) → lent_of (flat xs) ≡ map as_lent xs
unfolding flat lent_of
lent_of_flat [] = refl
lent_of_flat (x ∷ xs) = ap (λ (l : List Lent). as_lent x ∷ l) (lent_of_flat xs)

pub lent_of_length : (l : List ℤ) → length (lent_of l) ≡ length l / 4
unfolding lent_of
lent_of_length [] = refl
lent_of_length (a ∷ []) = refl
lent_of_length (a ∷ b ∷ []) = refl
lent_of_length (a ∷ b ∷ c ∷ []) = refl
lent_of_length (a ∷ b ∷ c ∷ d ∷ l) = omega (arith, lent_of_length l)

-- what place and length leave, where n samples are the most
pub record Placed (n at : ℕ) (x : Lent) : Type 0 where
  pub first : x.first ≡ pos at
  pub count : x.count ≡ pos (pos_part x.count)
  pub size : ∣ x.count ∣ ≡ pos_part x.count
  pub some : 1 ≤ pos_part x.count
  pub cap : pos_part x.count ≤ 1024
  pub room : at + pos_part x.count ≤ n

above_zero : (c : ℤ) → le_z (pos 1) c ≡ true → c ≡ pos (pos_part c)
above_zero (pos n) h = refl
above_zero (negsuc n) h = no_ft h

pub placed : (n at : ℕ) (x : Lent) → place_in_rule n at x ≡ true → length_ok_rule x ≡ true → Placed n at x
placed n at x p q =
    let f = and_true (eq_z (pos at) x.first) (le_z (pos at +ℤ x.count) (pos n)) p in
    let e = and_true (le_z (pos at) x.first) (le_z x.first (pos at)) f.0 in
    let l = and_true (le_z (pos 1) x.count) (le_z x.count (pos 1024)) q in
    let c = above_zero x.count l.0 in
    let z : neg_part x.count ≡ 0 = ap neg_part c in record {
      first = ⇒eq x.first (pos at) (omega (arith, le_z_true (pos at) x.first e.0, le_z_true x.first (pos at) e.1));
      count = c;
      size = omega arith;
      some = omega (arith, le_z_true (pos 1) x.count l.0);
      cap = omega (arith, le_z_true x.count (pos 1024) l.1);
      room = omega (arith, le_z_true (pos at +ℤ x.count) (pos n) f.1, bal (# at ⊕ ⟨ x.count ⟩));
    }

-- what range leaves
pub in_bounds : (x : Lent) → range_ok_rule x ≡ true → (∣ x.offset ∣ ≤ 9_000_000_000_000_000) × (∣ x.rate ∣ ≤ 20_000_000_000_000_000)
in_bounds x h = let r = and_true (leb ∣ x.offset ∣ 9_000_000_000_000_000) (leb ∣ x.rate ∣ 20_000_000_000_000_000) h in
    (leb-true ∣ x.offset ∣ 9_000_000_000_000_000 r.0, leb-true ∣ x.rate ∣ 20_000_000_000_000_000 r.1)

-- what the four conditions leave
pub record Good (at : ℕ) (x : Lent) : Type 0 where
  pub stands : Placed 4096 at x
  pub in_range_lem : range_ok_rule x ≡ true
  pub first : x.first ≡ pos at
  pub count : x.count ≡ pos (pos_part x.count)
  pub size : ∣ x.count ∣ ≡ pos_part x.count
  pub some : 1 ≤ pos_part x.count
  pub cap : pos_part x.count ≤ 1024
  pub room : at + pos_part x.count ≤ 4096
  pub offset : ∣ x.offset ∣ ≤ 9_000_000_000_000_000
  pub rate : ∣ x.rate ∣ ≤ 20_000_000_000_000_000
  pub predictions : (j : ℕ) → j < pos_part x.count → ∣ predicted x (pos j) ∣ ≤ 131_000_000_000
  pub reached : (j : ℕ) → j < pos_part x.count → ∣ x.offset +ℤ x.rate *ℤ pos j ∣ ≤ reach

pub good : (at : ℕ) (x : Lent) → segment_ok_rule at x ≡ true → Good at x
unfolding segment_ok_rule predictions_ok
good at x h =
    let a = and_true (place_ok_rule at x && length_ok_rule x && range_ok_rule x) (predictions_ok x) h in
    let b = and_true (place_ok_rule at x && length_ok_rule x) (range_ok_rule x) a.0 in
    let p = and_true (place_ok_rule at x) (length_ok_rule x) b.0 in
    let q : (j : ℕ) → j < pos_part x.count → leb ∣ predicted x (pos j) ∣ 131_000_000_000 ≡ true = λ j k. below_each (pos_part x.count) j (λ i. leb ∣ predicted x (pos i) ∣ 131_000_000_000) k a.1 in
    let s = placed 4096 at x p.0 p.1 in
    record {
      stands = s;
      in_range_lem = b.1;
      first = s.first;
      count = s.count;
      size = s.size;
      some = s.some;
      cap = s.cap;
      room = s.room;
      offset = (in_bounds x b.1).0;
      rate = (in_bounds x b.1).1;
      predictions = λ j k. leb-true ∣ predicted x (pos j) ∣ 131_000_000_000 (q j k);
      reached = λ j k. leb-true ∣ x.offset +ℤ x.rate *ℤ pos j ∣ reach (sym (round_reach (x.offset +ℤ x.rate *ℤ pos j)) ∙ q j k);
    }

-- a sound track: its first segment, and the rest
pub sound_head : (at : ℕ) (x : Lent) (xs : List Lent) → sound_from at (x ∷ xs) ≡ true → (segment_ok_rule at x ≡ true) × (sound_from (at + pos_part x.count) xs ≡ true)
unfolding sound_from
sound_head at x xs h = and_true (segment_ok_rule at x) (sound_from (at + pos_part x.count) xs) h

-- no segment covers a sample
pub nothing_left : (k : ℕ) → answer_at [] k ≡ no_number_rule 9
unfolding given covered_by answer_at
nothing_left k = refl

-- whether a good segment covers a sample that is not before it
module _ (at : ℕ) (x : Lent) (g : Good at x) (xs : List Lent) (k : ℕ) (from : at ≤ k) where
  -- the answer by whether the first segment covers the sample
  abbrev by_test : Bool → Number
  by_test b = answer_by (unless (cond b true (covered_by xs k)) 9) (cond b (predicted x (pos k -ℤ x.first)) (prediction_at_rule xs k))

  ends : pos_part (x.first +ℤ x.count) ≡ neg_part (x.first +ℤ x.count) + (at + pos_part x.count)
  ends = omega (arith, bal (⟨ x.first ⟩ ⊕ ⟨ x.count ⟩), ap pos_part g.stands.first, ap neg_part g.stands.first, ap neg_part g.stands.count)

  pub covered : k < at + pos_part x.count → answer_at (x ∷ xs) k ≡ record { refusal = pos 0; value = predicted x (pos (k - at)) }
  unfolding given covered_by prediction_at_rule answer_at
  covered h = ap (λ (b : Bool). by_test b) yes_covers
      ∙ (λ i. record { refusal = pos 0; value = predicted x (place i) })
    where
      place : pos k -ℤ x.first ≡ pos (k - at)
      place = ap (λ (z : ℤ). pos k -ℤ z) g.stands.first ∙ by≡ (# k ⊝ # at) (# (k - at)) (omega arith)

      begins : le_z x.first (pos k) ≡ true
      begins = ap (λ (z : ℤ). le_z z (pos k)) g.stands.first ∙ le-leb at k from

      stops : lt_z (pos k) (x.first +ℤ x.count) ≡ true
      stops = go (lt_z (pos k) (x.first +ℤ x.count)) refl
        where
          go : (b : Bool) → b ≡ lt_z (pos k) (x.first +ℤ x.count) → b ≡ true
          go true e = refl
          go false e = absurd (omega (arith, ends, lt_z_false (pos k) (x.first +ℤ x.count) (sym e)))

      yes_covers : covers x k ≡ true
      yes_covers = ap₂ (λ (a b : Bool). a && b) begins stops

  pub passed : at + pos_part x.count ≤ k → answer_at (x ∷ xs) k ≡ answer_at xs k
  unfolding covered_by prediction_at_rule answer_at
  passed h = ap (λ (b : Bool). by_test b) no_covers
    where
      stops : lt_z (pos k) (x.first +ℤ x.count) ≡ false
      stops = go (lt_z (pos k) (x.first +ℤ x.count)) refl
        where
          go : (b : Bool) → b ≡ lt_z (pos k) (x.first +ℤ x.count) → b ≡ false
          go true e = absurd (omega (arith, ends, lt_z_true (pos k) (x.first +ℤ x.count) (sym e)))
          go false e = refl

      no_covers : covers x k ≡ false
      no_covers = and_no (le_z x.first (pos k)) (lt_z (pos k) (x.first +ℤ x.count)) stops
