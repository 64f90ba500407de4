-- What is proved of the rows that are taken, from the list of rows. Assumes nothing.
use mathlib.Core.Path.{◌≡◌, sym, ap, ◌∙◌}
use mathlib.Core.Bool.{true, false}
use mathlib.Core.List.{List, []}
use Prim.Native.Nat.{ℕ, ◌<◌}
use native.Mathlib.Omega.{arith}
use borrow.Author.Tests.{eq-eqb, ne_eqb, ltb-true}
use lib.Dec.{ltb}
use lib.ListN.{length, get_or, length-map}
use lib.IntN.{ℤ, pos, negsuc, ◌+ℤ◌}
use Rattle.whole.specs.Whole.{pos_part}
use Rattle.whole.specs.Each.{all_below, implies}
use Rattle.whole.proofs.Each.{below_each, all_same}
use Rattle.whole.proofs.Linear.{add_law}
use Rattle.whole.proofs.Order.{le_yes, lt_yes}
use Rattle.whole.proofs.Tests.{and_yes}
use Rattle.bulletin.specs.Rows.{rows_of, row_at_rule, day_in_rule, is_filled_rule, days_of, first_in_rule}
use Rattle.bulletin.specs.Reading.{asked, is_taken, taken_filled_rule, days_there_rule}
use Rattle.bulletin.specs.Code.{Near, Listed, Ready}
use Rattle.bulletin.proofs.RowLaws.{day-small}
use Rattle.bulletin.proofs.ListingLaws.{map_at}
use Rattle.bulletin.proofs.Finding.{first_is}

module _ {text : List ℕ} {dates : List ℤ} {starts : List ℕ} (l : Listed text dates starts) where
  pub listed-long : length dates ≡ length (rows_of text)
  listed-long = ap length l.days ∙ length-map (rows_of text) day_in_rule

  pub day_of_lem : (i : ℕ) → i < length dates → get_or dates i (pos 0) ≡ day_in_rule (row_at_rule text i)
  day_of_lem i h = ap (λ (xs : List ℤ). get_or xs i (pos 0)) l.days ∙ map_at day_in_rule (rows_of text) i [] (pos 0) (omega (arith, h, listed-long))

  pub near : Near dates
  near i h = rw (day_of_lem i h) (day-small (row_at_rule text i) (l.dated i h))

  -- ---- row i, as the code judges it

  module _ (first count : ℤ) (i : ℕ) where
    pub not_asked : asked first count (day_in_rule (row_at_rule text i)) ≡ false → implies (is_taken text first count i) (is_filled_rule (row_at_rule text i)) ≡ true
    unfolding is_taken
    not_asked a = rw a

    pub not_first : asked first count (day_in_rule (row_at_rule text i)) ≡ true → (first_in_rule dates (day_in_rule (row_at_rule text i)) ≡ i → ⊥) → implies (is_taken text first count i) (is_filled_rule (row_at_rule text i)) ≡ true
    unfolding is_taken
    not_first a f = rw (a, ne_eqb (first_in_rule (days_of text) (day_in_rule (row_at_rule text i))) i (λ e. f (ap (λ (xs : List ℤ). first_in_rule xs (day_in_rule (row_at_rule text i))) l.days ∙ e)))

    pub is_taken_lem : asked first count (day_in_rule (row_at_rule text i)) ≡ true → first_in_rule dates (day_in_rule (row_at_rule text i)) ≡ i → is_taken text first count i ≡ true
    unfolding is_taken
    is_taken_lem a f = and_yes a (eq-eqb (first_in_rule (days_of text) (day_in_rule (row_at_rule text i))) i (ap (λ (xs : List ℤ). first_in_rule xs (day_in_rule (row_at_rule text i))) (sym l.days) ∙ f))

    pub if_taken : asked first count (day_in_rule (row_at_rule text i)) ≡ true → first_in_rule dates (day_in_rule (row_at_rule text i)) ≡ i → implies (is_taken text first count i) (is_filled_rule (row_at_rule text i)) ≡ is_filled_rule (row_at_rule text i)
    if_taken a f = rw (is_taken_lem a f)

  pub there_by : (first count : ℤ) → all_below (pos_part count) (λ (k : ℕ). ltb (first_in_rule dates (first +ℤ pos k)) (length dates)) ≡ days_there_rule text first count
  unfolding days_there_rule
  there_by first count =
      all_same (pos_part count) _ _
      (λ k h. rw (listed-long, l.days))

asked_from : (first count : ℤ) (k : ℕ) → k < pos_part count → asked first count (first +ℤ pos k) ≡ true
asked_from first (negsuc n) k h = absurd (omega arith)
asked_from first (pos n) k h =
    and_yes
    (le_yes first (first +ℤ pos k) (omega (arith, add_law first (pos k))))
    (lt_yes (first +ℤ pos k) (first +ℤ pos n) (omega (arith, add_law first (pos k), add_law first (pos n), h)))

-- ---- where all is ready, each day asked for has a row, and it is filled

module _ {text : List ℕ} {dates : List ℤ} {starts : List ℕ} (l : Listed text dates starts) {first count : ℤ} (r : Ready text first count) (k : ℕ) (h : k < pos_part count) where
  pub found : first_in_rule dates (first +ℤ pos k) < length dates
  found = ltb-true (first_in_rule dates (first +ℤ pos k)) (length dates) (below_each (pos_part count) k _ h (there_by l first count ∙ r.there))

  its_day : day_in_rule (row_at_rule text (first_in_rule dates (first +ℤ pos k))) ≡ first +ℤ pos k
  its_day = sym (day_of_lem l (first_in_rule dates (first +ℤ pos k)) found) ∙ first_is dates (first +ℤ pos k) found

  pub filled : is_filled_rule (row_at_rule text (first_in_rule dates (first +ℤ pos k))) ≡ true
  unfolding taken_filled_rule
  filled =
      let i = first_in_rule dates (first +ℤ pos k) in
      let a : asked first count (day_in_rule (row_at_rule text i)) ≡ true = ap (asked first count) its_day ∙ asked_from first count k h in
      let f : first_in_rule dates (day_in_rule (row_at_rule text i)) ≡ i = ap (first_in_rule dates) its_day in
      sym (if_taken l first count i a f) ∙ below_each (length (rows_of text)) i _ (omega (arith, found, listed-long l)) r.filled
