-- The list of a text's rows, row by row: what holds of it before each, how it goes on, and how it ends. Assumes nothing.
use mathlib.Core.Path.{◌≡◌, refl, sym, ap, ◌∙◌}
use mathlib.Core.Bool.{true, false}
use mathlib.Core.List.{List, [], ◌∷◌, map}
use Prim.Native.Nat.{ℕ, zero, suc, ◌+◌, ◌-◌, ◌*◌, ◌≤◌, ◌<◌}
use native.Mathlib.Numerals.{add-one}
use native.Mathlib.Omega.{arith}
use native.Mathlib.Decide.{ℕ_discrete}
use lib.ListN.{length, get_or, set, take, drop, length-drop, length-set, length-map}
use lib.Seq.{drop-cons, get_or-set_same, get_or-set_other, get_or-take, length-take-le, ext_get_or}
use lib.IntN.{ℤ, pos}
use Rattle.whole.proofs.Each.{below_all, below_fails}
use Rattle.text.specs.Lines.{first_line}
use Rattle.text.proofs.LineFeeds.{part_is}
use Rattle.bulletin.specs.Rows.{rows_of, row_at_rule, has_day_rule, day_in_rule, days_of}
use Rattle.bulletin.specs.Reading.{all_dated}
use Rattle.bulletin.specs.Code.{Stands, Listed}
use Rattle.bulletin.proofs.RowLaws.{row_here, no_row, row_long}

-- a list that goes on with x at place n
drop_head : {A : Type 0} (d : A) (l : List A) (n : ℕ) (x : A) (m : List A) → drop n l ≡ x ∷ m → (n < length l) × (get_or l n d ≡ x) × (drop (n + 1) l ≡ m)
drop_head d l n x m e =
    let h : n < length l = omega (arith, ap length e, length-drop n l) in
    let f : get_or l n d ∷ drop (suc n) l ≡ x ∷ m = sym (drop-cons l n d h) ∙ e in
    (h, (cc), rw add-one (cc))

pub map_at : {A B : Type 0} (f : A → B) (l : List A) (n : ℕ) (d : A) (e : B) → n < length l → get_or (map f l) n e ≡ f (get_or l n d)
map_at f [] n d e h = absurd (omega arith)
map_at f (x ∷ l) zero d e h = refl
map_at f (x ∷ l) (suc n) d e h = map_at f l n d e (omega arith)

-- ---- n rows are listed, and the next would start at `at`

pub record Listing (text : List ℕ) (at n : ℕ) (dates : List ℤ) (starts : List ℕ) : Type 0 where
  pub inside : at ≤ length text
  pub few : 16 * n ≤ at
  pub room : length dates ≡ 4096
  pub places : length starts ≡ 4097
  pub known : n ≤ length (rows_of text)
  pub rest : drop n (rows_of text) ≡ rows_of (drop at text)
  pub here : get_or starts n 0 ≡ at
  pub day : (i : ℕ) → i < n → get_or dates i (pos 0) ≡ day_in_rule (row_at_rule text i)
  pub dated : (i : ℕ) → i < n → has_day_rule (row_at_rule text i) ≡ true
  pub stands : (i : ℕ) → i < n → Stands text starts i

pub listing_none : (text : List ℕ) (dates : List ℤ) (starts : List ℕ) → length dates ≡ 4096 → length starts ≡ 4097 → Listing text 0 0 dates (set starts 0 0)
listing_none text dates starts h k =
    record {
      inside = omega arith;
      few = omega arith;
      room = h;
      places = length-set starts 0 0 ∙ k;
      known = omega arith;
      rest = refl;
      here = get_or-set_same starts 0 0 0 (omega (arith, k));
      day = λ i l. absurd (omega arith);
      dated = λ i l. absurd (omega arith);
      stands = λ i l. absurd (omega arith);
    }

stands_same : {text starts starts' : List ℕ} {i : ℕ} → get_or starts' i 0 ≡ get_or starts i 0 → get_or starts' (i + 1) 0 ≡ get_or starts (i + 1) 0 → Stands text starts i → Stands text starts' i
stands_same p q s = record { order = rw (p, q) s.order; most = rw q s.most; bytes = rw (p, q) s.bytes }

module _ {text : List ℕ} {at n : ℕ} {dates : List ℤ} {starts : List ℕ} (l : Listing text at n dates starts)
    (end : ℕ) (e : end ≡ at + length (first_line (drop at text))) where
  pub rows_few : length text ≤ 65536 → n ≤ 4096
  rows_few t = omega (arith, l.few, l.inside, t)

  -- ---- there is a row more

  module _ (k : end < length text) where
    next_row : (n < length (rows_of text)) × (row_at_rule text n ≡ first_line (drop at text)) × (drop (n + 1) (rows_of text) ≡ rows_of (drop (end + 1) text))
    next_row = drop_head [] (rows_of text) n (first_line (drop at text)) (rows_of (drop (end + 1) text)) (l.rest ∙ row_here text at end l.inside e k)

    pub row_is : take (end - at) (drop at text) ≡ row_at_rule text n
    row_is = part_is text at end l.inside e ∙ sym next_row.1

    pub undated : has_day_rule (row_at_rule text n) ≡ false → all_dated text ≡ false
    unfolding all_dated
    undated h = below_fails (length (rows_of text)) n _ next_row.0 h

    module _ (h : has_day_rule (row_at_rule text n) ≡ true) where
      wide : 15 + at ≤ end
      wide = omega (arith, row_long (row_at_rule text n) h, ap length next_row.1, e)

      pub fits : length text ≤ 65536 → n < 4096
      fits t = omega (arith, l.few, wide, k, t)

      module _ (t : n < 4096) where
        abbrev starts' : List ℕ
        starts' = set starts (n + 1) (end + 1)

        abbrev dates' : List ℤ
        dates' = set dates n (day_in_rule (row_at_rule text n))

        before : (i : ℕ) → i < n + 1 → get_or starts' i 0 ≡ get_or starts i 0
        before i m = get_or-set_other starts (n + 1) i (end + 1) 0 (λ q. omega (arith, q, m))

        behind : get_or starts' (n + 1) 0 ≡ end + 1
        behind = get_or-set_same starts (n + 1) (end + 1) 0 (omega (arith, l.places))

        own : Stands text starts' n
        own =
            let p : get_or starts' n 0 ≡ at = before n (omega arith) ∙ l.here in
            let q : end + 1 - 1 - at ≡ end - at = omega arith in
            record { order = rw (p, behind) (omega (arith, e)); most = rw behind (omega (arith, k)); bytes = rw (p, behind, q) row_is }

        stands_by : (i : ℕ) → i < n + 1 → Dec (i ≡ n) → Stands text starts' i
        stands_by i m (yes q) = rw q own
        stands_by i m (no q) = stands_same (before i m) (before (i + 1) (omega (arith, m, q))) (l.stands i (omega (arith, m, q)))

        dated_by : (i : ℕ) → i < n + 1 → Dec (i ≡ n) → has_day_rule (row_at_rule text i) ≡ true
        dated_by i m (yes q) = rw q h
        dated_by i m (no q) = l.dated i (omega (arith, m, q))

        day_by_lem : (i : ℕ) → i < n + 1 → Dec (i ≡ n) → get_or dates' i (pos 0) ≡ day_in_rule (row_at_rule text i)
        day_by_lem i m (yes q) = rw q (get_or-set_same dates n (day_in_rule (row_at_rule text n)) (pos 0) (omega (arith, l.room)))
        day_by_lem i m (no q) = get_or-set_other dates n i (day_in_rule (row_at_rule text n)) (pos 0) q ∙ l.day i (omega (arith, m, q))

        pub listing_next : Listing text (end + 1) (n + 1) (set dates n (day_in_rule (row_at_rule text n))) (set starts (n + 1) (end + 1))
        listing_next =
            record {
              inside = omega (arith, k);
              few = omega (arith, l.few, wide);
              room = length-set dates n (day_in_rule (row_at_rule text n)) ∙ l.room;
              places = length-set starts (n + 1) (end + 1) ∙ l.places;
              known = omega (arith, next_row.0);
              rest = next_row.2;
              here = behind;
              day = λ i m. day_by_lem i m (ℕ_discrete i n);
              dated = λ i m. dated_by i m (ℕ_discrete i n);
              stands = λ i m. stands_by i m (ℕ_discrete i n);
            }

  -- ---- or there is none

  module _ (k : end ≡ length text) (t : length text ≤ 65536) where
    all_rows : n ≡ length (rows_of text)
    all_rows = omega (arith, ap length (l.rest ∙ no_row text at end l.inside e k), length-drop n (rows_of text), l.known)

    listed-long : length (take n dates) ≡ n
    listed-long = length-take-le n dates (omega (arith, rows_few t, l.room))

    pub all_dated_lem : all_dated text ≡ true
    unfolding all_dated
    all_dated_lem = below_all (length (rows_of text)) _ (λ i m. l.dated i (omega (arith, m, all_rows)))

    pub listed : Listed text (take n dates) starts
    listed =
        record {
          days =
              ext_get_or (pos 0) (take n dates) (days_of text) (listed-long ∙ all_rows ∙ sym (length-map (rows_of text) day_in_rule))
              (λ i m.
              let f : i < n = omega (arith, m, listed-long) in
              get_or-take n dates i (pos 0) f ∙ l.day i f ∙ sym (map_at day_in_rule (rows_of text) i [] (pos 0) (omega (arith, f, all_rows))));
          enough = omega (arith, listed-long, l.places, rows_few t);
          dated = λ i m. l.dated i (omega (arith, m, listed-long));
          stands = λ i m. l.stands i (omega (arith, m, listed-long));
        }
