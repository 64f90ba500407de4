-- The answers of the calls, by the way that a call ends. Assumes nothing.
use mathlib.Core.Path.{◌≡◌, sym, ap, ◌∙◌}
use Prim.Native.Nat.{ℕ, ◌^◌, ◌≤◌, ◌<◌}
use native.Mathlib.Omega.{arith}
use native.Mathlib.Decide.{ℕ_discrete}
use mathlib.Core.List.{List, [], ◌∷◌}
use lib.IntN.{ℤ, pos}
use lib.ListN.{replicate}
use lib.Signed.{mag}
use lib.Dec.{ltb}
use mir.Syntax.{w64}
use mir.Val.{to_z, of_z}
use borrow.Author.Tests.{eq-eqb, ne_eqb, lt-ltb, le-ltb}
use Rattle.whole.specs.Refusals.{unless, first_of}
use Rattle.whole.proofs.Linear.{ret}
use Rattle.whole.proofs.Refusals.{end, test, up_to, in_order, first_is}
use Rattle.fields.specs.Records.{station_from_rule, source_from_rule, day_from_rule, pass_from_rule}
use Rattle.sections.specs.Layouts.{places}
use Rattle.sections.specs.File.{refusal_of_rule, count_of_rule}
use Rattle.sections.specs.Rows.{row_of}
use Rattle.sections.proofs.Shapes.{today}
use Rattle.sections.proofs.Accepted.{refusal-most}
use Rattle.session.specs.declared.Counts.{Counts}
use Rattle.std.specs.Prelude.{Result, Ok, Err, IsOkAnd, MatchResult}
use Rattle.whole.specs.declared.refusal.Refusal.{Refusal}
use Rattle.fields.specs.declared.Station.{Station}
use Rattle.fields.specs.declared.Source.{Source}
use Rattle.fields.specs.declared.Day.{Day}
use Rattle.fields.specs.declared.Pass.{Pass}
use Rattle.session.specs.Records.{asked_in, station_answer_in, source_answer_in, day_answer_in, pass_answer_in, no_counts, counts_in, check_of, Asked, asked_of, asked_row, station_of_rule, source_of, day_of_rule, pass_of_rule, station_answer, source_answer, day_answer, pass_answer, station_at_rule, source_at_rule, day_at_rule, pass_at_rule}

-- a number of the code in an answer
pub number_back : (r : ℤ) (n m : ℕ) → mag r < 2 ^ 63 → r ≡ pos n → n ≡ m → to_z w64 (of_z w64 r) ≡ pos m
number_back r n m f e g = ret r f ∙ e ∙ ap pos g

-- any two results that a promise `r ≡ x` allows are equal
pub one_value {ℓ} : {A : Type ℓ} {x a b : A} → a ≡ x → b ≡ x → a ≡ b
one_value h k = h ∙ sym k

-- zeros behind a refusal
abbrev pub refused_row : ℕ → Asked
refused_row n = record { refusal = pos n; row = replicate 8 (pos 0) }

module _ (s : List ℕ) where
  pub check_refused : (refusal_of_rule s ≡ 0 → ⊥) → check_of s ≡ no_counts (refusal_of_rule s)
  unfolding check_of
  check_refused h = rw (ne_eqb (refusal_of_rule s) 0 h)

  pub check_accepted : refusal_of_rule s ≡ 0 → check_of s ≡ counts_in s
  unfolding check_of
  check_accepted h = rw (eq-eqb (refusal_of_rule s) 0 h)

  by_check : Dec (refusal_of_rule s ≡ 0) → (check_of s).refusal ≡ pos (refusal_of_rule s)
  by_check (yes h) = ap (λ (c : Counts). c.refusal) (check_accepted h) ∙ ap pos (sym h)
  by_check (no h) = ap (λ (c : Counts). c.refusal) (check_refused h)

  -- it gives the file's number
  pub check_number : (check_of s).refusal ≡ pos (refusal_of_rule s)
  check_number = by_check (ℕ_discrete (refusal_of_rule s) 0)

  module _ (p i : ℕ) where
    -- the file's number is below 5, so it comes first
    in_turn_lem : asked_of s p i ≡ first_of (refusal_of_rule s ∷ unless (ltb i (count_of_rule s p)) 5 ∷ [])
    unfolding asked_of
    in_turn_lem = in_order (up_to (refusal_of_rule s) 4 (refusal-most today s) (test 4 5 (ltb i (count_of_rule s p)) (omega arith) end))

    pub asked-refused : (refusal_of_rule s ≡ 0 → ⊥) → asked_of s p i ≡ refusal_of_rule s
    asked-refused h = in_turn_lem ∙ first_is (refusal_of_rule s) (unless (ltb i (count_of_rule s p)) 5 ∷ []) h

    module _ (h : refusal_of_rule s ≡ 0) where
      pub asked-there : i < count_of_rule s p → asked_of s p i ≡ 0
      asked-there l = in_turn_lem ∙ rw (h, lt-ltb i (count_of_rule s p) l)

      pub asked_beyond : count_of_rule s p ≤ i → asked_of s p i ≡ 5
      asked_beyond l = in_turn_lem ∙ rw (h, le-ltb i (count_of_rule s p) l)

    -- the row that is handed out, by the number
    pub row_no : (n : ℕ) → asked_of s p i ≡ n → (n ≡ 0 → ⊥) → asked_row s p i ≡ refused_row n
    unfolding asked_row
    row_no n e h = rw (e, ne_eqb n 0 h)

    pub row_yes : asked_of s p i ≡ 0 → asked_row s p i ≡ record { refusal = pos 0; row = row_of places s p i }
    unfolding asked_row
    row_yes e = rw e

  -- the record's fields, where nothing is refused
  module _ (i : ℕ) where
    pub station_yes : asked_of s 0 i ≡ 0 → station_at_rule s i ≡ station_answer (pos 0) (station_of_rule s i)
    unfolding station_at_rule station_of_rule
    station_yes h = ap (λ (a : Asked). station_answer a.refusal (station_from_rule a.row)) (row_yes 0 i h)

    pub source_yes : asked_of s 1 i ≡ 0 → source_at_rule s i ≡ source_answer (pos 0) (source_of s i)
    unfolding source_at_rule source_of
    source_yes h = ap (λ (a : Asked). source_answer a.refusal (source_from_rule a.row)) (row_yes 1 i h)

    pub day_yes : asked_of s 2 i ≡ 0 → day_at_rule s i ≡ day_answer (pos 0) (day_of_rule s i)
    unfolding day_at_rule day_of_rule
    day_yes h = ap (λ (a : Asked). day_answer a.refusal (day_from_rule a.row)) (row_yes 2 i h)

    pub pass_yes : asked_of s 3 i ≡ 0 → pass_at_rule s i ≡ pass_answer (pos 0) (pass_of_rule s i)
    unfolding pass_at_rule pass_of_rule
    pass_yes h = ap (λ (a : Asked). pass_answer a.refusal (pass_from_rule a.row)) (row_yes 3 i h)

-- what is asked for, with its record made of its row
abbrev pub Made : {A : Type 0} → (List ℤ → A) → Result (List ℤ) Refusal → Result A Refusal → Type 0
Made f q m = MatchResult q (λ x. IsOkAnd m (λ r. r ≡ f x)) (λ e. m ≡ Err e)

pub station_made : (q : Result (List ℤ) Refusal) (m : Result Station Refusal) → Made station_from_rule q m → station_answer_in m ≡ station_answer (asked_in q).refusal (station_from_rule (asked_in q).row)
unfolding station_from_rule
station_made (Ok x) (Ok r) h = ap (station_answer (pos 0)) h
station_made (Ok x) (Err e) h = elim h [ ]
station_made (Err e) m h = ap station_answer_in h

pub source_made : (q : Result (List ℤ) Refusal) (m : Result Source Refusal) → Made source_from_rule q m → source_answer_in m ≡ source_answer (asked_in q).refusal (source_from_rule (asked_in q).row)
unfolding source_from_rule
source_made (Ok x) (Ok r) h = ap (source_answer (pos 0)) h
source_made (Ok x) (Err e) h = elim h [ ]
source_made (Err e) m h = ap source_answer_in h

pub day_made : (q : Result (List ℤ) Refusal) (m : Result Day Refusal) → Made day_from_rule q m → day_answer_in m ≡ day_answer (asked_in q).refusal (day_from_rule (asked_in q).row)
unfolding day_from_rule
day_made (Ok x) (Ok r) h = ap (day_answer (pos 0)) h
day_made (Ok x) (Err e) h = elim h [ ]
day_made (Err e) m h = ap day_answer_in h

pub pass_made : (q : Result (List ℤ) Refusal) (m : Result Pass Refusal) → Made pass_from_rule q m → pass_answer_in m ≡ pass_answer (asked_in q).refusal (pass_from_rule (asked_in q).row)
unfolding pass_from_rule
pass_made (Ok x) (Ok r) h = ap (pass_answer (pos 0)) h
pass_made (Ok x) (Err e) h = elim h [ ]
pass_made (Err e) m h = ap pass_answer_in h
