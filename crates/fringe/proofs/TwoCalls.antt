-- THE THEOREMS of document 02, L6: `pass_track` answers as `samples` and then `track`, with the numbers 1 to 6 and then 8, and never with 7; refused, it leaves the room. Assumes nothing.
use mathlib.Core.Path.{◌≡◌, refl, sym, ap, subst, ◌∙◌}
use mathlib.Core.Bool.{Bool, true, false}
use mathlib.Core.List.{List, [], ◌∷◌}
use mathlib.Core.Logic.{⊎_elim}
use Prim.Native.Nat.{ℕ, zero, suc, ◌/◌, ◌≤◌, ◌<◌}
use native.Mathlib.Decide.{ℕ_discrete}
use native.Mathlib.Omega.{arith}
use borrow.Author.Tests.{lt-ltb, le-ltb, le-leb}
use lib.Dec.{leb}
use lib.IntN.{ℤ, pos, nat_abs}
use lib.ListN.{length, take}
use Rattle.whole.specs.Whole.{∣◌∣}
use Rattle.whole.specs.Answers.{no_number_rule}
use Rattle.whole.specs.Refusals.{unless, first_of}
use Rattle.whole.specs.declared.Number.{Number}
use Rattle.whole.proofs.Answers.{given-each, answer_no, answer-refusal}
use Rattle.whole.proofs.Refusals.{first_is}
use Rattle.sections.proofs.Shapes.{today}
use Rattle.sections.proofs.Accepted.{refusal-most}
use Rattle.sections.specs.File.{refusal_of_rule, count_of_rule}
use Rattle.session.specs.Records.{pass_of_rule}
use Rattle.session.proofs.Laws.{pass_in}
use Rattle.delay.specs.Calls.{samples_of, samples_number, samples_outcome}
use Rattle.delay.specs.Promises.{SamplesPromise}
use Rattle.delay.proofs.Epochs.{samples-count}
use Rattle.delay.proofs.Numbers.{index_ok, names_ok, days_ok, samples-first, file_number, beyond_number, lacks_number}
use Rattle.fit.proofs.Tests.{lt_or}
use Rattle.track.specs.Answer.{Outcome, outcome, refused}
use Rattle.track.proofs.Answers.{each_way}
use Rattle.fringe.specs.PassTrack.{pass_number, pass_samples_rule, pass_outcome}
use Rattle.fringe.specs.TwoCalls.{Enough, InTwoCalls, one, two}
use Rattle.fringe.specs.Sharing.{segments_in}
use Rattle.fringe.specs.Promises.{PassTrackPromise}
use Rattle.fringe.proofs.Passes.{size_pos, made, lacking, held, samples_are, lacks_same, number_is}

-- ---- as the two calls

-- room for 4,096 samples is enough for every pass of every file
pub always_enough : (s : List ℕ) (i : ℕ) (place : List ℤ) → 4096 ≤ length place → Enough s i place
always_enough s i place m h l = omega (arith, (samples-count (pass_of_rule s i) (pass_in s h i l)).1)

module _ (s : List ℕ) (i : ℕ) (place : List ℤ) (g : Enough s i place) where
  -- with room enough `samples` has the same number, however much it is
  same_number : samples_number s i (length place) ≡ pass_number s i
  same_number = by (ℕ_discrete (refusal_of_rule s) 0)
    where
      by : Dec (refusal_of_rule s ≡ 0) → samples_number s i (length place) ≡ pass_number s i
      by (no f) = file_number s i (length place) f ∙ sym (file_number s i 4096 f)
      by (yes h) =
          ⊎_elim
          (λ l. lacks_number s i (length place) h l ∙ lacks_same s (pass_of_rule s i) (length place) (pass_in s h i l) (g h l) ∙ sym (lacks_number s i 4096 h l))
          (λ l. beyond_number s i (length place) h l ∙ sym (beyond_number s i 4096 h l))
          (lt_or i (count_of_rule s 3))

  -- the number of a call of `samples` is that of the pass
  number_of : (n : Number) (filled : List ℤ) → SamplesPromise s i place n filled → n.refusal ≡ pos (pass_number s i)
  unfolding samples_outcome
  number_of n filled p = ap (λ (x : Number). x.refusal) p.0 ∙ answer-refusal (samples_number s i (length place)) (pass_of_rule s i).samples ∙ ap pos same_number

  two-outcome : (room : List ℤ) (q : Number) (last : List ℤ) → InTwoCalls s i place room q last → ◌≡◌ {A = Outcome} (record { answer = q; room = last }) (pass_outcome s i room)
  unfolding samples_outcome
  two-outcome room q last (one {filled} p f) =
      let m : pass_number s i ≡ 0 → ⊥ = λ e. f (number_of q filled p ∙ ap pos e) in
      let e = p.0 ∙ answer_no (samples_number s i (length place)) (pass_of_rule s i).samples (λ z. m (sym same_number ∙ z)) ∙ ap no_number_rule same_number in
      ap (λ (x : Number). record { answer = x; room = room }) e ∙ sym (lacking s i room m)
  two-outcome room q last (two {n} {filled = filled} p z t) =
      let e : pass_number s i ≡ 0 = sym (size_pos _) ∙ ap ∣◌∣ (sym (number_of n filled p) ∙ z) in
      let zs : take (nat_abs n.value) filled ≡ pass_samples_rule s i =
      ap (λ (x : Number). take (nat_abs x.value) filled) p.0 ∙ ap (take (nat_abs (samples_outcome s i (length place)).value)) p.1
      ∙ held s i place (same_number ∙ e) ∙ sym (samples_are s i e) in
      t ∙ ap (λ (ys : List ℤ). outcome ys (pass_of_rule s i).tolerance room) zs ∙ sym (made s i room e)

  -- THE THEOREM: what the one call answers, and leaves in the room, is what the two calls do
  pub as_two_calls : (room : List ℤ) (q r : Number) (last after : List ℤ) → InTwoCalls s i place room q last → PassTrackPromise s i room r after → (r ≡ q) × (after ≡ last)
  as_two_calls room q r last after t p =
      let e = p ∙ sym (two-outcome room q last t) in
      (ap (λ (o : Outcome). o.answer) e, ap (λ (o : Outcome). o.room) e)

-- ---- refused

-- the room is as it was, and the value is 0
abbrev Left : List ℤ → Outcome → Type 0
Left room o = (o.answer.refusal ≡ pos 0 → ⊥) → (o.room ≡ room) × (o.answer.value ≡ pos 0)

outcome_left : (s : List ℕ) (i : ℕ) (room : List ℤ) → Left room (pass_outcome s i room)
unfolding pass_outcome
outcome_left s i room =
    given-each (Left room) (pass_number s i) _ (λ n. refused n room)
    (λ e. each_way (pass_samples_rule s i) (pass_of_rule s i).tolerance room (Left room) (λ n f. (refl, refl)) (λ l f. absurd (f refl)))
    (λ f. (refl, refl))

-- THE THEOREM: refused, the call leaves the room as it was, and gives 0
pub leaves : (s : List ℕ) (i : ℕ) (room : List ℤ) (r : Number) (after : List ℤ) → PassTrackPromise s i room r after → (r.refusal ≡ pos 0 → ⊥) → (after ≡ room) × (r.value ≡ pos 0)
leaves s i room r after p = subst (Left room) (sym p) (outcome_left s i room)

-- ---- its numbers

-- of names and days, and of the room for segments behind them
behind : (t c e : Bool) → first_of (first_of (unless t 5 ∷ unless c 6 ∷ 0 ∷ []) ∷ unless e 8 ∷ []) ≡ first_of (unless t 5 ∷ unless c 6 ∷ unless e 8 ∷ [])
behind false c e = refl
behind true false e = refl
behind true true e = refl

not_seven : (f : ℕ) (i t c e : Bool) → f ≤ 4 → first_of (f ∷ unless i 5 ∷ unless t 5 ∷ unless c 6 ∷ unless e 8 ∷ []) ≡ 7 → ⊥
not_seven (suc f) i t c e h n = omega arith
not_seven zero false t c e h n = omega arith
not_seven zero true false c e h n = omega arith
not_seven zero true true false e h n = omega arith
not_seven zero true true true false h n = omega arith
not_seven zero true true true true h n = omega arith

module _ (s : List ℕ) (i : ℕ) (room : List ℤ) (r : Number) (after : List ℤ) (p : PassTrackPromise s i room r after) where
  abbrev fits : Bool
  fits = leb (segments_in s i) (length room / 4)

  abbrev first : ℕ
  first = first_of (refusal_of_rule s ∷ unless (index_ok s i) 5 ∷ unless (names_ok s i) 5 ∷ unless (days_ok s i) 6 ∷ unless fits 8 ∷ [])

  -- THE THEOREM: the file's own number; else 5 or 6, as of `samples`; else 8
  pub numbers : r.refusal ≡ pos first
  numbers = ap (λ (o : Outcome). o.answer.refusal) p ∙ by (ℕ_discrete (refusal_of_rule s) 0)
    where
      none : (n : ℕ) → pass_number s i ≡ n → (n ≡ 0 → ⊥) → (pass_outcome s i room).answer.refusal ≡ pos n
      none n e f = ap (λ (o : Outcome). o.answer.refusal) (lacking s i room (λ z. f (sym e ∙ z))) ∙ ap pos e

      by : Dec (refusal_of_rule s ≡ 0) → (pass_outcome s i room).answer.refusal ≡ pos first
      by (no f) =
          none (refusal_of_rule s) (file_number s i 4096 f) f
          ∙ ap pos (sym (first_is (refusal_of_rule s) (unless (index_ok s i) 5 ∷ unless (names_ok s i) 5 ∷ unless (days_ok s i) 6 ∷ unless fits 8 ∷ []) f))
      by (yes h) =
          ⊎_elim
          (λ l. number_is s h i l room ∙ ap pos (rw (h, lt-ltb i (count_of_rule s 3) l) (there h l)))
          (λ l. none 5 (beyond_number s i 4096 h l) (λ z. omega arith) ∙ sym (rw (h, le-ltb i (count_of_rule s 3) l) refl))
          (lt_or i (count_of_rule s 3))
        where
          there : (h : refusal_of_rule s ≡ 0) (l : i < count_of_rule s 3) → first_of (pass_number s i ∷ unless fits 8 ∷ []) ≡ first_of (unless (names_ok s i) 5 ∷ unless (days_ok s i) 6 ∷ unless fits 8 ∷ [])
          there h l =
              let n : pass_number s i ≡ first_of (unless (names_ok s i) 5 ∷ unless (days_ok s i) 6 ∷ 0 ∷ []) =
              samples-first s i 4096 ∙ rw (h, lt-ltb i (count_of_rule s 3) l, le-leb (samples_of (pass_of_rule s i)) 4096 (samples-count (pass_of_rule s i) (pass_in s h i l)).1) refl in
              ap (λ (m : ℕ). first_of (m ∷ unless fits 8 ∷ [])) n ∙ behind (names_ok s i) (days_ok s i) fits

  -- THE THEOREM: 7 cannot occur
  pub never_seven : r.refusal ≡ pos 7 → ⊥
  never_seven e =
      not_seven (refusal_of_rule s) (index_ok s i) (names_ok s i) (days_ok s i) fits (refusal-most today s) (sym (size_pos first) ∙ ap ∣◌∣ (sym numbers ∙ e))
