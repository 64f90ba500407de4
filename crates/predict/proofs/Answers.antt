-- What the calls answer: the value is always a prediction in range or 0, the number 0 or 9, and 9 exactly if a segment is malformed or none covers the sample.
use mathlib.Core.Path.{◌≡◌, refl, sym, ap, subst, ◌∙◌}
use mathlib.Core.Bool.{Bool, true, false, ◌&&◌}
use mathlib.Core.List.{List, [], ◌∷◌}
use mathlib.Core.Logic.{◌↔◌, ⊎_elim}
use Prim.Native.Nat.{ℕ, ◌+◌, ◌-◌, ◌≤◌}
use native.Mathlib.Omega.{arith}
use lib.IntN.{ℤ, pos}
use Rattle.whole.specs.Whole.{pos_part, ∣◌∣}
use Rattle.fit.proofs.Tests.{lt_or}
use Rattle.whole.specs.declared.Number.{Number}
use Rattle.predict.specs.declared.Host.{Host}
use Rattle.whole.specs.Answers.{given, no_number_rule}
use Rattle.whole.specs.Refusals.{unless, lowest, number_of}
use Rattle.whole.specs.declared.refusal.Refusal.{Refusal}
use Rattle.whole.specs.declared.refusal.Refusal.TheVariants.{Contents, Range, Order, Days, Absent, Uncovered, Room, RoomForTrack, Malformed, Row, NoRow}
use Rattle.whole.proofs.Answers.{answer-refusal}
use Rattle.predict.specs.declared.segment.Lent.{Lent}
use Rattle.predict.specs.Lent.{lent_of, sound_from, covered_by, prediction_at_rule, predict_number, predict_outcome, answer_at}
use Rattle.predict.specs.Promises.{PredictPromise, HostPromise}
use Rattle.predict.proofs.Numbers.{good, sound_head, covered, passed}

-- any two results that a promise allows are equal
pub one_prediction : (s : List ℤ) (k : ℕ) (x y : Number) → PredictPromise s k x → PredictPromise s k y → x ≡ y
one_prediction s k x y p q = p ∙ sym q

pub one_host : (s : List ℤ) (k : ℕ) (x y : Host) → HostPromise s k x → HostPromise s k y → x ≡ y
one_host s k x y p q = p ∙ sym q

-- ---- the number

-- a refusal's is never 0
pub number_some : (r : Refusal) → number_of r ≡ 0 → ⊥
number_some Contents e = omega arith
number_some Range e = omega arith
number_some Order e = omega arith
number_some Days e = omega arith
number_some Absent e = omega arith
number_some Uncovered e = omega arith
number_some Room e = omega arith
number_some RoomForTrack e = omega arith
number_some Malformed e = omega arith
number_some Row e = omega arith
number_some NoRow e = omega arith

both : (a b : Bool) → lowest (unless a 9 ∷ unless b 9 ∷ []) ≡ unless (a && b) 9
both true true = refl
both true false = refl
both false true = refl
both false false = refl

pub the_number : (s : List ℤ) (k : ℕ) → predict_number s k ≡ unless (sound_from 0 (lent_of s) && covered_by (lent_of s) k) 9
unfolding predict_number
the_number s k = both (sound_from 0 (lent_of s)) (covered_by (lent_of s) k)

pub refusal_is : (s : List ℤ) (k : ℕ) → (predict_outcome s k).refusal ≡ pos (predict_number s k)
unfolding predict_outcome
refusal_is s k = answer-refusal (predict_number s k) (prediction_at_rule (lent_of s) k)

-- THE THEOREM on refusal 9: given exactly if a segment is malformed, or none covers the sample
pub nine_exactly : (s : List ℤ) (k : ℕ) → ((predict_outcome s k).refusal ≡ pos 9) ↔ ((sound_from 0 (lent_of s) && covered_by (lent_of s) k) ≡ false)
nine_exactly s k = (fore (sound_from 0 (lent_of s) && covered_by (lent_of s) k) number, λ h. number ∙ ap (λ (b : Bool). pos (unless b 9)) h)
  where
    number : (predict_outcome s k).refusal ≡ pos (unless (sound_from 0 (lent_of s) && covered_by (lent_of s) k) 9)
    number = refusal_is s k ∙ ap pos (the_number s k)

    fore : (b : Bool) → (predict_outcome s k).refusal ≡ pos (unless b 9) → (predict_outcome s k).refusal ≡ pos 9 → b ≡ false
    fore true e h = absurd (let n : pos 0 ≡ pos 9 = sym e ∙ h in let z : ◌≡◌ {A = ℕ} 0 9 = cc in omega arith)
    fore false e h = refl

pub number-most : (s : List ℤ) (k : ℕ) → predict_number s k ≤ 9
number-most s k = rw (the_number s k) (go (sound_from 0 (lent_of s) && covered_by (lent_of s) k))
  where
    go : (b : Bool) → unless b 9 ≤ 9
    go true = omega arith
    go false = omega arith

-- ---- by whether a segment is malformed

pub answer_sound : (s : List ℤ) (k : ℕ) → sound_from 0 (lent_of s) ≡ true → predict_outcome s k ≡ answer_at (lent_of s) k
unfolding predict_outcome answer_at
answer_sound s k h = rw (the_number s k, h)

pub answer_malformed : (s : List ℤ) (k : ℕ) → sound_from 0 (lent_of s) ≡ false → predict_outcome s k ≡ no_number_rule 9
unfolding given predict_outcome
answer_malformed s k h = rw (the_number s k, h)

-- ---- the value

answer_size : (xs : List Lent) (at k : ℕ) → at ≤ k → sound_from at xs ≡ true → ∣ (answer_at xs k).value ∣ ≤ 131_000_000_000
unfolding given covered_by answer_at
answer_size [] at k h e = omega arith
answer_size (x ∷ xs) at k h e =
    let g = good at x (sound_head at x xs e).0 in
    ⊎_elim
    (λ l. subst (λ (n : Number). ∣ n.value ∣ ≤ 131_000_000_000) (sym (covered at x g xs k h l)) (g.predictions (k - at) (omega arith)))
    (λ l. subst (λ (n : Number). ∣ n.value ∣ ≤ 131_000_000_000) (sym (passed at x g xs k h l)) (answer_size xs (at + pos_part x.count) k l (sound_head at x xs e).1))
    (lt_or k (at + pos_part x.count))

pub value_size : (s : List ℤ) (k : ℕ) → ∣ (predict_outcome s k).value ∣ ≤ 131_000_000_000
value_size s k = go (sound_from 0 (lent_of s)) refl
  where
    go : (b : Bool) → b ≡ sound_from 0 (lent_of s) → ∣ (predict_outcome s k).value ∣ ≤ 131_000_000_000
    go true e = rw (answer_sound s k (sym e)) (answer_size (lent_of s) 0 k (omega arith) (sym e))
    go false e = rw (answer_malformed s k (sym e)) (omega arith)
