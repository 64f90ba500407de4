-- Document 01, 'Track' and refusal 9: a lent track, of any length and content, and what it predicts. Numbers behind its last whole segment are not read.
use Rattle.std.specs.Prelude.{ℕ, ◌+◌, ◌*◌, Bool, true, false, cond, ◌&&◌, List, [], ◌∷◌, leb, get_or, ℤ, pos, ◌+ℤ◌, ◌-ℤ◌, ◌*ℤ◌}
use Rattle.std.specs.Int.Signed.{le_z, lt_z}
use Rattle.whole.specs.Whole.{pos_part, ∣◌∣, R}
use Rattle.whole.specs.Each.{all_below}
use Rattle.whole.specs.declared.Number.{Number}
use Rattle.whole.specs.Ranges.{within, eq_z}
use Rattle.whole.specs.Answers.{answer_by}
use Rattle.whole.specs.Refusals.{unless, lowest}
use Rattle.track.specs.Segments.{Segment}
-- a segment's four numbers, as they are lent: first, count, offset, rate
pub use Rattle.predict.specs.declared.segment.Lent.{Lent}

-- the whole segments of a list of numbers
unfoldable pub lent_of : List ℤ → List Lent
lent_of (f ∷ c ∷ A ∷ r ∷ rest) = record { first = f; count = c; offset = A; rate = r } ∷ lent_of rest
lent_of (f ∷ c ∷ A ∷ []) = []
lent_of (f ∷ c ∷ []) = []
lent_of (f ∷ []) = []
lent_of [] = []

-- a segment of a track, as it is lent
abbrev pub as_lent : Segment → Lent
as_lent x = record { first = pos x.first; count = pos x.count; offset = x.offset; rate = x.rate }

-- the prediction at the segment's sample j
abbrev pub predicted : Lent → ℤ → ℤ
predicted x j = R (x.offset +ℤ x.rate *ℤ j) 65536

-- ---- the four conditions that a segment must meet, where `at` samples stand before it

-- place: no gap and no overlap, the first segment at 0, and 4,096 samples at most in all
abbrev pub place_ok_rule : ℕ → Lent → Bool
place_ok_rule at x = le_z (pos at) x.first && le_z x.first (pos at) && le_z (pos at +ℤ x.count) (pos 4096)

-- length: from 1 to 1,024
abbrev pub length_ok_rule : Lent → Bool
length_ok_rule x = within (pos 1) (pos 1024) x.count

-- range: A within ±9·10^15, r within ±2·10^16
abbrev pub range_ok_rule : Lent → Bool
range_ok_rule x = leb ∣ x.offset ∣ 9_000_000_000_000_000 && leb ∣ x.rate ∣ 20_000_000_000_000_000

-- predictions: within ±131,000,000,000 at each of its samples
unfoldable pub predictions_ok : Lent → Bool
predictions_ok x = all_below (pos_part x.count) (λ j. leb ∣ predicted x (pos j) ∣ 131_000_000_000)

unfoldable pub segment_ok_rule : ℕ → Lent → Bool
segment_ok_rule at x = place_ok_rule at x && length_ok_rule x && range_ok_rule x && predictions_ok x

-- no segment is malformed, from the one that `at` samples stand before
unfoldable pub sound_from : ℕ → List Lent → Bool
sound_from at [] = true
sound_from at (x ∷ xs) = segment_ok_rule at x && sound_from (at + pos_part x.count) xs

-- the same of place, where n samples are the most in all
abbrev pub place_in_rule : ℕ → ℕ → Lent → Bool
place_in_rule n at x = eq_z (pos at) x.first && le_z (pos at +ℤ x.count) (pos n)

-- ---- the answers

-- the segment covers sample k
abbrev pub covers : Lent → ℕ → Bool
covers x k = le_z x.first (pos k) && lt_z (pos k) (x.first +ℤ x.count)

-- some segment covers sample k
unfoldable pub covered_by : List Lent → ℕ → Bool
covered_by [] k = false
covered_by (x ∷ xs) k = let r = covered_by xs k in cond (covers x k) true r

-- the prediction of the segment that covers sample k
unfoldable pub prediction_at_rule : List Lent → ℕ → ℤ
prediction_at_rule [] k = pos 0
prediction_at_rule (x ∷ xs) k = let r = prediction_at_rule xs k in cond (covers x k) (predicted x (pos k -ℤ x.first)) r

-- the number of a call: 9 for a malformed segment, also behind the one that covers sample k, and 9 for a sample that is not covered
unfoldable pub predict_number : List ℤ → ℕ → ℕ
predict_number numbers k = lowest (unless (sound_from 0 (lent_of numbers)) 9 ∷ unless (covered_by (lent_of numbers) k) 9 ∷ [])

-- what the call `predict` answers
unfoldable pub predict_outcome : List ℤ → ℕ → Number
predict_outcome numbers k = answer_by (predict_number numbers k) (prediction_at_rule (lent_of numbers) k)

-- ---- for the code

-- segment i, as a loop reads it
abbrev pub lent_at : List ℤ → ℕ → Lent
lent_at numbers i =
    record { first = get_or numbers (4 * i) (pos 0); count = get_or numbers (4 * i + 1) (pos 0); offset = get_or numbers (4 * i + 2) (pos 0); rate = get_or numbers (4 * i + 3) (pos 0) }

-- the answer where no segment is malformed
unfoldable pub answer_at : List Lent → ℕ → Number
answer_at xs k = answer_by (unless (covered_by xs k) 9) (prediction_at_rule xs k)
