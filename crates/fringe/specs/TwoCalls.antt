-- What `pass_track` is held to: a call of `samples`, lent room enough, and behind it one of `track`.
use Rattle.std.specs.Prelude.{ℕ, ◌<◌, ◌≤◌, ◌≡◌, List, ℤ, pos, nat_abs, length, take}
use Rattle.whole.specs.declared.Number.{Number}
use Rattle.sections.specs.File.{refusal_of_rule, count_of_rule}
use Rattle.session.specs.Records.{pass_of_rule}
use Rattle.delay.specs.Calls.{samples_of}
use Rattle.delay.specs.Promises.{SamplesPromise}
use Rattle.track.specs.Promises.{TrackPromise}

-- the place has room enough for the samples of pass i, if the file is right and has that pass
abbrev pub Enough : List ℕ → ℕ → List ℤ → Type 0
Enough s i place = refusal_of_rule s ≡ 0 → i < count_of_rule s 3 → samples_of (pass_of_rule s i) ≤ length place

-- the place that is lent for samples, and the room for segments; then what the two calls answer in the end, and the room after them
pub data InTwoCalls (s : List ℕ) (i : ℕ) (place room : List ℤ) : Number → List ℤ → Type 0 where
  -- `samples` is refused, and `track` is not asked
  one : {r : Number} {filled : List ℤ} → SamplesPromise s i place r filled → (r.refusal ≡ pos 0 → ⊥) → InTwoCalls s i place room r room
  -- it says how many samples it has written, and `track` is lent these, with the tolerance of the pass
  two : {n r : Number} {filled after : List ℤ} → SamplesPromise s i place n filled → n.refusal ≡ pos 0 → TrackPromise (take (nat_abs n.value) filled) (pass_of_rule s i).tolerance room r after → InTwoCalls s i place room r after
