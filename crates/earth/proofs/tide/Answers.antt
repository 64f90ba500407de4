-- `earth::tide` meets its contract.
use Rattle.std.proofs.Common.{◌≡◌, ◌<◌, ◌^◌, Bool, true, false, ℤ, pos, ap, ◌∙◌, Result, Ok, Err}
use Rattle.std.specs.Result.{MatchResult, IfOk, IfErr, IsOkAnd}
use Rattle.whole.specs.Whole.{∣◌∣}
use Rattle.whole.specs.Answers.{given, answer_by, answer_in}
use Rattle.whole.specs.Refusals.{number_of}
use Rattle.whole.specs.declared.refusal.Refusal.{Refusal}
use Rattle.whole.proofs.Linear.{back}
use Rattle.earth.specs.Calls.{only_two, tide_outcome}
use Rattle.earth.specs.TideInUT1.{tide_at, tide_of}
use Rattle.earth.proofs.tide.Goals as goal

-- the answer by the minutes n, where b says that they are asked for, and by the tide at them
by_minutes : (m t : Result ℤ Refusal) (b : Bool) (n : ℤ)
    → IfOk m (λ k. (k ≡ n) × (∣ k ∣ < 2 ^ 26) × (b ≡ true)) → IfErr m (λ r. (number_of r ≡ 2) × (b ≡ false))
    → MatchResult m (λ k. IsOkAnd t (λ v. v ≡ tide_at k)) (λ r. t ≡ Err r) → answer_in t ≡ answer_by (only_two b) (tide_at n)
unfolding given
by_minutes (Ok k) (Ok v) b n h _ q = simp (h.2) (ap (λ (z : ℤ). record { refusal = pos 0; value = z }) (q ∙ ap tide_at h.0))
by_minutes (Ok k) (Err r) b n h _ q = absurd q
by_minutes (Err r) t b n _ h q = simp (h.1, q, h.0)

pub returns : goal.returns
unfolding tide_outcome tide_of
returns c =
    c.from.ensures
    ∙ by_minutes c.minutes_asked.result c.map.result _ _
    (simp (back c.ranges.day, back c.ranges.ms, back c.ranges.tai) at c.minutes_asked.ensures.ok)
    (simp (back c.ranges.day, back c.ranges.ms, back c.ranges.tai) at c.minutes_asked.ensures.err)
    c.map.ensures.cases
