-- `earth::turn::turn_of` meets its contract.
use Rattle.std.proofs.Common.{◌≡◌, ℕ, ◌+◌, ◌*◌, ℤ, pos, ◌+ℤ◌, ◌-ℤ◌, neg_ℤ, ap, ◌∙◌, arith}
use Rattle.fields.specs.Ranges.{mjd}
use Rattle.whole.specs.Ranges.{In}
use Rattle.whole.proofs.Linear.{back}
use Rattle.whole.proofs.Quote.{#, ev, by≡, by≤, of≡}
use Rattle.whole.proofs.Machine.{M, lit, ◌⊞◌, ◌⊟◌, cast_ok}
use Rattle.earth.specs.Angle.{fm_of}
use Rattle.earth.proofs.Floors.{leaf, read, cast, cast_gives}
use Rattle.earth.proofs.Angle.{fm_in, day_part, sum_is}
use Rattle.earth.proofs.turn.turn_of.Goals as goal
use Rattle.earth.proofs.turn.turn_of.Goals.{Start, After-whole_ms}

-- the day from which the code counts, E there, and how many turns that is ahead of the rule's sum
abbrev first : ℤ
first = mjd.low

abbrev start : ℕ
start = 27683252762116830

abbrev turns : ℕ
turns = 28

-- ---- what the code casts is not below 0, and what the casts give
module _ (s : Start) where
  abbrev days : M
  days = leaf s.args.day s.requires.0 ⊟ lit first

  abbrev us : M
  us = leaf s.args.f s.requires.1 ⊞ lit (pos 108000000)

  days_is : pos (cast days) ≡ s.args.day -ℤ first
  days_is = cast_gives days tt (cast_ok days tt (by≤ (# 0) (read days) (omega (arith, s.requires.0.p_lo, s.requires.0.n_lo)))).0

  us_is : pos (cast us) ≡ s.args.f +ℤ pos 108000000
  us_is = cast_gives us tt (cast_ok us tt (by≤ (# 0) (read us) (omega (arith, s.requires.1.n_lo)))).0

  -- the start and the days since are the rule's part of the day, and some turns
  days_give : pos (start + 273781191135448 * cast days) ≡ ev (day_part s.args.day turns)
  days_give =
      by≡ (# (start + 273781191135448 * cast days)) (day_part s.args.day turns)
      (omega (arith, of≡ (# (cast days)) (read days) days_is))

module _ (c : After-whole_ms) where
  -- what `whole_ms` gave
  fm : c.whole_ms.result ≡ fm_of c.args.f
  fm = simp (back, c.ranges.f) at c.whole_ms.ensures

  in_ms : In (neg_ℤ (pos 100000)) (pos 86500000) c.whole_ms.result
  in_ms = rw fm (fm_in c.args.f c.requires.1)

  abbrev ms : M
  ms = leaf c.whole_ms.result in_ms ⊞ lit (pos 108000)

  ms_is : pos (cast ms) ≡ c.whole_ms.result +ℤ pos 108000
  ms_is = cast_gives ms tt (cast_ok ms tt (by≤ (# 0) (read ms) (omega (arith, in_ms.n_lo)))).0

pub returns : goal.returns
returns c =
    let s = (goal.at.returns c).Start in
    let w = (goal.at.returns c).After-whole_ms in
    sum_is s.args.day s.args.f (start + 273781191135448 * cast (days s)) turns (cast (us s)) (cast (ms w))
    (days_give s)
    (us_is s)
    (ms_is w ∙ ap (λ (z : ℤ). z +ℤ pos 108000) (fm w))
