-- `wave::values::era_at` meets its contract.
use Rattle.std.proofs.Common.{◌≡◌, ℕ, ◌*◌, ◌/◌, ◌^◌, ℤ, pos, ◌+ℤ◌, ◌-ℤ◌, ◌*ℤ◌, ◌≤ℤ◌, ◌≤◌, sym, ap, ◌∙◌, subst, arith}
use Rattle.fields.specs.Ranges.{Holds, mjd, millisecond}
use Rattle.whole.specs.Whole.{∣◌∣, floor_z}
use Rattle.whole.proofs.Machine.{M, lit, var, ◌⊞◌, ◌⊟◌, ◌⊠◌, ◌⊘◌, val, is}
use Rattle.whole.proofs.Quote.{⟨◌⟩, #, ◌⊕◌, ◌⊝◌, ◌⊗◌, by≡, by≤}
use Rattle.earth.specs.Instant.{Instant}
use Rattle.earth.specs.Angle.{e_of, era_of}
use Rattle.earth.proofs.Angle.{e_below}
use Rattle.earth.proofs.Floors.{leaf, quot_floor, floor_more}
use Rattle.wave.specs.DayValues.{f_of}
use Rattle.wave.proofs.DayLaws.{f_in}
use Rattle.wave.proofs.values.era_at.Goals as goal

module _ (u ut1 : ℤ) (m : Holds millisecond u) (l : ∣ ut1 ∣ ≤ 99905446000) where
  -- what f is made of
  abbrev thousand : M
  thousand = lit (pos 1000) ⊠ leaf u m

  abbrev lifted : M
  lifted = var ut1 99905446000 l ⊞ lit (pos 100000000000)

  abbrev sum : M
  sum = thousand ⊞ lifted ⊘ lit (pos 1000)

  abbrev f : M
  f = sum ⊟ lit (pos 100000000)

  up : pos 0 ≤ℤ val lifted
  up = by≤ (# 0) (⟨ ut1 ⟩ ⊕ # 100000000000) (omega arith)

  f-is : val f ≡ f_of u ut1
  f-is =
      ap (λ (z : ℤ). pos 1000 *ℤ u +ℤ z -ℤ pos 100000000) (quot_floor (val lifted) 1000 up ∙ floor_more ut1 (pos 100000000) 1000 (omega arith))
      ∙ by≡ (# 1000 ⊗ ⟨ u ⟩ ⊕ (⟨ floor_z ut1 1000 ⟩ ⊕ # 100000000) ⊝ # 100000000) (# 1000 ⊗ ⟨ u ⟩ ⊕ ⟨ floor_z ut1 1000 ⟩) (omega arith)

-- the day of the epoch's fields is in its range
on_day : {i e : Instant} → i ≡ e → Holds mjd e.day → Holds mjd i.day
on_day p h = subst (λ (x : Instant). Holds mjd x.day) (sym p) h

pub turn_of-requires : goal.turn_of-requires
turn_of-requires c =
    let e = c.e.inside in
    let d = on_day c.e.view_is c.requires.0 in
    simp (is (f e.ms c.args.ut1 c.e.invariant c.requires.1) tt, is (leaf e.day d) tt)
    (d, rw (f-is e.ms c.args.ut1 c.e.invariant c.requires.1) (f_in e.ms c.args.ut1 c.e.invariant c.requires.1))

e-is : (c : goal.After-turn_of) → c.turn_of.result ≡ e_of c.e.inside.day (f_of c.e.inside.ms c.args.ut1)
e-is c =
    let e = c.e.inside in
    (simp (is (f e.ms c.args.ut1 c.e.invariant c.requires.1) tt, is (leaf e.day (on_day c.e.view_is c.requires.0)) tt) at c.turn_of.ensures)
    ∙ ap (e_of e.day) (f-is e.ms c.args.ut1 c.e.invariant c.requires.1)

pub rotation_ticks-requires : goal.rotation_ticks-requires
rotation_ticks-requires c = rw (e-is c) (e_below _ _)

pub returns : goal.returns
unfolding era_of
returns c =
    c.rotation_ticks.ensures
    ∙ ap (λ (n : ℕ). 2 ^ 32 * n / 10 ^ 17) (e-is c.before)
    ∙ ap (λ (x : Instant). era_of x.day (f_of x.ms c.args.ut1)) c.e.view_is
