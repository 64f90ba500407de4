-- `earth::time::Epoch::minutes` meets its contract.
use Rattle.std.proofs.Common.{◌≡◌, ℤ, pos, ◌+ℤ◌, ◌-ℤ◌, ◌*ℤ◌, neg_ℤ, ◌≤ℤ◌, sym, ap, ◌∙◌, lt_of_le_of_lt, subst, lit<, arith, w64, to_z, of_z}
use Rattle.fields.specs.Ranges.{Holds, mjd, millisecond, taiutc}
use Rattle.whole.specs.Whole.{floor_z}
use Rattle.whole.proofs.Quote.{⟨◌⟩, #, ◌⊕◌, ◌⊝◌, ◌⊗◌, ⊖, by≡, by≤}
use Rattle.whole.proofs.Machine.{M, lit, ◌⊞◌, ◌⊟◌, ◌⊠◌, ◌⊘◌, val, raw, is}
use Rattle.earth.specs.Instant.{Instant}
use Rattle.earth.specs.Minutes.{minutes_of}
use Rattle.earth.proofs.Floors.{leaf, read, quot_floor, floor_more}
use Rattle.earth.proofs.Minutes.{minutes_most}
use Rattle.earth.proofs.time.Epoch.minutes.Goals as goal

-- the code's expressions, and that the dividend is not negative
module _ (day ms tai : ℤ) (d : Holds mjd day) (m : Holds millisecond ms) (l : Holds taiutc tai) where
  abbrev days : M
  days = leaf day d ⊟ lit mjd.low

  abbrev utc : M
  utc = days ⊠ lit (pos 86400000) ⊞ leaf ms m

  abbrev leap : M
  leap = lit (pos 1000) ⊠ leaf tai l

  abbrev t : M
  t = utc ⊞ lit (pos 32184) ⊞ leap

  abbrev n : M
  n = t ⊘ lit (pos 60000) ⊟ lit (pos 14727600)

  up : pos 0 ≤ℤ val t
  up = by≤ (# 0) (read t) (omega (arith, d.p_lo, d.n_lo, m.n_lo, l.n_lo))

  -- the same count from J2000, which is a whole number of minutes later
  from_j2000 : val t +ℤ neg_ℤ (pos 14727600) *ℤ pos 60000 ≡ (day -ℤ pos 51544) *ℤ pos 86400000 -ℤ pos 43200000 +ℤ ms +ℤ pos 32184 +ℤ pos 1000 *ℤ tai
  from_j2000 =
      by≡ (read t ⊕ ⊖ (# 14727600) ⊗ # 60000)
      ((⟨ day ⟩ ⊝ # 51544) ⊗ # 86400000 ⊝ # 43200000 ⊕ ⟨ ms ⟩ ⊕ # 32184 ⊕ # 1000 ⊗ ⟨ tai ⟩)
      (omega arith)

  -- what the code gives is n
  counted : ◌≡◌ {A = ℤ} (to_z w64 (of_z w64 (raw n))) (minutes_of (record { day = day; ms = ms }) tai)
  unfolding minutes_of
  counted =
      is n tt
      ∙ ap (λ (z : ℤ). z -ℤ pos 14727600) (quot_floor (val t) 60000 up)
      ∙ sym (floor_more (val t) (neg_ℤ (pos 14727600)) 60000 (omega arith))
      ∙ ap (λ (z : ℤ). floor_z z 60000) from_j2000

pub returns : goal.returns
returns c =
    let d = subst (λ (i : Instant). Holds mjd i.day) (sym c.self.view_is) c.requires.0 in
    let e = counted c.self.inside.day c.self.inside.ms c.args.tai d c.self.invariant c.requires.1 ∙ ap (λ (i : Instant). minutes_of i c.args.tai) c.self.view_is in
    (e, rw e (lt_of_le_of_lt (minutes_most c.args.self c.args.tai c.requires.0 (subst (λ (i : Instant). Holds millisecond i.ms) c.self.view_is c.self.invariant) c.requires.1) (lit< tt)))
