-- The minutes of TT of an epoch in the file's range are few. Assumes nothing.
use Rattle.std.proofs.Common.{◌≤◌, ℤ, arith}
use Rattle.whole.specs.Whole.{∣◌∣}
use Rattle.whole.proofs.Linear.{size_to}
use Rattle.whole.proofs.Quote.{E, ⟨◌⟩, #, ◌⊕◌, ◌⊝◌, ◌⊗◌, ev, up, dn, bal}
use Rattle.whole.proofs.Rounding.{floor_abs}
use Rattle.earth.specs.declared.time.Epoch.{Epoch}
use Rattle.fields.specs.Ranges.{Holds, mjd, millisecond, taiutc}
use Rattle.earth.specs.Minutes.{minutes_of}

pub minutes_most : (e : Epoch) (L : ℤ) → Holds mjd e.day → Holds millisecond e.ms → Holds taiutc L → ∣ minutes_of e L ∣ ≤ 27000000
unfolding minutes_of
minutes_most e L d u l =
    let z : E = (⟨ e.day ⟩ ⊝ # 51544) ⊗ # 86400000 ⊝ # 43200000 ⊕ ⟨ e.ms ⟩ ⊕ # 32184 ⊕ # 1000 ⊗ ⟨ L ⟩ in
    floor_abs (ev z) 60000 27000000 (omega arith)
    (size_to (ev z) (up z) (dn z) 1620000000000 (omega (arith, bal z))
    (omega (arith, d.p_hi, d.n_lo, u.p_hi, l.p_hi))
    (omega (arith, d.p_lo, d.n_lo, u.n_lo, l.n_lo)))
