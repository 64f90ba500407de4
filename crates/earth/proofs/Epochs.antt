-- The later epoch: it lies as many milliseconds on as were added, its millisecond is one of a day, and nothing added changes nothing.
-- Assumes nothing.
use Rattle.std.proofs.Common.{◌≡◌, ℤ, pos, ◌+ℤ◌, ◌*ℤ◌, ◌≤ℤ◌, sym, ap, ◌∙◌, arith}
use lib.IntN.{+ℤ_idr}
use Rattle.whole.specs.Whole.{floor_z, mod_z}
use Rattle.whole.proofs.Quote.{⟨◌⟩, #, ◌⊕◌, ◌⊗◌, by≡, by≤, of≡}
use Rattle.whole.proofs.Rounding.{floor_mod, mod_below}
use Rattle.earth.specs.declared.time.Epoch.{Epoch}
use Rattle.fields.specs.Ranges.{Holds, millisecond}
use Rattle.earth.specs.Ranges.{added}
use Rattle.earth.specs.Epoch.{later_of}

-- milliseconds from the start of day 0
abbrev pub since : Epoch → ℤ
since e = e.day *ℤ pos 86400000 +ℤ e.ms

pub later_since : (e : Epoch) (add : ℤ) → since (later_of e add) ≡ since e +ℤ add
unfolding later_of
later_since e add =
    let t = e.ms +ℤ add in
    by≡ ((⟨ e.day ⟩ ⊕ ⟨ floor_z t 86400000 ⟩) ⊗ # 86400000 ⊕ # (mod_z t 86400000)) (⟨ e.day ⟩ ⊗ # 86400000 ⊕ ⟨ e.ms ⟩ ⊕ ⟨ add ⟩)
    (omega (arith, of≡ (⟨ floor_z t 86400000 ⟩ ⊗ # 86400000 ⊕ # (mod_z t 86400000)) (⟨ e.ms ⟩ ⊕ ⟨ add ⟩) (floor_mod t 86400000 (omega arith))))

pub later_ms : (e : Epoch) (add : ℤ) → Holds millisecond (later_of e add).ms
unfolding later_of
later_ms e add =
    record { n_lo = omega arith; p_lo = omega arith; p_hi = omega (arith, mod_below (e.ms +ℤ add) 86400000 (omega arith)); n_hi = omega arith }

-- an epoch is given by its milliseconds
pub since_one : (a b : Epoch) → Holds millisecond a.ms → Holds millisecond b.ms → since a ≡ since b → a ≡ b
since_one a b ha hb e =
    let f = of≡ (⟨ a.day ⟩ ⊗ # 86400000 ⊕ ⟨ a.ms ⟩) (⟨ b.day ⟩ ⊗ # 86400000 ⊕ ⟨ b.ms ⟩) e in
    let d : a.day ≡ b.day = by≡ ⟨ a.day ⟩ ⟨ b.day ⟩ (omega (arith, ha.n_lo, ha.p_hi, hb.n_lo, hb.p_hi)) in
    let m : a.ms ≡ b.ms = by≡ ⟨ a.ms ⟩ ⟨ b.ms ⟩ (omega (arith, of≡ ⟨ a.day ⟩ ⟨ b.day ⟩ d)) in
    λ i. record { day = d i; ms = m i }

pub later_none : (e : Epoch) → Holds millisecond e.ms → later_of e (pos 0) ≡ e
later_none e h = since_one (later_of e (pos 0)) e (later_ms e (pos 0)) h (later_since e (pos 0) ∙ +ℤ_idr (since e))

pub later_twice : (e : Epoch) (a b : ℤ) → later_of (later_of e a) b ≡ later_of e (a +ℤ b)
later_twice e a b =
    since_one (later_of (later_of e a) b) (later_of e (a +ℤ b)) (later_ms (later_of e a) b) (later_ms e (a +ℤ b))
    (later_since (later_of e a) b
    ∙ ap (λ (z : ℤ). z +ℤ b) (later_since e a)
    ∙ by≡ (⟨ since e ⟩ ⊕ ⟨ a ⟩ ⊕ ⟨ b ⟩) (⟨ since e ⟩ ⊕ (⟨ a ⟩ ⊕ ⟨ b ⟩)) (omega arith)
    ∙ sym (later_since e (a +ℤ b)))

-- the day does not go back, and moves by at most 171
pub later_day : (e : Epoch) (add : ℤ) → Holds millisecond e.ms → Holds added add → (e.day ≤ℤ (later_of e add).day) × ((later_of e add).day ≤ℤ (e.day +ℤ pos 171))
later_day e add m a =
    let l = later_of e add in
    let f = of≡ (⟨ l.day ⟩ ⊗ # 86400000 ⊕ ⟨ l.ms ⟩) (⟨ e.day ⟩ ⊗ # 86400000 ⊕ ⟨ e.ms ⟩ ⊕ ⟨ add ⟩) (later_since e add) in
    let h = later_ms e add in
    (by≤ ⟨ e.day ⟩ ⟨ l.day ⟩ (omega (arith, h.p_hi, h.n_lo, m.n_lo, a.n_lo)), by≤ ⟨ l.day ⟩ (⟨ e.day ⟩ ⊕ # 171) (omega (arith, h.n_lo, m.p_hi, a.p_hi)))
