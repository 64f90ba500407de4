-- Laws of the day values: what a caller may lean on, whatever the line of UT1-UTC is. Assumes nothing.
use Rattle.std.proofs.Common.{◌≡◌, ℕ, ◌+◌, ◌≤◌, Bool, true, false, cond, ℤ, pos, ◌+ℤ◌, ◌-ℤ◌, ◌*ℤ◌, ◌≤ℤ◌, refl, ap, ◌∙◌, le_trans, le_refl, arith, lit≤}
use Rattle.whole.specs.Whole.{pos_part, neg_part, ∣◌∣, line, floor_z}
use Rattle.whole.specs.Ranges.{eq_z}
use Rattle.whole.proofs.Order.{not_so, eq_z_true}
use Rattle.whole.proofs.Linear.{zarith, sub_lawℤ, parts_le, abs_add, abs_sub, abs_mul≤, size_to, in_le}
use Rattle.whole.proofs.Quote.{⟨◌⟩, #, ◌⊕◌, ◌⊝◌, ◌⊗◌, ⊖, by≡, by≤, of≤, of<}
use Rattle.whole.proofs.Rounding.{R_mul, line_size, floor_lo, floor_hi}
use Rattle.earth.specs.Ranges.{microsecond}
use Rattle.earth.specs.declared.time.Epoch.{Epoch}
use Rattle.earth.specs.Calls.{epoch_of}
use Rattle.earth.specs.TideInUT1.{tide_of}
use Rattle.earth.proofs.Floors.{in_abs}
use Rattle.earth.proofs.TideInUT1.{tide_most}
use Rattle.fields.specs.Ranges.{Holds, pole, ut1utc, millisecond}
use Rattle.fields.specs.Records.{InDay}
use Rattle.fields.specs.declared.Day.{Day}
use Rattle.wave.specs.Bounds.{InRecord}
use Rattle.wave.specs.Values.{InEarth}
use Rattle.wave.specs.DayValues.{tide_in, ut1r_of, leap_of, ut1_line, ut1_used_rule, f_of, earth_of}
use Rattle.wave.specs.Keeping.{reduced_of}

pub ms_lo : {u : ℤ} → Holds millisecond u → pos 0 ≤ℤ u
ms_lo {u} h = parts_le (pos 0) u h.p_lo h.n_lo

pub ms_hi : {u : ℤ} → Holds millisecond u → u ≤ℤ millisecond.high
ms_hi {u} h = parts_le u millisecond.high h.p_hi h.n_hi

ms_day : {u : ℤ} → Holds millisecond u → u ≤ℤ pos 86400000
ms_day {u} h = omega (zarith, ms_hi h)

-- a field of two records, between them
pub between_size : (v0 v1 u : ℤ) (k : ℕ) → Holds millisecond u → ∣ v0 ∣ ≤ k → ∣ v1 ∣ ≤ k → ∣ line v0 v1 u ∣ ≤ k
between_size v0 v1 u k h a b = line_size v0 v1 u k (ms_lo h) (ms_day h) a b

pub pole-between : (v0 v1 u : ℤ) → Holds millisecond u → Holds pole v0 → Holds pole v1 → Holds pole (line v0 v1 u)
pole-between v0 v1 u h a b = omega (arith, between_size v0 v1 u (pos_part pole.high) h (in_abs v0 a) (in_abs v1 b))

pub tide_size : (e : Epoch) (L : ℤ) → ∣ tide_of e L ∣ ≤ 2723000
unfolding tide_of
tide_size e L = tide_most _

-- ---- the UT1R that a record gives, by its mark. Document 02, L4.

pub ut1r_marked : (r : Day) → r.mark ≡ pos 1 → ut1r_of r ≡ r.ut1_utc -ℤ tide_in r
unfolding ut1r_of
ut1r_marked r e = rw e

pub ut1r_other : (r : Day) → (r.mark ≡ pos 1 → ⊥) → ut1r_of r ≡ r.ut1_utc
unfolding ut1r_of
ut1r_other r f = rw (not_so (eq_z r.mark (pos 1)) (λ e. f (eq_z_true r.mark (pos 1) e)))

pub ut1r_unmarked : (r : Day) → r.mark ≡ pos 0 → ut1r_of r ≡ r.ut1_utc
unfolding ut1r_of
ut1r_unmarked r e = rw e

-- it may be beyond the range of its field by the tide
pub ut1r_size : (r : Day) → Holds ut1utc r.ut1_utc → ∣ ut1r_of r ∣ ≤ 902_723_000
unfolding ut1r_of
ut1r_size r h = by (eq_z r.mark (pos 1))
  where
    by : (b : Bool) → ∣ cond b (r.ut1_utc -ℤ tide_in r) r.ut1_utc ∣ ≤ 902_723_000
    by true = omega (arith, in_abs r.ut1_utc h, abs_sub r.ut1_utc (tide_in r), tide_size (epoch_of r.mjd (pos 0)) r.tai_utc)
    by false = le_trans (in_abs r.ut1_utc h) (lit≤ tt)

-- a day's record with its fields in their ranges, with UT1R
pub record_in : (r : Day) → InDay r → InRecord (reduced_of r)
record_in r h =
    record { x = h.x; y = h.y; ut1_size = rw (ut1r_unmarked (reduced_of r) refl) (ut1r_size r h.ut1_utc); tai = h.tai_utc; unmarked = refl }

-- at most 99 seconds
pub leap_size : (r0 r1 : Day) → InRecord r0 → InRecord r1 → ∣ leap_of r0 r1 ∣ ≤ 99000000000
unfolding leap_of
leap_size r0 r1 a b =
    let l0 = r0.tai_utc in
    let l1 = r1.tai_utc in
    let h0 = a.tai in
    let h1 = b.tai in
    let k = size_to (l1 -ℤ l0) (pos_part l1 + neg_part l0) (neg_part l1 + pos_part l0) 99 (sub_lawℤ l1 l0) (omega arith) (omega arith) in
    abs_mul≤ (l1 -ℤ l0) (pos 1000000000) 99 1000000000 k (le_refl 1000000000)

-- where TAI-UTC stays the same the line goes from one record's UT1R to the next's: it is document 01's
pub ut1-same : (r0 r1 : Day) (u : ℤ) → r0.tai_utc ≡ r1.tai_utc → ut1_line r0 r1 u ≡ line (ut1r_of r0) (ut1r_of r1) u
unfolding ut1_line leap_of
ut1-same r0 r1 u e =
    let l1 = r1.tai_utc in
    ap (λ (z : ℤ). line (ut1r_of r0) (ut1r_of r1 -ℤ (l1 -ℤ z) *ℤ pos 1000000000) u) e
    ∙ ap (λ (z : ℤ). line (ut1r_of r0) z u) (by≡ (⟨ ut1r_of r1 ⟩ ⊝ (⟨ l1 ⟩ ⊝ ⟨ l1 ⟩) ⊗ # 1000000000) ⟨ ut1r_of r1 ⟩ (omega arith))

-- the end of a day's line is the next day's UT1R when both are counted from TAI: nothing steps at midnight
pub ut1_goes_on : (r0 r1 : Day)
    → ut1_line r0 r1 (pos 86400000) -ℤ r0.tai_utc *ℤ pos 1000000000 ≡ ut1r_of r1 -ℤ r1.tai_utc *ℤ pos 1000000000
unfolding ut1_line leap_of
ut1_goes_on r0 r1 =
    let v0 = ut1r_of r0 in
    let v1 = ut1r_of r1 in
    let l0 = r0.tai_utc in
    let l1 = r1.tai_utc in
    ap (λ (z : ℤ). v0 +ℤ z -ℤ l0 *ℤ pos 1000000000) (R_mul (v1 -ℤ (l1 -ℤ l0) *ℤ pos 1000000000 -ℤ v0) 86400000 (omega arith))
    ∙ by≡
    (⟨ v0 ⟩ ⊕ (⟨ v1 ⟩ ⊝ (⟨ l1 ⟩ ⊝ ⟨ l0 ⟩) ⊗ # 1000000000 ⊝ ⟨ v0 ⟩) ⊝ ⟨ l0 ⟩ ⊗ # 1000000000)
    (⟨ v1 ⟩ ⊝ ⟨ l1 ⟩ ⊗ # 1000000000)
    (omega arith)

-- the line's size: UT1R and the leap
pub ut1-line_size : (r0 r1 : Day) (u : ℤ) → InRecord r0 → InRecord r1 → Holds millisecond u → ∣ ut1_line r0 r1 u ∣ ≤ 99902723000
unfolding ut1_line
ut1-line_size r0 r1 u a b h =
    let h0 = a.ut1_size in
    let h1 = b.ut1_size in
    between_size (ut1r_of r0) (ut1r_of r1 -ℤ leap_of r0 r1) u 99902723000 h (omega arith) (omega (arith, abs_sub (ut1r_of r1) (leap_of r0 r1), leap_size r0 r1 a b))

pub ut1_used_size : (r0 r1 : Day) (e : Epoch) → InRecord r0 → InRecord r1 → Holds millisecond e.ms → ∣ ut1_used_rule r0 r1 e ∣ ≤ 99905446000
unfolding ut1_used_rule
ut1_used_size r0 r1 e a b h =
    omega (arith, abs_add (ut1_line r0 r1 e.ms) (tide_of e r0.tai_utc), ut1-line_size r0 r1 e.ms a b h, tide_size e r0.tai_utc)

-- f lies in the rotation angle's range
pub f_in : (u ut1 : ℤ) → Holds millisecond u → ∣ ut1 ∣ ≤ 99905446000 → Holds microsecond (f_of u ut1)
f_in u ut1 h k =
    let q = floor_z ut1 1000 in
    let l = of≤ (⟨ q ⟩ ⊗ # 1000) ⟨ ut1 ⟩ (floor_lo ut1 1000 (omega arith)) in
    let r = of< ⟨ ut1 ⟩ (⟨ q ⟩ ⊗ # 1000 ⊕ # 1000) (floor_hi ut1 1000 (omega arith)) in
    in_le
    (by≤ (⊖ (# 100000000)) (# 1000 ⊗ ⟨ u ⟩ ⊕ ⟨ q ⟩) (omega arith))
    (by≤ (# 1000 ⊗ ⟨ u ⟩ ⊕ ⟨ q ⟩) (# 86500000000) (omega arith))

-- the pole at an epoch
pub earth_size : (r0 r1 : Day) (e : Epoch) → InRecord r0 → InRecord r1 → Holds millisecond e.ms → InEarth (earth_of r0 r1 e)
unfolding earth_of
earth_size r0 r1 e a b h =
    record {
      x = pole-between r0.x r1.x e.ms h a.x b.x;
      y = pole-between r0.y r1.y e.ms h a.y b.y;
    }
