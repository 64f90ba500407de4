-- Laws of a pass's epochs. Assumes nothing.
use mathlib.Core.Path.{◌≡◌, ap, subst, ◌∙◌}
use Prim.Native.Nat.{ℕ, ◌+◌, ◌*◌, ◌≤◌, ◌<◌}
use native.Mathlib.Nat.{le_trans, mul-le-mul}
use native.Mathlib.Omega.{arith}
use lib.Dec.{lit≤}
use lib.IntN.{ℤ, pos, negsuc, nat_abs, ◌+ℤ◌, ◌*ℤ◌}
use lib.Dec.{T}
use lib.Signed.{◌≤ℤ◌, non_neg}
use mir.Syntax.{w64}
use mir.Val.{Fits, to_z, of_z}
use Rattle.whole.proofs.Machine.{is}
use Rattle.whole.specs.Whole.{pos_part, neg_part, ∣◌∣, floor_z}
use Rattle.whole.proofs.Linear.{zarith, parts_le, abs_add, mul_pos_part, mul_neg_part, add_law}
use Rattle.whole.proofs.Rounding.{mod_below, floor_abs, floor_unique}
use Rattle.whole.proofs.Quote.{⟨◌⟩, #, ◌⊕◌, ◌⊗◌, by≡, by≤, by<}
use Rattle.fields.specs.Ranges.{Holds, millisecond, samples}
use Rattle.earth.specs.Ranges.{added}
use Rattle.earth.specs.declared.time.Epoch.{Epoch}
use Rattle.earth.specs.Epoch.{later_of}
use Rattle.earth.proofs.Epochs.{later_ms, later_twice, later_day}
use Rattle.earth.proofs.Floors.{in_abs, leaf}
use Rattle.fields.specs.declared.Pass.{Pass}
use Rattle.fields.specs.Records.{InPass}
use Rattle.delay.specs.Calls.{samples_of}
use Rattle.delay.specs.Sessions.{start_of, sample_epoch_rule}

-- a pass has 1 to 4,096 samples
counted : (z : ℤ) → Holds samples z → (1 ≤ nat_abs z) × (nat_abs z ≤ 4096)
counted (pos n) h = (omega (arith, h.p_lo), omega (arith, h.p_hi))
counted (negsuc n) h = absurd (omega (arith, h.n_lo))

pub samples-count : (p : Pass) → InPass p → (1 ≤ samples_of p) × (samples_of p ≤ 4096)
samples-count p h = counted p.samples h.samples

-- read as a count by the code
cast_in : (z : ℤ) → Holds samples z → T (non_neg z) × Fits w64 (nat_abs z)
cast_in (pos n) h = (tt, record { fits = omega (arith, h.p_hi) })
cast_in (negsuc n) h = absurd (omega (arith, h.n_lo))

pub samples_back : (p : Pass) → InPass p → to_z w64 (of_z w64 p.samples) ≡ p.samples
samples_back p h = is (leaf p.samples h.samples) tt

pub samples-read : (p : Pass) → InPass p → nat_abs (to_z w64 (of_z w64 p.samples)) ≡ samples_of p
samples-read p h = ap nat_abs (samples_back p h)

pub samples_cast : (p : Pass) → InPass p → T (non_neg (to_z w64 (of_z w64 p.samples))) × Fits w64 (nat_abs (to_z w64 (of_z w64 p.samples)))
samples_cast p h = rw (samples_back p h) (cast_in p.samples h.samples)

pub mjd_back : (p : Pass) → InPass p → to_z w64 (of_z w64 p.mjd) ≡ p.mjd
mjd_back p h = is (leaf p.mjd h.mjd) tt

pub mjd-small : (p : Pass) → InPass p → ∣ to_z w64 (of_z w64 p.mjd) ∣ ≤ 1_000_000
mjd-small p h = rw (mjd_back p h) (le_trans (in_abs p.mjd h.mjd) (lit≤ tt))

-- what is added fits the rule of epochs
pub add_in : (p : Pass) (i : ℕ) → InPass p → i < 4096 → Holds added (pos i *ℤ p.step)
add_in p i h l =
    let k = h.step in
    let m : i * pos_part p.step ≤ 4095 * 3600000 = mul-le-mul {n₁ = i} {m₁ = pos_part p.step} {n₂ = 4095} {m₂ = 3600000} (omega arith) k.p_hi in
    let z : neg_part p.step ≡ 0 = omega (arith, k.n_lo) in
    let q : i * neg_part p.step ≡ 0 = ap (λ (n : ℕ). i * n) z ∙ omega arith in
    record {
      n_lo = omega (arith, mul_neg_part (pos i) p.step);
      p_lo = omega arith;
      p_hi = omega (arith, mul_pos_part (pos i) p.step);
      n_hi = omega arith;
    }

pub sample_ms : (p : Pass) (i : ℕ) → Holds millisecond (sample_epoch_rule p i).ms
unfolding sample_epoch_rule later_of
sample_ms p i =
    let z = p.ms +ℤ pos i *ℤ p.step in
    record { n_lo = omega arith; p_lo = omega arith; p_hi = omega (arith, mod_below z 86400000 (omega arith)); n_hi = omega arith }

pub sample-day : (p : Pass) (i : ℕ) → InPass p → i < 4096 → ∣ (sample_epoch_rule p i).day ∣ ≤ 1_000_000
unfolding sample_epoch_rule later_of
sample-day p i h l =
    let a = pos i *ℤ p.step in
    let z = p.ms +ℤ a in
    let m : ∣ z ∣ ≤ 1000 * 86400000 = omega (arith, abs_add p.ms a, in_abs p.ms h.ms, in_abs a (add_in p i h l)) in
    let f = floor_abs z 86400000 1000 (omega arith) m in
    omega (arith, abs_add p.mjd (floor_z z 86400000), in_abs p.mjd h.mjd)

-- the first sample stands at the pass's own epoch
pub first-day : (p : Pass) → InPass p → (sample_epoch_rule p 0).day ≡ p.mjd
unfolding sample_epoch_rule later_of
first-day p h =
    let z = p.ms +ℤ pos 0 *ℤ p.step in
    let l = parts_le (pos 0) p.ms h.ms.p_lo h.ms.n_lo in
    let u = parts_le p.ms millisecond.high h.ms.p_hi h.ms.n_hi in
    let f : floor_z z 86400000 ≡ pos 0 =
    floor_unique z (pos 0) 86400000 (omega arith)
    (by≤ (# 0 ⊗ # 86400000) (⟨ p.ms ⟩ ⊕ # 0 ⊗ ⟨ p.step ⟩) (omega zarith))
    (by< (⟨ p.ms ⟩ ⊕ # 0 ⊗ ⟨ p.step ⟩) (# 0 ⊗ # 86400000 ⊕ # 86400000) (omega zarith)) in
    ap (λ (n : ℤ). p.mjd +ℤ n) f ∙ omega (zarith, add_law p.mjd (pos 0))

-- a later sample stands on no earlier day
pub sample-days : (p : Pass) (i k : ℕ) → InPass p → k < 4096 → (sample_epoch_rule p i).day ≤ℤ (sample_epoch_rule p (i + k)).day
unfolding sample_epoch_rule
sample-days p i k h l =
    let e = later_of (start_of p) (pos i *ℤ p.step) in
    let d = (later_day e (pos k *ℤ p.step) (later_ms (start_of p) (pos i *ℤ p.step)) (add_in p k h l)).0 in
    let t : pos i *ℤ p.step +ℤ pos k *ℤ p.step ≡ pos (i + k) *ℤ p.step = by≡ (# i ⊗ ⟨ p.step ⟩ ⊕ # k ⊗ ⟨ p.step ⟩) (# (i + k) ⊗ ⟨ p.step ⟩) (omega arith) in
    subst (λ (x : Epoch). e.day ≤ℤ x.day) (later_twice (start_of p) (pos i *ℤ p.step) (pos k *ℤ p.step) ∙ ap (later_of (start_of p)) t) d
