-- Document 01, 'Numbers to meet': the starred cases of arguments and rotation angle hold, at which milliseconds n is 0, and minutes of days before 51,544.
-- Assumes nothing.
use Rattle.std.proofs.Common.{◌≡◌, ℕ, ◌+◌, ◌-◌, ◌≤◌, ℤ, pos, negsuc, ◌-ℤ◌, neg_ℤ, sym, refl, ap, ◌∙◌, arith, le-leb}
use Rattle.whole.specs.Whole.{floor_z}
use Rattle.fields.specs.Ranges.{mjd}
use Rattle.whole.specs.Answers.{given}
use Rattle.whole.specs.Cases.{Hold}
use Rattle.whole.proofs.Quote.{#, ◌⊕◌, ◌⊝◌, ◌⊗◌, by≡, by≤, by<, of≤, of<}
use Rattle.whole.proofs.Rounding.{floor_unique, floor_lo, floor_hi}
use Rattle.earth.specs.Minutes.{minutes_of}
use Rattle.earth.specs.DelaunayArguments.{argument_of, arguments_of}
use Rattle.earth.specs.Angle.{sum_of, e_of, era_of}
use Rattle.earth.specs.Calls.{epoch_of, arguments_outcome, angle_outcome}
use Rattle.earth.specs.Starred.{first_at0, last_at0, on_day0, arguments_at0, arguments_answer, arguments_cases, angle_answer, angle_cases}

-- n at the milliseconds of that day
unfoldable pub n_at : ℕ → ℤ
n_at u = minutes_of (epoch_of (on_day0 u).day (on_day0 u).ms) (on_day0 u).tai

n_is : (u : ℕ) → n_at u ≡ floor_z (pos u -ℤ pos first_at0) 60000
unfolding n_at minutes_of
n_is u =
    ap (λ (z : ℤ). floor_z z 60000)
    (by≡ ((# 51544 ⊝ # 51544) ⊗ # 86400000 ⊝ # 43200000 ⊕ # u ⊕ # 32184 ⊕ # 1000 ⊗ # 32) (# u ⊝ # first_at0) (omega arith))

-- n is 0 there, and at no other u of that day or any
pub n_zero : (u : ℕ) → first_at0 ≤ u → u ≤ last_at0 → n_at u ≡ pos 0
n_zero u l h =
    n_is u
    ∙ floor_unique (pos u -ℤ pos first_at0) (pos 0) 60000 (omega arith)
    (by≤ (# 0) (# u ⊝ # first_at0) (omega arith))
    (by< (# u ⊝ # first_at0) (# 60000) (omega arith))

pub n_zero_only : (u : ℕ) → n_at u ≡ pos 0 → (first_at0 ≤ u) × (u ≤ last_at0)
n_zero_only u e =
    let z = pos u -ℤ pos first_at0 in
    let q : floor_z z 60000 ≡ pos 0 = sym (n_is u) ∙ e in
    let l = rw q at (floor_lo z 60000 (omega arith)) in
    let h = rw q at (floor_hi z 60000 (omega arith)) in
    (omega (arith, of≤ (# 0) (# u ⊝ # first_at0) l), omega (arith, of< (# u ⊝ # first_at0) (# 60000) h))

pub n_before : n_at (first_at0 - 1) ≡ negsuc 0
unfolding n_at minutes_of
n_before = refl

pub n_after : n_at (last_at0 + 1) ≡ pos 1
unfolding n_at minutes_of
n_after = refl

-- the first day of the file's range: 10,227 days and a half before J2000, less the minute begun by 32.184 s of TT
pub n_first-day : minutes_of (epoch_of mjd.low (pos 0)) (pos 0) ≡ neg_ℤ (pos 14727600)
unfolding minutes_of
n_first-day = refl

-- ---- the cases
pub arguments_at_0 : (u : ℕ) → first_at0 ≤ u → u ≤ last_at0 → arguments_answer (on_day0 u) ≡ arguments_at0
unfolding given arguments_outcome n_at arguments_of argument_of
arguments_at_0 u l h =
    let lo = le-leb 0 u (omega arith) in
    let hi = le-leb u 86399999 (omega arith) in
    simp (n_zero u l h, lo, hi)

pub arguments_hold : Hold arguments_answer arguments_cases
unfolding given arguments_cases minutes_of arguments_outcome arguments_of argument_of
arguments_hold = refl

pub angles_hold : Hold angle_answer angle_cases
unfolding given angle_cases angle_outcome era_of e_of sum_of
angles_hold = refl
