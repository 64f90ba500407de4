-- E and ERA: their bounds, the distance of E from the exact fraction, and the sum that the code takes. Assumes nothing.
use Rattle.std.proofs.Common.{◌≡◌, ℕ, ◌+◌, ◌*◌, ◌/◌, ◌%◌, ◌^◌, ◌<◌, ◌≤◌, ℤ, pos, negsuc, ◌+ℤ◌, ◌-ℤ◌, ◌*ℤ◌, neg_ℤ, sym, ap, ◌∙◌, mul-le-mul_left, arith}
use Rattle.whole.specs.Whole.{pos_part, neg_part, ∣◌∣, floor_z, mod_z}
use Rattle.whole.proofs.Quote.{E, ⟨◌⟩, #, ◌⊕◌, ◌⊝◌, ◌⊗◌, ⊖, ev, by≡, of≡, bal}
use Rattle.whole.proofs.Rounding.{floor_mod, mod_below}
use Rattle.whole.specs.Ranges.{In}
use Rattle.fields.specs.Ranges.{Holds}
use Rattle.earth.specs.Ranges.{microsecond}
use Rattle.earth.specs.Angle.{fm_of, sum_of, e_of, era_of, turn, exact_of, Near}
use Rattle.whole.proofs.Linear.{size_to}
use Rattle.earth.proofs.Floors.{floor_more, mod_more}

pub e_below : (d f : ℤ) → e_of d f < 10 ^ 17
unfolding e_of
e_below d f = mod_below (sum_of d f) (10 ^ 17) (omega arith)

pub era_below : (d f : ℤ) → era_of d f < 2 ^ 32
unfolding era_of
era_below d f = omega (arith, e_below d f)

-- ---- the distance: the rule's sum less the exact fraction, in whole turns and what the floors took off
off : (d f F m G q : ℤ) (a b c e : ℕ) → F *ℤ pos 27 +ℤ pos a ≡ pos 3125000 *ℤ f → m *ℤ pos 1000 +ℤ pos b ≡ f → G *ℤ pos 432 +ℤ pos c ≡ pos 1368905955 *ℤ m
    → q *ℤ pos (10 ^ 17) +ℤ pos e ≡ pos 27768836730832276 +ℤ pos 273781191135448 *ℤ (d -ℤ pos 51544) +ℤ pos 10 *ℤ F +ℤ G
    → pos (e * 86400000000) -ℤ exact_of d f -ℤ neg_ℤ (q +ℤ d -ℤ pos 51544) *ℤ pos turn ≡ neg_ℤ (pos 135448 *ℤ f +ℤ pos (32000000000 * a + 273781191000000 * b + 200000000 * c))
unfolding exact_of
off d f F m G q a b c e h1 h2 h3 h4 =
    by≡
    (# (e * 86400000000)
    ⊝ (# (77905727326400000 * 86400000000) ⊕ # 100273781191135448 ⊗ ((⟨ d ⟩ ⊝ # 51544) ⊗ # 86400000000 ⊕ ⟨ f ⟩ ⊝ # 43200000000))
    ⊝ ⊖ (⟨ q ⟩ ⊕ ⟨ d ⟩ ⊝ # 51544) ⊗ # turn)
    (⊖ (# 135448 ⊗ ⟨ f ⟩ ⊕ # (32000000000 * a + 273781191000000 * b + 200000000 * c)))
    (omega (
      arith,
      of≡ (⟨ F ⟩ ⊗ # 27 ⊕ # a) (# 3125000 ⊗ ⟨ f ⟩) h1,
      of≡ (⟨ m ⟩ ⊗ # 1000 ⊕ # b) ⟨ f ⟩ h2,
      of≡ (⟨ G ⟩ ⊗ # 432 ⊕ # c) (# 1368905955 ⊗ ⟨ m ⟩) h3,
      of≡ (⟨ q ⟩ ⊗ # (10 ^ 17) ⊕ # e) (# 27768836730832276 ⊕ # 273781191135448 ⊗ (⟨ d ⟩ ⊝ # 51544) ⊕ # 10 ⊗ ⟨ F ⟩ ⊕ ⟨ G ⟩) h4,
    ))

-- and that is little
small : (f : ℤ) (a b c : ℕ) → Holds microsecond f → a < 27 → b < 1000 → c < 432
    → ∣ neg_ℤ (pos 135448 *ℤ f +ℤ pos (32000000000 * a + 273781191000000 * b + 200000000 * c)) ∣ ≤ 345600000000000000
small f a b c i ha hb hc =
    size_to (neg_ℤ (pos 135448 *ℤ f +ℤ pos (32000000000 * a + 273781191000000 * b + 200000000 * c)))
    (135448 * neg_part f)
    (135448 * pos_part f + (32000000000 * a + 273781191000000 * b + 200000000 * c))
    345600000000000000
    (omega (arith, bal (⊖ (# 135448 ⊗ ⟨ f ⟩ ⊕ # (32000000000 * a + 273781191000000 * b + 200000000 * c)))))
    (omega (arith, i.n_lo))
    (omega (arith, i.p_hi))

-- "E/10^17 lies within 4/10^11 turn of the exact fraction at f, counted round the circle", for every day and every f of its range
pub e_near : (d f : ℤ) → Holds microsecond f → Near d f (e_of d f)
unfolding e_of sum_of
e_near d f i =
    let F = floor_z (pos 3125000 *ℤ f) 27 in
    let m = floor_z f 1000 in
    let G = floor_z (pos 1368905955 *ℤ m) 432 in
    let q = floor_z (sum_of d f) (10 ^ 17) in
    let a = mod_z (pos 3125000 *ℤ f) 27 in
    let b = mod_z f 1000 in
    let c = mod_z (pos 1368905955 *ℤ m) 432 in
    let e = mod_z (sum_of d f) (10 ^ 17) in
    record {
      turns = neg_ℤ (q +ℤ d -ℤ pos 51544);
      near =
          rw (off d f F m G q a b c e
          (floor_mod (pos 3125000 *ℤ f) 27 (omega arith))
          (floor_mod f 1000 (omega arith))
          (floor_mod (pos 1368905955 *ℤ m) 432 (omega arith))
          (floor_mod (sum_of d f) (10 ^ 17) (omega arith)))
          (mul-le-mul_left (10 ^ 11) (small f a b c i (mod_below (pos 3125000 *ℤ f) 27 (omega arith)) (mod_below f 1000 (omega arith)) (mod_below (pos 1368905955 *ℤ m) 432 (omega arith))));
    }

-- ---- the code's sum, of days, microseconds and milliseconds that are moved to be no less than 0
floor_f : (f : ℤ) (us : ℕ) → pos us ≡ f +ℤ pos 108000000 → floor_z (pos 3125000 *ℤ f) 27 ≡ pos (3125000 * us / 27) +ℤ neg_ℤ (pos 12500000000000)
floor_f f us e =
    ap (λ (z : ℤ). floor_z z 27) (by≡ (# 3125000 ⊗ ⟨ f ⟩) (# (3125000 * us) ⊕ ⊖ (# 12500000000000) ⊗ # 27) (omega (arith, of≡ (# us) (⟨ f ⟩ ⊕ # 108000000) e)))
    ∙ floor_more (pos (3125000 * us)) (neg_ℤ (pos 12500000000000)) 27 (omega arith)

floor_fm : (m : ℤ) (ms : ℕ) → pos ms ≡ m +ℤ pos 108000 → floor_z (pos 1368905955 *ℤ m) 432 ≡ pos (1368905955 * ms / 432) +ℤ neg_ℤ (pos 342226488750)
floor_fm m ms e =
    ap (λ (z : ℤ). floor_z z 432) (by≡ (# 1368905955 ⊗ ⟨ m ⟩) (# (1368905955 * ms) ⊕ ⊖ (# 342226488750) ⊗ # 432) (omega (arith, of≡ (# ms) (⟨ m ⟩ ⊕ # 108000) e)))
    ∙ floor_more (pos (1368905955 * ms)) (neg_ℤ (pos 342226488750)) 432 (omega arith)

-- the rule's part of the day alone, less what 108 s give, and some turns
abbrev pub day_part : ℤ → ℕ → E
day_part d turns =
    # 27768836730832276 ⊕ # 273781191135448 ⊗ (⟨ d ⟩ ⊝ # 51544) ⊝ # (10 * 12500000000000 + 342226488750) ⊕ # turns ⊗ # (10 ^ 17)

pub sum_is : (d f : ℤ) (at turns us ms : ℕ) → pos at ≡ ev (day_part d turns) → pos us ≡ f +ℤ pos 108000000 → pos ms ≡ fm_of f +ℤ pos 108000
    → (at + 10 * (3125000 * us / 27) + 1368905955 * ms / 432) % 100000000000000000 ≡ e_of d f
unfolding e_of sum_of
sum_is d f at turns us ms ed ef em =
    let F = 3125000 * us / 27 in
    let G = 1368905955 * ms / 432 in
    let t = at + 10 * F + G in
    let e : sum_of d f ≡ pos t +ℤ neg_ℤ (pos turns) *ℤ pos (10 ^ 17) =
    rw (floor_f f us ef, floor_fm (fm_of f) ms em)
    (by≡ (# 27768836730832276 ⊕ # 273781191135448 ⊗ (⟨ d ⟩ ⊝ # 51544) ⊕ # 10 ⊗ (# F ⊕ ⊖ (# 12500000000000)) ⊕ (# G ⊕ ⊖ (# 342226488750)))
    (# t ⊕ ⊖ (# turns) ⊗ # (10 ^ 17))
    (omega (arith, of≡ (# at) (day_part d turns) ed))) in
    sym (ap (λ (z : ℤ). mod_z z (10 ^ 17)) e ∙ mod_more (pos t) (neg_ℤ (pos turns)) (10 ^ 17) (omega arith))

-- fm from -100,000 to 86,500,000
pub fm_in : (f : ℤ) → Holds microsecond f → In (neg_ℤ (pos 100000)) (pos 86500000) (fm_of f)
fm_in (pos n) i = record { n_lo = omega arith; p_lo = omega arith; p_hi = omega (arith, i.p_hi); n_hi = omega arith }
fm_in (negsuc n) i = record { n_lo = omega (arith, i.n_lo); p_lo = omega arith; p_hi = omega arith; n_hi = omega arith }
