-- Document 01, 'Rotation angle' (document 002, 5.14 and 5.15): E, in 10^-17 of a turn, and ERA, in ticks, of a day d and of f microseconds of it.
use Rattle.std.specs.Prelude.{ℕ, ◌*◌, ◌/◌, ◌^◌, ◌≤◌, ℤ, pos, ◌+ℤ◌, ◌-ℤ◌, ◌*ℤ◌}
use Rattle.whole.specs.Whole.{∣◌∣, floor_z, mod_z}

-- "fm = floor(f/1,000)"
abbrev pub fm_of : ℤ → ℤ
fm_of f = floor_z f 1000

-- "27,768,836,730,832,276 + 273,781,191,135,448·(d - 51,544) + 10·floor(3,125,000·f / 27) + floor(1,368,905,955·fm / 432)"
unfoldable pub sum_of : ℤ → ℤ → ℤ
sum_of d f =
    pos 27768836730832276
    +ℤ pos 273781191135448 *ℤ (d -ℤ pos 51544)
    +ℤ pos 10 *ℤ floor_z (pos 3125000 *ℤ f) 27
    +ℤ floor_z (pos 1368905955 *ℤ fm_of f) 432

-- E is that sum modulo 10^17. "E is at least 0."
unfoldable pub e_of : ℤ → ℤ → ℕ
e_of d f = mod_z (sum_of d f) (10 ^ 17)

-- "ERA = floor(2^32·E / 10^17)."
unfoldable pub era_of : ℤ → ℤ → ℕ
era_of d f = 2 ^ 32 * e_of d f / 10 ^ 17

-- One turn, in the unit of the distance below: 1 / (10^17·86,400,000,000) of a turn.
abbrev pub turn : ℕ
turn = 10 ^ 17 * 86400000000

-- 0.7790572732640 + 1.00273781191135448·Tu in that unit. Tu is the UT1 days from noon of MJD 51,544: (d - 51,544) + f / 86,400,000,000 - 1/2.
unfoldable pub exact_of : ℤ → ℤ → ℤ
exact_of d f =
    pos (77905727326400000 * 86400000000)
    +ℤ pos 100273781191135448 *ℤ ((d -ℤ pos 51544) *ℤ pos 86400000000 +ℤ f -ℤ pos 43200000000)

-- "E/10^17 lies within 4/10^11 turn of the exact fraction at f, counted round the circle": but for some number of whole turns.
pub record Near (d f : ℤ) (e : ℕ) : Type 0 where
  pub turns : ℤ
  pub near : 10 ^ 11 * ∣ pos (e * 86400000000) -ℤ exact_of d f -ℤ turns *ℤ pos turn ∣ ≤ 4 * turn
