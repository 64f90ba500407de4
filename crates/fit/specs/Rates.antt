-- For the code: the rates and the offsets that a run of samples leaves, all as naturals. A sample is lifted by 130,001,000,000 and scaled, and a rate p
-- stands for the rate p - tilt, so that no number is negative: the line is at a + p·j where the samples, tilted alike, are at tilt·j + g (f + j).
-- `w` is the scaled tolerance. proofs/Lines.antt shows that these are the line of document 01's rule.
use Rattle.std.specs.Prelude.{ℕ, zero, suc, ◌+◌, ◌*◌, ◌/◌, ◌-◌, min, max, Bool, cond, List, leb, eqb, ℤ, pos, negsuc}
use Rattle.std.proofs.Math.IntN.{sub_ℕ}
use Rattle.fit.specs.Line.{sample}

-- the least and the greatest rate that two samples, at k and at j, leave
unfoldable pub low : (ℕ → ℕ) → ℕ → ℕ → ℕ → ℕ → ℕ
low g w N k j = (N * (j - k) + g j - (g k + 2 * w) + (j - k) - 1) / (j - k)

unfoldable pub upp : (ℕ → ℕ) → ℕ → ℕ → ℕ → ℕ → ℕ
upp g w N k j = (N * (j - k) + g j + 2 * w - g k) / (j - k)

-- `acc`, and what the sample at j leaves with each of the m samples from f
unfoldable pub row_lo : (ℕ → ℕ) → ℕ → ℕ → ℕ → ℕ → ℕ → ℕ → ℕ
row_lo g w N f j zero acc = acc
row_lo g w N f j (suc m) acc = max (row_lo g w N f j m acc) (low g w N (f + m) j)

unfoldable pub row_hi : (ℕ → ℕ) → ℕ → ℕ → ℕ → ℕ → ℕ → ℕ → ℕ
row_hi g w N f j zero acc = acc
row_hi g w N f j (suc m) acc = min (row_hi g w N f j m acc) (upp g w N (f + m) j)

-- the least and the greatest rate for the c samples from f
unfoldable pub lo : (ℕ → ℕ) → ℕ → ℕ → ℕ → ℕ → ℕ
lo g w N f zero = 0
lo g w N f (suc c) = row_lo g w N f (f + c) c (lo g w N f c)

unfoldable pub hi : (ℕ → ℕ) → ℕ → ℕ → ℕ → ℕ → ℕ
hi g w N f zero = 2 * N
hi g w N f (suc c) = row_hi g w N f (f + c) c (hi g w N f c)

-- some rate fits the c samples from f
unfoldable pub fit : (ℕ → ℕ) → ℕ → ℕ → ℕ → ℕ → Bool
fit g w N f c = leb (lo g w N f c) (hi g w N f c)

-- the least offset at the rate p
unfoldable pub off : (ℕ → ℕ) → ℕ → ℕ → ℕ → ℕ → ℕ → ℕ
off g w N p f zero = 0
off g w N p f (suc c) = max (off g w N p f c) (N * c + g (f + c) - (w + p * c))

-- the samples turned over: the greatest rate is the least rate of these, taken from twice the tilt
unfoldable pub mirror : (ℕ → ℕ) → ℕ → ℕ → ℕ → ℕ
mirror g w N i = N - 2 * w - g i

-- ---- of given samples and tolerance

-- a sample made non-negative, and scaled
unfoldable pub bias : ℤ → ℕ
bias (pos n) = 130_001_000_000 + n
bias (negsuc n) = 130_001_000_000 - suc n

unfoldable pub scaled : List ℤ → ℕ → ℕ
scaled s i = bias (sample s i) * 65536

abbrev pub tilt : ℕ
tilt = 17_040_000_000_000_000

abbrev pub lift : ℕ
lift = 130_001_000_000 * 65536

-- the least rate of the c samples from f, tilted
abbrev pub least : List ℤ → ℕ → ℕ → ℕ → ℕ
least s t f c = lo (scaled s) (65536 * t) tilt f c

-- whether some line fits the c samples from f
unfoldable pub fit_of : List ℤ → ℕ → ℕ → ℕ → Bool
fit_of s t f c = fit (scaled s) (65536 * t) tilt f c

-- the rate of the rule, tilted: 0 for a single sample
unfoldable pub tilted : List ℤ → ℕ → ℕ → ℕ → ℕ
tilted s t f c = cond (eqb c 1) tilt (least s t f c)

-- the offset of the rule, lifted
unfoldable pub lifted : List ℤ → ℕ → ℕ → ℕ → ℕ
lifted s t f c = off (scaled s) (65536 * t) tilt (tilted s t f c) f c

-- the rate and the offset of the rule
unfoldable pub rate_of_rule : List ℤ → ℕ → ℕ → ℕ → ℤ
rate_of_rule s t f c = sub_ℕ (tilted s t f c) tilt

unfoldable pub offset_of : List ℤ → ℕ → ℕ → ℕ → ℤ
offset_of s t f c = sub_ℕ (lifted s t f c) lift
