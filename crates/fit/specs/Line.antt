-- Document 01, 'Track': when a segment fits; and 'Refusal numbers': the range of a sample. This is all that a reader of this crate must believe:
-- what the other files of this folder define is for the code, and is proved to agree with it in proofs/Lines.antt.
use Rattle.std.specs.Prelude.{ℕ, ◌+◌, ◌*◌, ◌≤◌, ◌<◌, List, get_or, ℤ, pos, ◌+ℤ◌, ◌-ℤ◌, ◌*ℤ◌}
use Rattle.whole.specs.Whole.{∣◌∣}

-- sample i, counted from 0
abbrev pub sample : List ℤ → ℕ → ℤ
sample s i = get_or s i (pos 0)

-- how far the line is from sample j of a segment that starts at sample f, in 1/65,536 ps
abbrev pub apart : List ℤ → ℤ → ℤ → ℕ → ℕ → ℤ
apart s A r f j = A +ℤ r *ℤ pos j -ℤ pos 65536 *ℤ sample s (f + j)

-- "It fits if |A + r·j - 65,536·(sample j of the segment)| is at most 65,536·tolerance for each j from 0": of the c samples from f on.
abbrev pub Fits : List ℤ → ℕ → ℤ → ℤ → ℕ → ℕ → Type 0
Fits s t A r f c = (j : ℕ) → j < c → ∣ A +ℤ r *ℤ pos j -ℤ pos 65536 *ℤ sample s (f + j) ∣ ≤ 65536 * t

-- "plain samples, each within ±130,000,000,000"
abbrev pub Small : List ℤ → Type 0
Small s = (i : ℕ) → ∣ sample s i ∣ ≤ 130_000_000_000
