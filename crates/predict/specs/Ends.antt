-- For the code: a segment's predictions judged at its first and its last sample. proofs/Reach.antt shows that this is the condition of specs/Lent.antt.
use Rattle.std.specs.Prelude.{ℕ, Bool, ◌&&◌, leb, ℤ, pos, ◌+ℤ◌, ◌-ℤ◌, ◌*ℤ◌}
use Rattle.whole.specs.Whole.{∣◌∣}

-- what rounds to at most 131,000,000,000 in size: 65,536·131,000,000,000 + 32,767
abbrev pub reach : ℕ
reach = 8_585_216_000_032_767

abbrev pub in_reach : ℤ → ℤ → ℤ → Bool
in_reach A r j = leb ∣ A +ℤ r *ℤ j ∣ reach

abbrev pub ends_ok_rule : ℤ → ℤ → ℤ → Bool
ends_ok_rule A r c = leb ∣ A ∣ reach && in_reach A r (c -ℤ pos 1)
