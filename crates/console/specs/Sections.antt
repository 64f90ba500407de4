-- The section of a kind of records, and that in a place, of document 01, 'Session files'.
use Rattle.std.specs.Prelude.{ℕ, zero, suc, ℤ, pos, cond}
use Rattle.whole.specs.Ranges.{eq_z}
use Rattle.console.specs.declared.section.Section.{Section}
use Rattle.console.specs.declared.section.Section.TheVariants.{Stations, Sources, Days, Passes}

-- days have kind 3 or 5; any other number is taken for theirs, too
abbrev pub section_of_kind : ℤ → Section
section_of_kind z = cond (eq_z z (pos 1)) Stations (cond (eq_z z (pos 2)) Sources (cond (eq_z z (pos 4)) Passes Days))

-- they stand in this order, place after place
abbrev pub section_in : ℕ → Section
section_in zero = Stations
section_in (suc zero) = Sources
section_in (suc (suc zero)) = Days
section_in (suc (suc (suc n))) = Passes
