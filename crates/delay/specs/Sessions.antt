-- Document 01, 'Day values' and 'Delay', of a session file: what it has for an epoch, the earth there, and the epochs of a pass.
use Rattle.std.specs.Prelude.{ℕ, Bool, ◌&&◌, List, ℤ, pos, ◌+ℤ◌, ◌*ℤ◌, ltb}
use Rattle.fields.specs.declared.Pass.{Pass}
use Rattle.earth.specs.declared.time.Epoch.{Epoch}
use Rattle.earth.specs.Epoch.{later_of}
use Rattle.earth.specs.Calls.{epoch_of}
use Rattle.sections.specs.File.{count_of_rule}
use Rattle.session.specs.Records.{day_by, place_by_rule}
use Rattle.wave.specs.declared.values.Earth.{Earth}
use Rattle.wave.specs.DayValues.{earth_of}

-- the file has a record with this id, or of this day, in place p: stations 0, sources 1, days 2
abbrev pub has_id : List ℕ → ℕ → ℤ → Bool
has_id s p z = ltb (place_by_rule s p z) (count_of_rule s p)

-- the records of day d and of the next, which every epoch of day d takes
unfoldable pub covers : List ℕ → ℤ → Bool
covers s d = has_id s 2 d && has_id s 2 (d +ℤ pos 1)

-- the earth at an epoch that the file covers
unfoldable pub earth_in_rule : List ℕ → Epoch → Earth
earth_in_rule s e = earth_of (day_by s e.day) (day_by s (e.day +ℤ pos 1)) e

-- sample i, counted from 0, stands i steps behind the epoch of its pass
abbrev pub start_of : Pass → Epoch
start_of p = epoch_of p.mjd p.ms

unfoldable pub sample_epoch_rule : Pass → ℕ → Epoch
sample_epoch_rule p i = later_of (start_of p) (pos i *ℤ p.step)
