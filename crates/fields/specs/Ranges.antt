-- The range of each field of a session file, by its name. Document 01, 'Session file', Ranges; 'Refusal numbers' gives an argument of a call the range of
-- its field. A range stands as a test, `inside`, which decides a refusal, and as a fact, `Holds`, for the functions behind the calls.
use Rattle.std.specs.Prelude.{ℕ, Bool, ℤ, pos, neg_ℤ}
use Rattle.whole.specs.Ranges.{within, In}
use Rattle.fields.specs.declared.ranges.Range.{Range}

abbrev pub range : ℕ → ℕ → Range
range a b = record { low = pos a; high = pos b }

-- a on either side of zero
abbrev pub either_side : ℕ → Range
either_side a = record { low = neg_ℤ (pos a); high = pos a }

abbrev pub inside : Range → ℤ → Bool
inside r z = within r.low r.high z

abbrev pub Holds : Range → ℤ → Type 0
Holds r z = In r.low r.high z

-- ---- the ranges

abbrev pub id_number : Range
id_number = range 1 65_535

-- in millimetres
abbrev pub coordinate : Range
coordinate = either_side 6_400_000_000

-- in ticks, as the declination is
abbrev pub right_ascension_rule : Range
right_ascension_rule = range 0 4_294_967_295

abbrev pub declination : Range
declination = either_side 1_073_741_824

abbrev pub mjd : Range
mjd = range 41_317 69_806

-- in microarcseconds
abbrev pub pole : Range
pole = either_side 1_000_000

-- in nanoseconds
abbrev pub ut1utc : Range
ut1utc = either_side 900_000_000

-- in seconds
abbrev pub taiutc : Range
taiutc = range 0 99

-- which UT1 a record holds: 0 for UT1R, 1 for full UT1. Document 02, L4.
abbrev pub mark : Range
mark = range 0 1

-- of a UTC day
abbrev pub millisecond : Range
millisecond = range 0 86_399_999

-- in milliseconds
abbrev pub step : Range
step = range 1 3_600_000

-- in a pass
abbrev pub samples : Range
samples = range 1 4_096

-- in picoseconds
abbrev pub tolerance : Range
tolerance = range 0 1_000_000
