-- The records of a session, each made of a row of numbers, and with its fields in their ranges. Document 01, 'Session file'.
use Rattle.std.specs.Prelude.{ℕ, List, ℤ, pos, get_or}
use Rattle.fields.specs.declared.Station.{Station}
use Rattle.fields.specs.declared.Source.{Source}
use Rattle.fields.specs.declared.Day.{Day}
use Rattle.fields.specs.declared.Pass.{Pass}
use Rattle.fields.specs.Ranges.{Holds, id_number, coordinate, right_ascension_rule, declination, mjd, pole, ut1utc, taiutc, mark, millisecond, step, samples, tolerance}

-- ---- the fields stand in the row in document 01's order

abbrev pub number_in : List ℤ → ℕ → ℤ
number_in row k = get_or row k (pos 0)

unfoldable pub station_from_rule : List ℤ → Station
station_from_rule row = record { id = number_in row 0; x = number_in row 1; y = number_in row 2; z = number_in row 3 }

unfoldable pub source_from_rule : List ℤ → Source
source_from_rule row = record { id = number_in row 0; right_ascension = number_in row 1; declination = number_in row 2 }

unfoldable pub day_from_rule : List ℤ → Day
day_from_rule row = record { mjd = number_in row 0; x = number_in row 1; y = number_in row 2; ut1_utc = number_in row 3; tai_utc = number_in row 4; mark = number_in row 5 }

unfoldable pub pass_from_rule : List ℤ → Pass
pass_from_rule row =
    record {
      station1 = number_in row 0;
      station2 = number_in row 1;
      source = number_in row 2;
      mjd = number_in row 3;
      ms = number_in row 4;
      step = number_in row 5;
      samples = number_in row 6;
      tolerance = number_in row 7;
    }

-- ---- each field in its range

pub record InStation (r : Station) : Type 0 where
  pub id : Holds id_number r.id
  pub x : Holds coordinate r.x
  pub y : Holds coordinate r.y
  pub z : Holds coordinate r.z

pub record InSource (r : Source) : Type 0 where
  pub id : Holds id_number r.id
  pub right_ascension : Holds right_ascension_rule r.right_ascension
  pub declination : Holds declination r.declination

pub record InDay (r : Day) : Type 0 where
  pub mjd : Holds mjd r.mjd
  pub x : Holds pole r.x
  pub y : Holds pole r.y
  pub ut1_utc : Holds ut1utc r.ut1_utc
  pub tai_utc : Holds taiutc r.tai_utc
  pub mark : Holds mark r.mark

pub record InPass (r : Pass) : Type 0 where
  pub station1 : Holds id_number r.station1
  pub station2 : Holds id_number r.station2
  pub source : Holds id_number r.source
  pub mjd : Holds mjd r.mjd
  pub ms : Holds millisecond r.ms
  pub step : Holds step r.step
  pub samples : Holds samples r.samples
  pub tolerance : Holds tolerance r.tolerance
