-- The shape of a session file, as data. Document 01, 'Session file': the table of kinds. The contents table, the length, the ranges, the order, the fault and
-- the writer all go by a table of places; `places` is today's.
use Rattle.std.specs.Prelude.{ℕ, zero, suc, Bool, true, false, cond, List, [], ◌∷◌, ◌++◌, get_or, eqb}
use Rattle.fields.specs.declared.ranges.Range.{Range}
use Rattle.fields.specs.Ranges.{id_number, coordinate, right_ascension_rule, declination, mjd, pole, ut1utc, taiutc, mark, millisecond, step, samples, tolerance}

-- what the first fields of two neighbouring records keep: nothing, the later is the greater, or the later is the next number
abbrev pub free : ℕ
free = 0

abbrev pub rising : ℕ
rising = 1

abbrev pub consecutive : ℕ
consecutive = 2

-- a kind's records: their fields' ranges, the least and the greatest count, and their order
pub record Layout : Type 0 where
  pub kind : ℕ
  pub fields : List Range
  pub fewest : ℕ
  pub most : ℕ
  pub order : ℕ

-- ---- the kinds

-- "id, X, Y, Z"
abbrev pub station : Layout
station = record { kind = 1; fields = id_number ∷ coordinate ∷ coordinate ∷ coordinate ∷ []; fewest = 1; most = 64; order = rising }

-- "id, right ascension, declination"
abbrev pub source : Layout
source = record { kind = 2; fields = id_number ∷ right_ascension_rule ∷ declination ∷ []; fewest = 1; most = 256; order = rising }

-- "MJD, x, y, UT1-UTC, TAI-UTC"
abbrev pub orientation : Layout
orientation = record { kind = 3; fields = mjd ∷ pole ∷ pole ∷ ut1utc ∷ taiutc ∷ []; fewest = 2; most = 64; order = consecutive }

-- document 02, L4: as kind 3, with the mark for a sixth number
abbrev pub marked : Layout
marked =
    record { kind = 5; fields = orientation.fields ++ (mark ∷ []); fewest = orientation.fewest; most = orientation.most; order = orientation.order }

-- "station 1, station 2, source, MJD, u, step ms, samples, tolerance ps"
abbrev pub pass : Layout
pass = record { kind = 4; fields = id_number ∷ id_number ∷ id_number ∷ mjd ∷ millisecond ∷ step ∷ samples ∷ tolerance ∷ []; fewest = 1; most = 64; order = free }

-- what may stand in each place of a file
abbrev pub Table : Type 0
Table = List (List Layout)

-- the four places of document 01; document 02, L4, has a second kind of orientation record
unfoldable pub places : Table
places = (station ∷ []) ∷ (source ∷ []) ∷ (orientation ∷ marked ∷ []) ∷ (pass ∷ []) ∷ []

-- the table with a kind more in place p
unfoldable pub with_kind : Table → ℕ → Layout → Table
with_kind [] p l = []
with_kind (ls ∷ rest) zero l = (ls ++ (l ∷ [])) ∷ rest
with_kind (ls ∷ rest) (suc p) l = ls ∷ with_kind rest p l

-- ---- the layout of a kind

-- no layout: no record has it, and no count suits it
unfoldable pub no_layout : Layout
no_layout = record { kind = 0; fields = []; fewest = 1; most = 0; order = free }

-- of these layouts, the one of a kind
abbrev pub of_kind : List Layout → ℕ → Layout
of_kind [] k = no_layout
of_kind (l ∷ ls) k = cond (eqb k l.kind) l (of_kind ls k)

-- one of these layouts is of the kind
abbrev pub any_of_kind : List Layout → ℕ → Bool
any_of_kind [] k = false
any_of_kind (l ∷ ls) k = cond (eqb k l.kind) true (any_of_kind ls k)

-- the layouts that may stand in place p, the one of kind k among them, and whether there is one
abbrev pub layouts_in : Table → ℕ → List Layout
layouts_in t p = get_or t p []

unfoldable pub layout_in_rule : Table → ℕ → ℕ → Layout
layout_in_rule t p k = of_kind (layouts_in t p) k

unfoldable pub stands_in : Table → ℕ → ℕ → Bool
stands_in t p k = any_of_kind (layouts_in t p) k
