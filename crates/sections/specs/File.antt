-- Document 01, 'Session file' and 'Refusal numbers' 1 to 4: what a file of bytes says, and when it is refused, by a table t of what may stand in its places.
-- Places count from 0: stations 0, sources 1, orientation days 2, passes 3.
use Rattle.std.specs.Prelude.{ℕ, zero, suc, ◌+◌, ◌-◌, ◌*◌, Bool, ◌&&◌, List, [], ◌∷◌, length, get_or, ℤ, pos, ◌+ℤ◌, leb, eqb}
use Rattle.std.specs.Int.Signed.{lt_z}
use Rattle.whole.specs.Each.{all_below, implies}
use Rattle.whole.specs.Ranges.{eq_z}
use Rattle.whole.specs.Refusals.{unless, lowest}
use Rattle.text.specs.Words.{number_at_rule, word}
use Rattle.fields.specs.declared.ranges.Range.{Range}
use Rattle.fields.specs.Ranges.{range, inside}
use Rattle.sections.specs.Layouts.{Layout, Table, places, layout_in_rule, stands_in, rising, consecutive}

-- ---- the contents table: the number of sections; then of each place the kind, the first byte and the record count

abbrev pub sections_of : List ℕ → ℕ
sections_of s = word s 0

abbrev pub kind_of : List ℕ → ℕ → ℕ
kind_of s p = word s (3 * p + 1)

abbrev pub first_byte : List ℕ → ℕ → ℕ
first_byte s p = word s (3 * p + 2)

abbrev pub count_of_rule : List ℕ → ℕ → ℕ
count_of_rule s p = word s (3 * p + 3)

-- word j of the contents table lies in the file
abbrev pub present : List ℕ → ℕ → Bool
present s j = leb (8 * j + 8) (length s)

-- the first of the five conditions behind refusal 1: there are four sections
unfoldable pub sections_right_rule : List ℕ → Bool
sections_right_rule s = present s 0 && eqb (sections_of s) 4

-- n is at least low and at most high
abbrev pub between : ℕ → ℕ → ℕ → Bool
between low high n = leb low n && leb n high

-- the range of field k of a layout
abbrev pub range_of : Layout → ℕ → Range
range_of l k = get_or l.fields k (range 0 0)

-- b may stand behind a: where the order is to rise it is the greater, where it is to be consecutive the next number
unfoldable pub steps : ℕ → ℤ → ℤ → Bool
steps o a b = implies (eqb o rising) (lt_z a b) && implies (eqb o consecutive) (eq_z b (a +ℤ pos 1))

module _ (t : Table) (s : List ℕ) where
  -- the layout of the records in place p, and how many numbers a record has
  abbrev pub layout_of : ℕ → Layout
  layout_of p = layout_in_rule t p (kind_of s p)

  abbrev pub size_of : ℕ → ℕ
  size_of p = length (layout_of p).fields

  -- where place p's body starts, by the counts: the first at byte 104, each other where the one before it ends
  unfoldable pub start_of : ℕ → ℕ
  start_of zero = 104
  start_of (suc p) = start_of p + 8 * (size_of p * count_of_rule s p)

  -- ---- the other four

  -- of place p the kind, the first byte and the count
  unfoldable pub kind_right_rule : ℕ → Bool
  kind_right_rule p = present s (3 * p + 1) && stands_in t p (kind_of s p)

  unfoldable pub offset_right_rule : ℕ → Bool
  offset_right_rule p = present s (3 * p + 2) && eqb (first_byte s p) (start_of p)

  unfoldable pub count_right_rule : ℕ → Bool
  count_right_rule p = present s (3 * p + 3) && between (layout_of p).fewest (layout_of p).most (count_of_rule s p)

  -- the last body ends the file, which has at most 65,536 bytes
  unfoldable pub length_right_rule : Bool
  length_right_rule = leb (length s) 65536 && eqb (length s) (start_of 4)

  abbrev pub kinds_right : Bool
  kinds_right = all_below 4 kind_right_rule

  abbrev pub counts_right : Bool
  counts_right = all_below 4 count_right_rule

  abbrev pub offsets_right : Bool
  offsets_right = all_below 4 offset_right_rule

  -- refusal 1 says that this fails
  unfoldable pub contents_right : Bool
  contents_right = sections_right_rule s && (kinds_right && (counts_right && (offsets_right && length_right_rule)))

  -- ---- the records, and their fields' ranges

  -- the byte at which record i of place p starts, and its field k
  unfoldable pub record_byte_rule : ℕ → ℕ → ℕ
  record_byte_rule p i = first_byte s p + 8 * (size_of p * i)

  abbrev pub field_at_rule : ℕ → ℕ → ℕ → ℤ
  field_at_rule p i k = number_at_rule s (record_byte_rule p i + 8 * k)

  -- a field lies in its range, so do all of a record, of a section, and of the file
  unfoldable pub field_right : ℕ → ℕ → ℕ → Bool
  field_right p i k = inside (range_of (layout_of p) k) (field_at_rule p i k)

  unfoldable pub record_right : ℕ → ℕ → Bool
  record_right p i = all_below (size_of p) (field_right p i)

  unfoldable pub section_right_rule : ℕ → Bool
  section_right_rule p = all_below (count_of_rule s p) (record_right p)

  -- refusal 2 says that this fails
  unfoldable pub ranges_right : Bool
  ranges_right = all_below 4 section_right_rule

  -- ---- the order of ids and of days

  -- record i + 1 of place p may stand behind record i
  unfoldable pub step_right_rule : ℕ → ℕ → ℕ → Bool
  step_right_rule o p i = steps o (field_at_rule p i 0) (field_at_rule p (i + 1) 0)

  -- where place p is to keep the order o, its records keep it, each with the one before
  unfoldable pub order_right_rule : ℕ → ℕ → Bool
  order_right_rule o p = implies (eqb (layout_of p).order o) (all_below (count_of_rule s p - 1) (step_right_rule o p))

  -- refusal 3 says that this fails: each id is above the one before
  abbrev pub ids_right : Bool
  ids_right = all_below 4 (order_right_rule rising)

  -- and refusal 4 that this does: each day is the one after the day before
  abbrev pub days_right : Bool
  days_right = all_below 4 (order_right_rule consecutive)

  -- ---- the number of a file, 0 where it is accepted

  unfoldable pub refusal_by : ℕ
  refusal_by = lowest (unless contents_right 1 ∷ unless ranges_right 2 ∷ unless ids_right 3 ∷ unless days_right 4 ∷ [])

-- by today's table
abbrev pub refusal_of_rule : List ℕ → ℕ
refusal_of_rule s = refusal_by places s
