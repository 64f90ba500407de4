-- What the code holds and what its inner functions give, said of bytes and plain numbers; laws show it to be what the file's definitions say.
use Rattle.std.specs.Prelude.{ℕ, zero, suc, ◌+◌, ◌*◌, Bool, not, List, ◌++◌, length, get_or, take, replicate, ℤ, Result, Ok, Err}
use Rattle.whole.specs.Each.{all_below}
use Rattle.text.specs.Words.{number_at_rule}
use Rattle.sections.specs.declared.layouts.Shape.{Shape}
use Rattle.sections.specs.declared.layouts.Order.{Order}
use Rattle.sections.specs.declared.layouts.Order.TheVariants.{Any, Rising, Consecutive}
use Rattle.fields.specs.declared.ranges.Range.{Range}
use Rattle.fields.specs.Ranges.{range, inside}
use Rattle.sections.specs.Layouts.{Layout, free, rising, consecutive}
use Rattle.whole.specs.Ranges.{eq_z}
use Rattle.sections.specs.File.{steps}

-- ---- a layout as the code holds it

-- an order by its number, and the number of an order
abbrev pub order_of : ℕ → Order
order_of zero = Any
order_of (suc zero) = Rising
order_of (suc (suc zero)) = Consecutive
order_of (suc (suc (suc n))) = Any

abbrev pub order_number : Order → ℕ
order_number Any = free
order_number Rising = rising
order_number Consecutive = consecutive

-- n ranges: those of rs, and none behind them
abbrev pub padded : ℕ → List Range → List Range
padded n rs = take n (rs ++ replicate n (range 0 0))

unfoldable pub shape_of : Layout → Shape
shape_of l = record { size = length l.fields; fewest = l.fewest; most = l.most; order = order_of l.order; fields = padded 8 l.fields }

-- ---- the loops over bytes

-- number k from byte at on lies in the k-th range
abbrev pub inside_by : List ℕ → ℕ → List Range → ℕ → Bool
inside_by s at fields k = inside (get_or fields k (range 0 0)) (number_at_rule s (at + 8 * k))

-- so do all of record i, of records of so many numbers from byte at on
abbrev pub fields_by : List ℕ → ℕ → ℕ → List Range → ℕ → Bool
fields_by s at size fields i = all_below size (inside_by s (at + 8 * (size * i)) fields)

-- the same of the records of a layout
abbrev pub record_by : List ℕ → ℕ → Shape → ℕ → Bool
record_by s at l i = fields_by s at l.size l.fields i

-- the first number of record i + 1 may stand behind that of record i
abbrev pub step_by : List ℕ → ℕ → ℕ → ℕ → ℕ → Bool
step_by s at size o i = steps o (number_at_rule s (at + 8 * (size * i))) (number_at_rule s (at + 8 * (size * (i + 1))))

-- the first number of record i is another than z
abbrev pub other_by : List ℕ → ℕ → ℕ → ℤ → ℕ → Bool
other_by s at size z i = not (eq_z (number_at_rule s (at + 8 * (size * i))) z)

-- ---- the walk over the contents table: the first wrong word, 14 where none is

abbrev pub word_in : {A : Type 0} → Result A ℕ → ℕ
word_in (Ok a) = 14
word_in (Err w) = w
