-- The number of a refusal, where several may apply. 0 says that none does. Document 01, 'Refusal numbers', gives the lowest that applies; a request may name
-- an order of its own, and then gives the first in that order.
use Rattle.std.specs.Prelude.{ℕ, zero, suc, min, Bool, true, false, List, [], ◌∷◌, Result, Ok, Err}
use Rattle.whole.specs.declared.refusal.Refusal.{Refusal}
use Rattle.whole.specs.declared.refusal.Refusal.TheVariants.{Contents, Range, Order, Days, Absent, Uncovered, Room, RoomForTrack, Malformed, Row, NoRow}

-- the number n where a condition fails
abbrev pub unless : Bool → ℕ → ℕ
unless true n = 0
unless false n = n

-- the lower of two
abbrev pub lower_of : ℕ → ℕ → ℕ
lower_of zero b = b
lower_of (suc a) zero = suc a
lower_of (suc a) (suc b) = min (suc a) (suc b)

-- the lowest that applies
abbrev pub lowest : List ℕ → ℕ
lowest [] = 0
lowest (n ∷ ns) = lower_of n (lowest ns)

-- the first in this order that applies
abbrev pub first_of : List ℕ → ℕ
first_of [] = 0
first_of (zero ∷ ns) = first_of ns
first_of (suc n ∷ ns) = suc n

-- ---- as an enum of the code

-- the number of each
abbrev pub number_of : Refusal → ℕ
number_of Contents = 1
number_of Range = 2
number_of Order = 3
number_of Days = 4
number_of Absent = 5
number_of Uncovered = 6
number_of Room = 7
number_of RoomForTrack = 8
number_of Malformed = 9
number_of Row = 10
number_of NoRow = 11

-- that of a result; 0 where nothing is refused
abbrev pub number_in : {A : Type 0} → Result A Refusal → ℕ
number_in (Ok a) = 0
number_in (Err r) = number_of r
