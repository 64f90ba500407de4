-- The two round trips. The order, demand 2: what is written is read back, and what is accepted is what the writer makes.
-- First for any kinds that stand in their places, then of the calls.
use Rattle.std.specs.Prelude.{◌≡◌, ℕ, ◌≤◌, ◌<◌, List, length, get_or, take, ℤ, pos, nat_abs}
use Rattle.std.specs.Int.{w64}
use Rattle.std.proofs.Common.{SFits}
use Rattle.whole.specs.Answers.{number}
use Rattle.text.specs.Bytes.{pasted}
use Rattle.sections.specs.Layouts.{places}
use Rattle.sections.specs.File.{refusal_of_rule, kind_of}
use Rattle.session.specs.Records.{check_of}
use Rattle.writer.specs.declared.Kinds.{Kinds}
use Rattle.writer.specs.Writing.{kind_at, list_at, written_as_rule, room_as, written_of, room_after_rule}
use Rattle.writer.specs.Promises.{WriteAsPromise, WritePromise}
use Rattle.writer.specs.Handed.{rows_in, stations_in, sources_in, days_in, passes_in}

-- each is a number of 64 bits, as each of a slice of i64 is
abbrev pub Longs : List ℤ → Type 0
Longs zs = (k : ℕ) → SFits w64 (get_or zs k (pos 0))

-- the bytes that a call of `write_as` wrote, by its own answer
abbrev pub wrote_as : Kinds → List (List ℤ) → List ℕ → List ℕ
wrote_as k ls room = take (nat_abs (written_as_rule places k ls (length room)).value) (room_as places k ls room)

-- the reader accepts the file s, its kinds are k, and the records of each place are that place's list
pub record Keeps (k : Kinds) (ls : List (List ℤ)) (s : List ℕ) : Type 0 where
  pub accepted : refusal_of_rule s ≡ 0
  pub kind : (p : ℕ) → p < 4 → kind_of s p ≡ kind_at k p
  pub rows : (p : ℕ) → p < 4 → rows_in places s p ≡ list_at ls p

-- so does what `write_as` wrote, where it accepts the lists
abbrev pub ReadBackAs : Kinds → List (List ℤ) → List ℕ → Type 0
ReadBackAs k ls room = (written_as_rule places k ls (length room)).refusal ≡ pos 0 → Keeps k ls (wrote_as k ls room)

-- the kinds of a file's places
abbrev pub kinds_in : List ℕ → Kinds
kinds_in s = record { first = kind_of s 0; second = kind_of s 1; third = kind_of s 2; fourth = kind_of s 3 }

-- where the reader accepts the bytes s, `write_as` of their kinds and records answers their length and writes those bytes, in any room that is long enough
abbrev pub WrittenBackAs : List ℕ → Type 0
WrittenBackAs s =
    refusal_of_rule s ≡ 0 → (room : List ℕ) → length s ≤ length room
    → WriteAsPromise (kinds_in s) (rows_in places s 0) (rows_in places s 1) (rows_in places s 2) (rows_in places s 3) room (number (pos (length s))) (pasted room 0 s)

-- ---- the same of the calls `write`, `check`, `station_at`, `source_at`, `day_at` and `pass_at`

-- `check` accepts the file s and says that its days have this kind, and the records handed out of it are these lists
pub record Hands (kind : ℤ) (p q r t : List ℤ) (s : List ℕ) : Type 0 where
  pub accepted : (check_of s).refusal ≡ pos 0
  pub day-kind : (check_of s).day_kind ≡ kind
  pub stations : stations_in s ≡ p
  pub sources : sources_in s ≡ q
  pub days : days_in s ≡ r
  pub passes : passes_in s ≡ t

-- the bytes that a call of `write` wrote, by its own answer
abbrev pub wrote : ℤ → List ℤ → List ℤ → List ℤ → List ℤ → List ℕ → List ℕ
wrote kind p q r t room = take (nat_abs (written_of kind p q r t (length room)).value) (room_after_rule kind p q r t room)

-- so of what `write` wrote, where it accepts the kind and the lists
abbrev pub ReadBack : ℤ → List ℤ → List ℤ → List ℤ → List ℤ → List ℕ → Type 0
ReadBack kind p q r t room = (written_of kind p q r t (length room)).refusal ≡ pos 0 → Hands kind p q r t (wrote kind p q r t room)

-- where `check` accepts the bytes s, `write` of the kind of days and the records handed out answers their length and writes those bytes, in any room that is long enough
abbrev pub WrittenBack : List ℕ → Type 0
WrittenBack s =
    (check_of s).refusal ≡ pos 0 → (room : List ℕ) → length s ≤ length room
    → WritePromise (check_of s).day_kind (stations_in s) (sources_in s) (days_in s) (passes_in s) room (number (pos (length s))) (pasted room 0 s)
