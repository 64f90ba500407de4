-- Document 02, L2: the tracks of all passes of a session, each behind the last, as single calls in turn give them.
use Rattle.std.specs.Prelude.{ℕ, zero, suc, ◌*◌, ◌-◌, List, [], ◌∷◌, ◌++◌, ℤ, pos, take, drop, replicate, Result, Ok, Err}
use Rattle.whole.specs.Whole.{pos_part, ∣◌∣}
use Rattle.whole.specs.Answers.{given}
use Rattle.whole.specs.declared.refusal.Refusal.{Refusal}
use Rattle.whole.specs.Refusals.{first_of, number_of}
use Rattle.sections.specs.File.{refusal_of_rule, count_of_rule}
use Rattle.fringe.specs.PassTrack.{pass_outcome}
use Rattle.fringe.specs.declared.Tracks.{Tracks}

-- what calls in turn give: the number of the first that is refused, 0 for none; how many segments each wrote; and the room after them
pub record Turns : Type 0 where
  pub refusal : ℕ
  pub counts : List ℤ
  pub room : List ℤ

-- m passes from pass i on: pass i is asked for with this room, and the others with what its segments leave of it
unfoldable pub in_turn : List ℕ → ℕ → ℕ → List ℤ → Turns
in_turn s zero i room = record { refusal = 0; counts = []; room = room }
in_turn s (suc m) i room =
    let o = pass_outcome s i room in
    let used = 4 * pos_part o.answer.value in
    let others = in_turn s m (suc i) (drop used o.room) in
    record {
      refusal = first_of (∣ o.answer.refusal ∣ ∷ others.refusal ∷ []);
      counts = o.answer.value ∷ others.counts;
      room = take used o.room ++ others.room;
    }

-- the file's own number, or else that of the first pass that is refused
unfoldable pub all_number : List ℕ → List ℤ → ℕ
all_number s room = first_of (refusal_of_rule s ∷ (in_turn s (count_of_rule s 3) 0 room).refusal ∷ [])

-- the answer, with the room after the call
pub record AllOutcome : Type 0 where
  pub answer : Tracks
  pub room : List ℤ

-- 64 counts: of the passes, and 0 beyond the last
abbrev pub tracks : ℕ → List ℤ → Tracks
tracks passes counts = record { refusal = pos 0; counts = counts ++ replicate (64 - passes) (pos 0) }

abbrev pub no_tracks_rule : ℕ → Tracks
no_tracks_rule n = record { refusal = pos n; counts = replicate 64 (pos 0) }

-- what is answered for a result
abbrev pub tracks_in : Result (List ℤ) Refusal → Tracks
tracks_in (Ok counts) = record { refusal = pos 0; counts = counts }
tracks_in (Err r) = no_tracks_rule (number_of r)

-- the same, where the counts stand in places that are lent
abbrev pub tracks_by : {A : Type 0} → Result A Refusal → List ℤ → Tracks
tracks_by (Ok a) counts = record { refusal = pos 0; counts = counts }
tracks_by (Err r) counts = no_tracks_rule (number_of r)

-- refused, the call leaves the room as it was
unfoldable pub all_outcome : List ℕ → List ℤ → AllOutcome
all_outcome s room =
    let all = in_turn s (count_of_rule s 3) 0 room in
    given (all_number s room) (record { answer = tracks (count_of_rule s 3) all.counts; room = all.room }) (λ n. record { answer = no_tracks_rule n; room = room })
