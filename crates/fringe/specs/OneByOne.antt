-- What `all_tracks` is held to: the passes of a session asked for by single calls, each lent what the segments of those before it leave of the room.
use Rattle.std.specs.Prelude.{ℕ, zero, suc, ◌*◌, ◌≡◌, List, [], ◌∷◌, ◌++◌, map, ℤ, take, drop}
use Rattle.whole.specs.Whole.{pos_part, ∣◌∣}
use Rattle.whole.specs.Refusals.{first_of}
use Rattle.whole.specs.declared.Number.{Number}
use Rattle.sections.specs.File.{count_of_rule}
use Rattle.fringe.specs.declared.Tracks.{Tracks}
use Rattle.fringe.specs.AllTracks.{tracks, no_tracks_rule}
use Rattle.fringe.specs.Promises.{PassTrackPromise}

-- m calls of `pass_track`, from pass i on: the room that is lent, their answers, and the room after them
pub data Asked (s : List ℕ) : ℕ → ℕ → List ℤ → List Number → List ℤ → Type 0 where
  none : {i : ℕ} {room : List ℤ} → Asked s zero i room [] room
  next : {m i : ℕ} {room after last : List ℤ} {r : Number} {rs : List Number} → PassTrackPromise s i room r after → Asked s m (suc i) (drop (4 * pos_part r.value) after) rs last → Asked s (suc m) i room (r ∷ rs) (take (4 * pos_part r.value) after ++ last)

-- the first refusal among answers, 0 for none
abbrev pub first_refusal : List Number → ℕ
first_refusal rs = first_of (map (λ (r : Number). ∣ r.refusal ∣) rs)

-- one call answers as those do: their values are its counts, and the room is as they left it; where one of them is refused, so is it, and the room is as before
pub record AsAsked (s : List ℕ) (room : List ℤ) (rs : List Number) (last : List ℤ) (r : Tracks) (after : List ℤ) : Type 0 where
  pub all_answered : first_refusal rs ≡ 0 → (r ≡ tracks (count_of_rule s 3) (map (λ (x : Number). x.value) rs)) × (after ≡ last)
  pub one-refused : (first_refusal rs ≡ 0 → ⊥) → (r ≡ no_tracks_rule (first_refusal rs)) × (after ≡ room)
