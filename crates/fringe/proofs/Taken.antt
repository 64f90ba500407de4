-- The samples of a pass as they are taken for its track; and that the promises of this crate allow one result. Assumes nothing.
use mathlib.Core.Path.{◌≡◌, sym, ap, ◌∙◌}
use mathlib.Core.List.{List}
use Prim.Native.Nat.{ℕ, ◌≤◌}
use lib.IntN.{ℤ}
use lib.ListN.{length, take, drop}
use lib.Seq.{take_at}
use Rattle.whole.specs.declared.Number.{Number}
use Rattle.whole.specs.Values.{first_values}
use Rattle.whole.proofs.Answers.{given_yes}
use Rattle.whole.proofs.Values.{values_long, room-length}
use Rattle.fields.specs.declared.Pass.{Pass}
use Rattle.delay.specs.Calls.{samples_of, sample_in}
use Rattle.delay.specs.Keeping.{room_by_rule}
use Rattle.track.specs.Answer.{Outcome}
use Rattle.fringe.specs.declared.Tracks.{Tracks}
use Rattle.fringe.specs.AllTracks.{AllOutcome}
use Rattle.fringe.specs.Promises.{PassTrackPromise, AllTracksPromise}

-- ---- where nothing is lacking they stand at the start of the room, which is as long as before
module _ (s : List ℕ) (p : Pass) (zs : List ℤ) (n : ℕ) (e : n ≡ 0) where
  pub room_start : take (samples_of p) (room_by_rule s p zs n) ≡ first_values (samples_of p) (sample_in s p)
  room_start =
      let k = samples_of p in
      ap (take k) (given_yes n _ (λ (m : ℕ). zs) e) ∙ take_at (first_values k (sample_in s p)) (drop k zs) k (values_long k (sample_in s p))

  pub room-long : samples_of p ≤ length zs → length (room_by_rule s p zs n) ≡ length zs
  room-long h = ap length (given_yes n _ (λ (m : ℕ). zs) e) ∙ room-length (samples_of p) (sample_in s p) zs h

-- ---- any two results that a promise allows are equal
pub one-pass-track : (s : List ℕ) (i : ℕ) (room : List ℤ) (r q : Number) (x y : List ℤ) → PassTrackPromise s i room r x → PassTrackPromise s i room q y → (r ≡ q) × (x ≡ y)
one-pass-track s i room r q x y f g = let e = f ∙ sym g in (ap (λ (o : Outcome). o.answer) e, ap (λ (o : Outcome). o.room) e)

pub one_all_tracks : (s : List ℕ) (room : List ℤ) (r q : Tracks) (x y : List ℤ) → AllTracksPromise s room r x → AllTracksPromise s room q y → (r ≡ q) × (x ≡ y)
one_all_tracks s room r q x y f g = let e = f ∙ sym g in (ap (λ (o : AllOutcome). o.answer) e, ap (λ (o : AllOutcome). o.room) e)
