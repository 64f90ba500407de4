-- THE THEOREMS of demand 3, of every result that the promise of `track` allows: the rule decides, and what is written has the fewest segments of all tracks.
use mathlib.Core.Path.{◌≡◌, refl, sym, ap, subst, ◌∙◌}
use mathlib.Core.Bool.{Bool, true, false}
use mathlib.Core.List.{List}
use mathlib.Core.Logic.{⊎_elim}
use Prim.Native.Nat.{ℕ, ◌/◌, ◌≤◌, ◌<◌}
use native.Mathlib.Omega.{arith}
use lib.ListN.{length}
use lib.IntN.{ℤ, pos}
use Rattle.whole.specs.Whole.{pos_part}
use Rattle.whole.specs.declared.Number.{Number}
use Rattle.fit.proofs.Tests.{lt_or}
use Rattle.track.specs.Segments.{Segment}
use Rattle.track.specs.Made.{track_of}
use Rattle.track.specs.Answer.{in_range, Outcome, refused}
use Rattle.track.specs.Promises.{TrackPromise}
use Rattle.track.specs.Fewest.{Decides, RuleDecides, FewestOfAll}
use Rattle.track.proofs.Ranged.{ranged}
use Rattle.track.proofs.Answers.{answer_2, answer_8, answer_0, eight_exactly}
use Rattle.track.proofs.Theorems.{track_of-track, track_of-fewest, rule_exactly}

module _ (s : List ℤ) (t : ℤ) (room : List ℤ) (r : Number) (after : List ℤ) (p : TrackPromise s t room r after) where
  -- the list that the code makes decides, if the call is in range
  made_decides : in_range s t ≡ true → Decides (track_of s (pos_part t)) room r after
  made_decides h = record {
    written_if = λ l. p ∙ answer_0 s t room h l;
    refused_if = λ l. p ∙ answer_8 s t room h l;
    eight_exactly = (
      (λ e. (eight_exactly s t room h).0 (sym (ap (λ (o : Outcome). o.answer.refusal) p) ∙ e) (track_of s (pos_part t)) (track_of-track s (pos_part t) (ranged s t h).small (ranged s t h).tol)),
      (λ l. ap (λ (o : Outcome). o.answer.refusal) (p ∙ answer_8 s t room h l)),
    );
  }

  -- where samples and tolerance are in range, every list that the rule allows is what is written, and 8 is given exactly if it does not fit the room
  pub rule_decides : in_range s t ≡ true → RuleDecides s t room r after
  rule_decides h xs k = subst (λ (ys : List Segment). Decides ys room r after) (sym ((rule_exactly s (pos_part t) (ranged s t h).small (ranged s t h).tol xs).0 k)) (made_decides h)

  -- a number other than 0
  not_0 : (n : ℕ) → 0 < n → ◌≡◌ {A = Outcome} (record { answer = r; room = after }) (refused n room) → r.refusal ≡ pos 0 → FewestOfAll s t room r after
  not_0 n l q e = absurd (let z : pos 0 ≡ pos n = sym e ∙ ap (λ (o : Outcome). o.answer.refusal) q in let y : 0 ≡ n = cc in omega arith)

  all_written : in_range s t ≡ true → length (track_of s (pos_part t)) ≤ length room / 4 → FewestOfAll s t room r after
  all_written h l = let q = p ∙ answer_0 s t room h l in record {
    segments = track_of s (pos_part t);
    fits = l;
    room_after = ap (λ (o : Outcome). o.room) q;
    value = ap (λ (o : Outcome). o.answer.value) q;
    is_track = track_of-track s (pos_part t) (ranged s t h).small (ranged s t h).tol;
    fewest = track_of-fewest s (pos_part t) (ranged s t h).small (ranged s t h).tol;
  }

  -- where the refusal is 0, the room starts with a track of the samples that has the fewest segments of all
  pub fewest_of_all : r.refusal ≡ pos 0 → FewestOfAll s t room r after
  fewest_of_all e = go (in_range s t) refl
    where
      go : (b : Bool) → b ≡ in_range s t → FewestOfAll s t room r after
      go true h = ⊎_elim (λ l. not_0 8 (omega arith) (p ∙ answer_8 s t room (sym h) l) e) (λ l. all_written (sym h) l) (lt_or (length room / 4) (length (track_of s (pos_part t))))
      go false h = not_0 2 (omega arith) (p ∙ answer_2 s t room (sym h)) e
