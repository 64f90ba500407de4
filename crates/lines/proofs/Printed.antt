-- Document 01, 'Numbers to meet', the track program: what it prints of any file of one station named twice, and of one that has 304 bytes. Assumes nothing.
use mathlib.Core.Path.{◌≡◌, refl, sym, ap, ◌∙◌}
use mathlib.Core.Bool.{true}
use mathlib.Core.List.{List, [], ◌∷◌}
use Prim.Native.Nat.{ℕ, zero, suc, ◌*◌, ◌/◌, ◌≤◌, ◌<◌}
use native.Mathlib.Omega.{arith}
use borrow.Author.Tests.{lt-ltb}
use lib.IntN.{ℤ, pos, ◌+ℤ◌, nat_abs}
use lib.ListN.{length, replicate, length-replicate}
use Rattle.whole.specs.Answers.{given}
use Rattle.whole.specs.Each.{all_below}
use Rattle.whole.specs.Values.{first_values}
use Rattle.whole.proofs.Each.{below_all}
use Rattle.whole.proofs.Tests.{and_yes}
use Rattle.whole.proofs.Values.{values_same}
use Rattle.earth.specs.Epoch.{later_of}
use Rattle.text.specs.Words.{bits_at}
use Rattle.sections.specs.Layouts.{places, no_layout, layout_in_rule, stands_in}
use Rattle.sections.specs.File.{refusal_of_rule, refusal_by, count_of_rule, field_at_rule, start_of, sections_right_rule, kind_right_rule, offset_right_rule, count_right_rule, length_right_rule, contents_right, record_byte_rule, field_right, record_right, section_right_rule, ranges_right, steps, step_right_rule, order_right_rule}
use Rattle.sections.specs.Rows.{row_of}
use Rattle.fields.specs.Records.{station_from_rule, source_from_rule, day_from_rule, pass_from_rule}
use Rattle.session.specs.Records.{station_of_rule, source_of, day_of_rule, pass_of_rule, place_by_rule}
use Rattle.session.proofs.Fields.{first-number}
use Rattle.session.proofs.Laws.{place_is, day-first, day-place}
use Rattle.text.specs.Bytes.{bytes_of, bytes_of_all}
use Rattle.delay.specs.Calls.{samples_of, sample_in, samples_number, all_there_rule, all_covered_rule}
use Rattle.delay.specs.Sessions.{has_id, covers, sample_epoch_rule}
use Rattle.delay.proofs.Theorems.{sample-same}
use Rattle.fit.specs.Greedy.{grow, longest, counts}
use Rattle.fit.specs.Rates.{low, upp, row_lo, row_hi, lo, hi, fit, off, bias, scaled, fit_of, tilted, lifted, rate_of_rule, offset_of}
use Rattle.track.specs.Segments.{Segment, flat}
use Rattle.track.specs.Made.{seg_of, segs_of, track_of}
use Rattle.track.specs.Answer.{in_range, written}
use Rattle.track.proofs.Answers.{always_enough}
use Rattle.fringe.specs.PassTrack.{pass_samples_rule, pass_outcome}
use Rattle.fringe.proofs.Passes.{samples_are}
use Rattle.text.specs.Decimal.{digits_by, digits_of, decimal}
use Rattle.text.specs.Table.{line_of, row_line, row_lines}
use Rattle.lines.specs.Text.{pass_line, outcome_text, pass_text_rule, pass_texts, session_text}
use Rattle.lines.specs.Printed.{OneStationTwice, smallest, in_whole}
use Rattle.lines.proofs.Passes.{number_by}

-- ---- three samples of 0 at tolerance 0: one segment, and its text

abbrev zeros : List ℤ
zeros = pos 0 ∷ pos 0 ∷ pos 0 ∷ []

abbrev three : Segment
three = record { first = 0; count = 3; offset = pos 0; rate = pos 0 }

zeros-track : track_of zeros 0 ≡ three ∷ []
unfolding grow longest counts low upp row_lo row_hi lo hi fit off bias scaled fit_of tilted lifted rate_of_rule offset_of seg_of segs_of track_of
zeros-track = refl

zeros_in : in_range zeros (pos 0) ≡ true
unfolding all_below in_range
zeros_in = refl

two_lines : (room : List ℤ) → outcome_text 0 (written (three ∷ []) room) ≡ in_whole
unfolding flat digits_by digits_of decimal line_of row_line row_lines pass_line outcome_text
two_lines room = refl

-- ---- the file

module _ (s : List ℕ) (o : OneStationTwice s) where
  some : (p n : ℕ) → count_of_rule s p ≡ suc n → 0 < count_of_rule s p
  some p n e = omega (arith, e)

  -- the record at the head of its place is found by its id
  there : (p : ℕ) (z : ℤ) → 0 < count_of_rule s p → z ≡ field_at_rule places s p 0 0 → has_id s p z ≡ true
  there p z l e = lt-ltb (place_by_rule s p z) (count_of_rule s p) (omega (arith, place_is s p z 0 l (sym e) (λ j m f. absurd (omega (arith, m))), l))

  -- the day behind the first is there, too
  next-there : (z : ℤ) → z ≡ field_at_rule places s 2 0 0 +ℤ pos 1 → has_id s 2 z ≡ true
  next-there z e =
      let l : 1 < count_of_rule s 2 = omega (arith, o.days) in
      lt-ltb (place_by_rule s 2 z) (count_of_rule s 2) (omega (arith, day-place s o.accepted z 1 l e, l))

  covered_at : (j : ℕ) → j < 3 → covers s (sample_epoch_rule (pass_of_rule s 0) j).day ≡ true
  unfolding covers
  covered_at j l =
      let e = o.on_first-day j l ∙ day-first s o.accepted 0 in
      and_yes (there 2 _ (some 2 1 o.days) e) (next-there _ (ap (λ (d : ℤ). d +ℤ pos 1) e))

  count_is : samples_of (pass_of_rule s 0) ≡ 3
  count_is = ap nat_abs o.samples

  covered : all_covered_rule s (pass_of_rule s 0) ≡ true
  unfolding all_covered_rule
  covered = below_all (samples_of (pass_of_rule s 0)) _ (λ j l. covered_at j (omega (arith, l, count_is)))

  named : all_there_rule s (pass_of_rule s 0).station1 (pass_of_rule s 0).station2 (pass_of_rule s 0).source ≡ true
  unfolding station_of_rule station_from_rule source_of source_from_rule
  named =
      let a = first-number s o.accepted 0 (omega arith) 0 in
      let b = first-number s o.accepted 1 (omega arith) 0 in
      and_yes (there 0 _ (some 0 0 o.stations) (o.first ∙ a))
      (and_yes (there 0 _ (some 0 0 o.stations) (o.second ∙ a)) (there 1 _ (some 1 0 o.sources) (o.source ∙ b)))

  clear : samples_number s 0 4096 ≡ 0
  clear = rw (named, covered) at (number_by s o.accepted 0 (some 3 0 o.passes))

  samples_zero : pass_samples_rule s 0 ≡ zeros
  unfolding first_values
  samples_zero =
      rw (samples_are s 0 clear, count_is)
      (values_same 3 (sample_in s (pass_of_rule s 0)) (λ (j : ℕ). pos 0) (λ j l. sample-same s (pass_of_rule s 0) j (o.first ∙ sym o.second)))

  pub prints_in_whole : session_text s ≡ in_whole
  unfolding given session_text pass_texts pass_text_rule pass_outcome
  prints_in_whole =
      let room = replicate (4 * 2048) (pos 0) in
      let d : 2048 ≤ length room / 4 = omega (arith, length-replicate (4 * 2048) (pos 0)) in
      rw (o.accepted, o.passes, clear, samples_zero, o.tolerance, always_enough zeros (pos 0) room zeros_in d, zeros-track) (two_lines room)

-- ---- one such file

smallest-accepted : refusal_of_rule smallest ≡ 0
unfolding bytes_of bytes_of_all bits_at places no_layout layout_in_rule stands_in start_of sections_right_rule kind_right_rule offset_right_rule count_right_rule length_right_rule contents_right record_byte_rule field_right record_right section_right_rule ranges_right steps step_right_rule order_right_rule refusal_by all_below
smallest-accepted = refl

smallest-long : length smallest ≡ 304
unfolding bytes_of bytes_of_all
smallest-long = refl

on_its_day : (j : ℕ) → j < 3 → (sample_epoch_rule (pass_of_rule smallest 0) j).day ≡ (day_of_rule smallest 0).mjd
unfolding bytes_of bytes_of_all bits_at places no_layout layout_in_rule record_byte_rule row_of first_values pass_of_rule pass_from_rule day_of_rule day_from_rule sample_epoch_rule later_of
on_its_day zero l = refl
on_its_day (suc zero) l = refl
on_its_day (suc (suc zero)) l = refl
on_its_day (suc (suc (suc j))) l = absurd (omega (arith, l))

smallest_is : OneStationTwice smallest
unfolding bytes_of bytes_of_all bits_at places no_layout layout_in_rule record_byte_rule row_of first_values station_of_rule station_from_rule source_of source_from_rule pass_of_rule pass_from_rule
smallest_is =
    record {
      accepted = smallest-accepted;
      stations = refl;
      sources = refl;
      days = refl;
      passes = refl;
      first = refl;
      second = refl;
      source = refl;
      samples = refl;
      tolerance = refl;
      on_first-day = on_its_day;
    }

-- what the program prints of it
pub smallest-printed : (length smallest ≡ 304) × (session_text smallest ≡ in_whole)
smallest-printed = (smallest-long, prints_in_whole smallest smallest_is)
