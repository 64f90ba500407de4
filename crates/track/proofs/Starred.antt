-- Document 01, 'Numbers to meet': the starred cases of tracks hold, by computation; and no samples are refused.
use mathlib.Core.Path.{◌≡◌, refl}
use mathlib.Core.List.{[]}
use lib.IntN.{pos}
use Rattle.whole.specs.Answers.{given}
use Rattle.whole.specs.Cases.{Hold}
use Rattle.fit.specs.Greedy.{grow, longest, counts}
use Rattle.fit.specs.Rates.{low, upp, row_lo, row_hi, lo, hi, fit, off, bias, scaled, fit_of, tilted, lifted, rate_of_rule, offset_of}
use Rattle.track.specs.Segments.{flat}
use Rattle.track.specs.Made.{seg_of, segs_of, track_of}
use Rattle.whole.specs.Each.{all_below}
use Rattle.track.specs.Answer.{in_range, refused, track_number, outcome}
use Rattle.track.specs.Starred.{eleven, track_answer, track_cases}
use Rattle.track.proofs.Answers.{answer_2}

pub tracks_hold : Hold track_answer track_cases
unfolding track_cases grow longest counts low upp row_lo row_hi lo hi fit off bias scaled fit_of tilted lifted rate_of_rule offset_of seg_of segs_of track_of flat all_below in_range given track_number outcome
tracks_hold = refl

-- "No samples: 2."
pub none-refused : outcome [] (pos 0) eleven ≡ refused 2 eleven
unfolding all_below in_range
none-refused = answer_2 [] (pos 0) eleven refl
