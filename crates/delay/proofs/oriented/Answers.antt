-- `delay::oriented` meets its contract.
use Rattle.std.proofs.Common.{sym, ◌∙◌}
use Rattle.std.proofs.lemmas.Result.{err_from_is_err_and}
use Rattle.whole.proofs.Linear.{back}
use Rattle.whole.proofs.Refusals.{first_one}
use Rattle.delay.proofs.Numbers.{orientation-first}
use Rattle.delay.proofs.Results.{stops, passed, orientation_is, orientation_refused}
use Rattle.delay.proofs.oriented.Goals as goal

pub returns-in_err-session : goal.returns-in_err-session
returns-in_err-session c =
    let f = c.args.file.now in
    let day = c.args.day in
    let ms = c.args.ms in
    let k = simp (back c.ranges.day, back c.ranges.ms) at c.epoch_ok.ensures in
    let p = err_from_is_err_and c.from_residual.result c.from_residual.ensures.1 in
    let n = rw k at c.in_err-session.ensures.number in
    rw (p.1, p.2) (orientation_refused f day ms _ (orientation-first f day ms ∙ stops _ _ _ n))

pub returns : goal.returns
returns c =
    let f = c.args.file.now in
    let day = c.args.day in
    let ms = c.args.ms in
    let k = simp (back c.ranges.day, back c.ranges.ms) at c.epoch_ok.ensures in
    let n = rw k at c.in_ok-session.ensures.number in
    let m = simp (back c.ranges.day, c.in_ok-session.ensures.session) at c.earth_in.ensures.number in
    let e = simp (back c.ranges.day, back c.ranges.ms, c.in_ok-session.ensures.session) at c.earth_in.ensures.earth in
    orientation_is f day ms c.earth_in.result (m ∙ sym (orientation-first f day ms ∙ passed _ _ n ∙ first_one _)) e
