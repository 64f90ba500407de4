use Rattle.std.proofs.Common.{rules, ◌≡◌, ◌∙◌, ◌/◌, length}
use Rattle.whole.specs.Each.{all_below}
use Rattle.predict.specs.Lent.{lent_at, range_ok_rule}
use Rattle.judge.proofs.Answers.{ranges_each}
use Rattle.judge.proofs.ranges.ranges_ok.Goals as goal

pub returns : goal.returns
returns c =
    let s = c.args.track.now in
    let each : c.all_pass.result ≡ all_below (length s / 4) (λ i. range_ok_rule (lent_at s i)) = search rules in
    each ∙ ranges_each s
