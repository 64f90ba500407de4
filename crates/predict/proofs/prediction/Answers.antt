use Rattle.std.proofs.Common.{sym, ◌∙◌}
use Rattle.predict.proofs.Answers.{answer_sound, answer_malformed}
use Rattle.predict.proofs.prediction.Goals as goal

pub returns-then-not-sound : goal.returns-then-not-sound
returns-then-not-sound c = sym (answer_malformed c.args.track.now c.args.sample (sym c.sound.ensures ∙ c.if-not-sound.true))

pub returns : goal.returns
returns c =
    c.prediction_at.ensures ∙ sym (answer_sound c.args.track.now c.args.sample (sym c.sound.ensures ∙ c.if-not-sound.false))
