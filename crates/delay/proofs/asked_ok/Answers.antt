-- `delay::asked_ok` meets its contract.
use Rattle.std.proofs.Common.{sym, ◌∙◌}
use Rattle.whole.proofs.Linear.{back, no_ft}
use Rattle.delay.proofs.asked_ok.Goals.{then-inside, else-inside, then-inside-2, else-inside-2}
use Rattle.delay.proofs.asked_ok.Goals as goal

pub returns-then-inside-3 : goal.returns-then-inside-3
returns-then-inside-3 c =
    let x = c.ranges in
    elim c.if-inside-2.branch [
      | then-inside-2 w ↦
          elim c.if-inside.branch [
            | then-inside v ↦
                rw (
                  sym (rw (back x.station1) at c.inside.ensures) ∙ v.if-inside.true,
                  sym (rw (back x.station2) at v.inside-then-inside.ensures) ∙ sym v.value-is ∙ w.if-inside-2.true,
                  sym (rw (back x.source) at w.inside-then-inside-2.ensures) ∙ sym w.value-is ∙ c.if-inside-3.true,
                )
                (simp (back x.day, back x.ms) at c.epoch_ok.ensures)
            | else-inside v ↦ no_ft (sym v.if-inside.false ∙ sym v.value-is ∙ w.if-inside-2.true)
          ]
      | else-inside-2 w ↦ no_ft (sym w.if-inside-2.false ∙ sym w.value-is ∙ c.if-inside-3.true)
    ]
