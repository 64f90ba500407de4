-- `earth::asked` meets its contract.
use Rattle.std.proofs.Common.{◌≡◌, true, ◌&&◌, sym, ◌∙◌}
use Rattle.fields.specs.Ranges.{inside, mjd, millisecond}
use Rattle.whole.proofs.Linear.{back}
use Rattle.earth.specs.Calls.{epoch_inside}
use Rattle.earth.proofs.Ranges.{epoch_yes}
use Rattle.earth.proofs.asked.Goals as goal

pub returns-then-inside-3-clause-ok : goal.returns-then-inside-3-clause-ok
returns-then-inside-3-clause-ok c =
    let a = c.args in
    let d : inside mjd a.day ≡ true = sym (simp (back c.ranges.day) at c.inside.ensures) ∙ c.if-inside.true in
    let m : inside millisecond a.ms ≡ true = sym (simp (back c.ranges.ms) at c.inside-then-inside.ensures) ∙ c.if-inside-2.true in
    let k : inside a.range a.more ≡ true = sym (simp (back c.ranges.more) at c.inside-then-inside-2.ensures) ∙ c.if-inside-3.true in
    let e : epoch_inside a.range a.day a.ms a.more ≡ true = λ i. d i && (m i && k i) in
    let h = epoch_yes a.range a.day a.ms a.more e in
    ((λ i. record { day = back c.ranges.day i; ms = back c.ranges.ms i }), rw (back c.ranges.day) h.0, h.2, e)
