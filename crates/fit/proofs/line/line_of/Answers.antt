-- `line_of` meets its contract.
use Rattle.std.proofs.Common.{◌≡◌, ◌*◌, ◌≤◌, List, cond, ℕ, ℤ, sym, ap, ◌∙◌, subst, arith}
use lib.Dec.{eqb}
use lib.IntN.{sub_ℕ}
use Rattle.fit.specs.Rates.{scaled, tilt, lift, lo, hi, off, least, tilted, lifted, offset_of, rate_of_rule}
use Rattle.fit.proofs.Lines.{tilted-low, tilted_high, tilted-top, lifted-top}
use Rattle.fit.proofs.Steps.{back_sub}
use Rattle.fit.proofs.line.line_of.Goals as goal

-- the rate is the rule's, and so is the offset
rated : (s : List ℤ) (t f n l p : ℕ) → l ≡ least s t f n → p ≡ cond (eqb n 1) tilt l → p ≡ tilted s t f n
unfolding tilted
rated s t f n l p h e = e ∙ ap (λ (z : ℕ). cond (eqb n 1) tilt z) h

offs : (s : List ℤ) (t f n p a : ℕ) → p ≡ tilted s t f n → a ≡ off (scaled s) (65536 * t) tilt p f n → a ≡ lifted s t f n
unfolding lifted
offs s t f n p a h e = e ∙ ap (λ (z : ℕ). off (scaled s) (65536 * t) tilt z f n) h

pub offset_of-a-requires-clause-count_bound : goal.offset_of-a-requires-clause-count_bound
offset_of-a-requires-clause-count_bound c =
    let x = c.args in
    let q = c.requires in
    let r = rated x.samples.values.now x.samples.tolerance x.first x.run.count x.run.least c.rate_of-p.result q.fits.1 c.rate_of-p.ensures in (
      subst (λ (z : ℕ). lo (scaled x.samples.values.now) (65536 * x.samples.tolerance) tilt x.first x.run.count ≤ z) (sym r) (tilted-low x.samples.values.now x.samples.tolerance x.samples.small x.samples.near x.first x.run.count),
      subst (λ (z : ℕ). z ≤ hi (scaled x.samples.values.now) (65536 * x.samples.tolerance) tilt x.first x.run.count) (sym r) (tilted_high x.samples.values.now x.samples.tolerance x.samples.small x.samples.near x.first x.run.count q.fits.0),
    )

pub signed-requires : goal.signed-requires
signed-requires c =
    let x = c.args in
    let q = c.requires in
    let r = rated x.samples.values.now x.samples.tolerance x.first x.run.count x.run.least c.rate_of-p.result q.fits.1 c.rate_of-p.ensures in
    let o = offs x.samples.values.now x.samples.tolerance x.first x.run.count c.rate_of-p.result c.offset_of-a.result r c.offset_of-a.ensures in
    (subst (λ (z : ℕ). z ≤ 2 * tilt) (sym o) (lifted-top x.samples.values.now x.samples.tolerance x.samples.small x.samples.near x.first x.run.count q.le_count.0 q.fits.0), omega arith)

pub signed-requires-2 : goal.signed-requires-2
signed-requires-2 c =
    let x = c.args in
    let q = c.requires in
    let r = rated x.samples.values.now x.samples.tolerance x.first x.run.count x.run.least c.rate_of-p.result q.fits.1 c.rate_of-p.ensures in
    (subst (λ (z : ℕ). z ≤ 2 * tilt) (sym r) (tilted-top x.samples.values.now x.samples.tolerance x.samples.small x.samples.near x.first x.run.count q.fits.0), omega arith)

pub returns : goal.returns
unfolding offset_of rate_of_rule
returns c =
    let x = c.args in
    let q = c.requires in
    let r = rated x.samples.values.now x.samples.tolerance x.first x.run.count x.run.least c.rate_of-p.result q.fits.1 c.rate_of-p.ensures in
    let o = offs x.samples.values.now x.samples.tolerance x.first x.run.count c.rate_of-p.result c.offset_of-a.result r c.offset_of-a.ensures in (
      back_sub c.signed.result (lifted _ _ _ _) lift (c.signed.ensures ∙ ap (λ (z : ℕ). sub_ℕ z lift) o)
          (lifted-top x.samples.values.now x.samples.tolerance x.samples.small x.samples.near x.first x.run.count q.le_count.0 q.fits.0) (omega arith),
      back_sub c.signed-2.result (tilted _ _ _ _) tilt (c.signed-2.ensures ∙ ap (λ (z : ℕ). sub_ℕ z tilt) r)
          (tilted-top x.samples.values.now x.samples.tolerance x.samples.small x.samples.near x.first x.run.count q.fits.0) (omega arith),
    )
