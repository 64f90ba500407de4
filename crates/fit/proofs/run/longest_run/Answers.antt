-- `longest_run` meets its contract.
use Rattle.std.proofs.Common.{◌≡◌, ◌+◌, ◌-◌, ◌*◌, ◌≤◌, List, ℕ, ℤ, refl, sym, ap, ◌∙◌, arith}
use Rattle.fit.specs.declared.chain.Chain.{Chain}
use Rattle.fit.specs.Line.{Small}
use Rattle.fit.specs.Rates.{scaled, tilt, fit_of, hi, mirror}
use Rattle.fit.specs.Chains.{Asked}
use Rattle.fit.proofs.Halves.{Half, Next, paired, safe_ask, safe_add, asked, added}
use Rattle.fit.proofs.Lines.{bound, fits-two}
use Rattle.fit.proofs.Mirror.{mirror_bound, hi_mirror, lo_top}
use Rattle.fit.proofs.Steps.{lo_none, fit_yes, fit_no, grow_yes, grow_no, grow-end}
use Rattle.fit.proofs.run.longest_run.Goals as goal

turned : (g : ℕ → ℕ) (w i a : ℕ) → a ≡ g i → tilt - 2 * w - a ≡ mirror g w tilt i
unfolding mirror
turned g w i a e = ap (λ (z : ℕ). tilt - 2 * w - z) e

module _ (s : List ℤ) (t : ℕ) (h : Small s) (k : t ≤ 1_000_000) where
  -- the samples' bounds, and those of the samples turned over
  lim : (i : ℕ) → scaled s i + 2 * (65536 * t) ≤ tilt
  lim = bound s t h k

  mlim : (i : ℕ) → mirror (scaled s) (65536 * t) tilt i + 2 * (65536 * t) ≤ tilt
  mlim = mirror_bound (scaled s) (65536 * t) tilt lim

  value : (i r : ℕ) → r ≡ scaled s i → r + 2 * (65536 * t) ≤ tilt
  value i r e = omega (arith, e, lim i)

  module _ (f c r : ℕ) (e : r ≡ scaled s (f + c)) where
    -- the next sample's tilted values
    height : (tilt + 1) * c + r ≡ (tilt + 1) * c + scaled s (f + c)
    height = ap (λ (z : ℕ). (tilt + 1) * c + z) e

    turned_height : (tilt + 1) * c + tilt - 2 * (65536 * t) - r ≡ (tilt + 1) * c + mirror (scaled s) (65536 * t) tilt (f + c)
    turned_height = omega (arith, value (f + c) r e, turned (scaled s) (65536 * t) (f + c) r e)

    -- the chains once it is asked of them
    module _ (a b : Chain) (l p : ℕ) (es : (b.places ≡ a.places) × (b.values ≡ a.values) × (b.froms ≡ a.froms)) (et : b.tail ≡ a.tail) where
      plain_next : Half (scaled s) (65536 * t) f a c l → Asked tilt a.places a.values a.froms a.head a.tail c ((tilt + 1) * c + r) (2 * (65536 * t)) l b.head p
          → Next (scaled s) (65536 * t) f b c p
      plain_next i n = asked (scaled s) (65536 * t) f lim a b c l ((tilt + 1) * c + r) p es et i height n

      turned_next : Half (mirror (scaled s) (65536 * t) tilt) (65536 * t) f a c l
          → Asked tilt a.places a.values a.froms a.head a.tail c ((tilt + 1) * c + tilt - 2 * (65536 * t) - r) (2 * (65536 * t)) l b.head p
          → Next (mirror (scaled s) (65536 * t) tilt) (65536 * t) f b c p
      turned_next i n = asked (mirror (scaled s) (65536 * t) tilt) (65536 * t) f mlim a b c l ((tilt + 1) * c + tilt - 2 * (65536 * t) - r) p es et i turned_height n

  -- the greatest rate, and that neither rate is above twice the tilt
  high : (f c p : ℕ) (a : Chain) → Next (mirror (scaled s) (65536 * t) tilt) (65536 * t) f a c p → (2 * tilt - p ≡ hi (scaled s) (65536 * t) tilt f (c + 1)) × (p ≤ 2 * tilt)
  high f c p a n = (
    omega (arith, n.rate, hi_mirror (scaled s) (65536 * t) tilt lim f (c + 1)),
    omega (arith, n.rate, lo_top (mirror (scaled s) (65536 * t) tilt) (65536 * t) tilt mlim f (c + 1)),
  )

  low : (f c p : ℕ) (a : Chain) → Next (scaled s) (65536 * t) f a c p → p ≤ 2 * tilt
  low f c p a n = omega (arith, n.rate, lo_top (scaled s) (65536 * t) tilt lim f (c + 1))

pub returns-then-most-lt2 : goal.returns-then-most-lt2
returns-then-most-lt2 c =
    let y = c.args in
    let x = y.samples in
    (sym (grow-end (fit_of x.values.now x.tolerance) y.first y.most 1 (omega (arith, c.if-most-lt2.true))), lo_none (scaled x.values.now) (65536 * x.tolerance) tilt y.first)

pub overflow_add-b : goal.overflow_add-b
overflow_add-b c =
    let y = c.args in
    let v = value y.samples.values.now y.samples.tolerance y.samples.small y.samples.near in
    record { fits = omega (arith, v y.first c.scaled_at-a.result c.scaled_at-a.ensures, v (y.first + 1) c.scaled_at-b.result c.scaled_at-b.ensures) }

pub pair-least-requires : goal.pair-least-requires
pair-least-requires c =
    let y = c.args in
    let v = value y.samples.values.now y.samples.tolerance y.samples.small y.samples.near in
    omega (arith, v y.first c.scaled_at-a.result c.scaled_at-a.ensures, v (y.first + 1) c.scaled_at-b.result c.scaled_at-b.ensures)

pub overflow_sub-slack-2 : goal.overflow_sub-slack-2
overflow_sub-slack-2 c =
    let y = c.args in
    let v = value y.samples.values.now y.samples.tolerance y.samples.small y.samples.near in
    omega (arith, v y.first c.scaled_at-a.result c.scaled_at-a.ensures)

pub overflow_sub-slack-4 : goal.overflow_sub-slack-4
overflow_sub-slack-4 c =
    let y = c.args in
    let v = value y.samples.values.now y.samples.tolerance y.samples.small y.samples.near in
    omega (arith, v (y.first + 1) c.scaled_at-b.result c.scaled_at-b.ensures)

pub pair-turned_least-requires : goal.pair-turned_least-requires
pair-turned_least-requires c =
    let y = c.args in
    let v = value y.samples.values.now y.samples.tolerance y.samples.small y.samples.near in
    omega (arith, v y.first c.scaled_at-a.result c.scaled_at-a.ensures, v (y.first + 1) c.scaled_at-b.result c.scaled_at-b.ensures)

pub loop-c-init : goal.loop-c-init
loop-c-init c =
    let y = c.args in
    let x = y.samples in
    let s = x.values.now in
    let t = x.tolerance in
    let g = scaled s in
    let w = 65536 * t in
    let v = value s t x.small x.near in
    let p = c.pair-least in
    let q = c.pair-turned_least in
    record {
      runs = grow_yes (fit_of s t) y.first y.most 1 (omega (arith, c.if-most-lt2.false)) (fits-two s t x.small x.near y.first);
      plain = paired g w y.first (lim s t x.small x.near) p.new.self _ _ _ p.result p.ensures.0 p.ensures.1 p.ensures.2 refl c.scaled_at-a.ensures (omega (arith, c.scaled_at-b.ensures));
      turned = paired (mirror g w tilt) w y.first (mlim s t x.small x.near) q.new.self _ _ _ q.result q.ensures.0 q.ensures.1 q.ensures.2 refl
          (turned g w y.first c.scaled_at-a.result c.scaled_at-a.ensures)
          (omega (arith, v (y.first + 1) c.scaled_at-b.result c.scaled_at-b.ensures, turned g w (y.first + 1) c.scaled_at-b.result c.scaled_at-b.ensures));
    }

pub overflow_add-height : goal.overflow_add-height
overflow_add-height c =
    let y = c.args in
    let x = y.samples in
    record { fits = omega (arith, value x.values.now x.tolerance x.small x.near (y.first + c.loop-c.c) c.scaled_at-s.result c.scaled_at-s.ensures, c.requires, c.loop-c-test.true) }

pub overflow_sub-turned_height-in-loop-c : goal.overflow_sub-turned_height-in-loop-c
overflow_sub-turned_height-in-loop-c c =
    let y = c.args in
    let x = y.samples in
    omega (arith, value x.values.now x.tolerance x.small x.near (y.first + c.loop-c.c) c.scaled_at-s.result c.scaled_at-s.ensures)

pub ask-p-requires : goal.ask-p-requires
ask-p-requires c =
    let y = c.args in
    let x = y.samples in
    let k = c.loop-c in
    safe_ask (scaled x.values.now) (65536 * x.tolerance) y.first (lim x.values.now x.tolerance x.small x.near) k.plain k.c k.least _ k.invariant.plain
    (height x.values.now x.tolerance x.small x.near y.first k.c c.scaled_at-s.result c.scaled_at-s.ensures)

pub ask-r-requires : goal.ask-r-requires
ask-r-requires c =
    let y = c.args in
    let x = y.samples in
    let k = c.loop-c in
    safe_ask (mirror (scaled x.values.now) (65536 * x.tolerance) tilt) (65536 * x.tolerance) y.first (mlim x.values.now x.tolerance x.small x.near) k.turned k.c k.turned_least _ k.invariant.turned
    (turned_height x.values.now x.tolerance x.small x.near y.first k.c c.scaled_at-s.result c.scaled_at-s.ensures)

pub overflow_add-p : goal.overflow_add-p
overflow_add-p c =
    let y = c.args in
    let x = y.samples in
    let k = c.loop-c in
    let p = c.ask-p in
    let r = c.ask-r in
    let na = plain_next x.values.now x.tolerance x.small x.near y.first k.c c.scaled_at-s.result c.scaled_at-s.ensures k.plain p.new.self k.least p.result p.ensures.0 p.ensures.1 k.invariant.plain p.ensures.3 in
    let nb = turned_next x.values.now x.tolerance x.small x.near y.first k.c c.scaled_at-s.result c.scaled_at-s.ensures k.turned r.new.self k.turned_least r.result r.ensures.0 r.ensures.1 k.invariant.turned r.ensures.3 in
    record { fits = omega (arith, (high x.values.now x.tolerance x.small x.near y.first k.c r.result r.new.self nb).1, low x.values.now x.tolerance x.small x.near y.first k.c p.result p.new.self na) }

pub returns-then-p-r : goal.returns-then-p-r
returns-then-p-r c =
    let y = c.args in
    let x = y.samples in
    let k = c.loop-c in
    let p = c.ask-p in
    let r = c.ask-r in
    let na = plain_next x.values.now x.tolerance x.small x.near y.first k.c c.scaled_at-s.result c.scaled_at-s.ensures k.plain p.new.self k.least p.result p.ensures.0 p.ensures.1 k.invariant.plain p.ensures.3 in
    let nb = turned_next x.values.now x.tolerance x.small x.near y.first k.c c.scaled_at-s.result c.scaled_at-s.ensures k.turned r.new.self k.turned_least r.result r.ensures.0 r.ensures.1 k.invariant.turned r.ensures.3 in
    let e = high x.values.now x.tolerance x.small x.near y.first k.c r.result r.new.self nb in (
      sym (grow_no (fit_of x.values.now x.tolerance) y.first y.most k.c c.loop-c-test.true (fit_no x.values.now x.tolerance y.first (k.c + 1) _ _ na.rate e.0 (omega (arith, c.if-p-r.true, e.1)))) ∙ k.invariant.runs,
      k.invariant.plain.rate,
    )

pub add-requires-clause-safe : goal.add-requires-clause-safe
add-requires-clause-safe c =
    let y = c.args in
    let x = y.samples in
    let k = c.loop-c in
    let p = c.ask-p in
    let na = plain_next x.values.now x.tolerance x.small x.near y.first k.c c.scaled_at-s.result c.scaled_at-s.ensures k.plain p.new.self k.least p.result p.ensures.0 p.ensures.1 k.invariant.plain p.ensures.3 in
    safe_add (scaled x.values.now) (65536 * x.tolerance) y.first (lim x.values.now x.tolerance x.small x.near) p.new.self k.c p.result _ na
    (height x.values.now x.tolerance x.small x.near y.first k.c c.scaled_at-s.result c.scaled_at-s.ensures)

pub add-requires-in-loop-c-clause-safe : goal.add-requires-in-loop-c-clause-safe
add-requires-in-loop-c-clause-safe c =
    let y = c.args in
    let x = y.samples in
    let k = c.loop-c in
    let r = c.ask-r in
    let nb = turned_next x.values.now x.tolerance x.small x.near y.first k.c c.scaled_at-s.result c.scaled_at-s.ensures k.turned r.new.self k.turned_least r.result r.ensures.0 r.ensures.1 k.invariant.turned r.ensures.3 in
    safe_add (mirror (scaled x.values.now) (65536 * x.tolerance) tilt) (65536 * x.tolerance) y.first (mlim x.values.now x.tolerance x.small x.near) r.new.self k.c r.result _ nb
    (turned_height x.values.now x.tolerance x.small x.near y.first k.c c.scaled_at-s.result c.scaled_at-s.ensures)

pub loop-c-preserved : goal.loop-c-preserved
loop-c-preserved c =
    let y = c.args in
    let x = y.samples in
    let k = c.loop-c in
    let p = c.ask-p in
    let r = c.ask-r in
    let na = plain_next x.values.now x.tolerance x.small x.near y.first k.c c.scaled_at-s.result c.scaled_at-s.ensures k.plain p.new.self k.least p.result p.ensures.0 p.ensures.1 k.invariant.plain p.ensures.3 in
    let nb = turned_next x.values.now x.tolerance x.small x.near y.first k.c c.scaled_at-s.result c.scaled_at-s.ensures k.turned r.new.self k.turned_least r.result r.ensures.0 r.ensures.1 k.invariant.turned r.ensures.3 in
    let e = high x.values.now x.tolerance x.small x.near y.first k.c r.result r.new.self nb in
    record {
      runs = grow_yes (fit_of x.values.now x.tolerance) y.first y.most k.c c.loop-c-test.true (fit_yes x.values.now x.tolerance y.first (k.c + 1) _ _ na.rate e.0 (omega (arith, c.if-p-r.false, e.1))) ∙ k.invariant.runs;
      plain = added (scaled x.values.now) (65536 * x.tolerance) y.first (lim x.values.now x.tolerance x.small x.near) p.new.self c.add.new.self k.c p.result _ na c.add.ensures.0 c.add.ensures.1
          (height x.values.now x.tolerance x.small x.near y.first k.c c.scaled_at-s.result c.scaled_at-s.ensures) c.add.ensures.2;
      turned = added (mirror (scaled x.values.now) (65536 * x.tolerance) tilt) (65536 * x.tolerance) y.first (mlim x.values.now x.tolerance x.small x.near) r.new.self c.add-in-loop-c.new.self k.c r.result _ nb
          c.add-in-loop-c.ensures.0 c.add-in-loop-c.ensures.1
          (turned_height x.values.now x.tolerance x.small x.near y.first k.c c.scaled_at-s.result c.scaled_at-s.ensures) c.add-in-loop-c.ensures.2;
    }

pub returns : goal.returns
returns c =
    let y = c.args in
    let x = y.samples in
    let k = c.loop-c in
    let e : k.c ≡ y.most = omega (arith, k.auto.c-end, c.loop-c-test.false) in
    (sym (grow-end (fit_of x.values.now x.tolerance) y.first y.most y.most (omega arith)) ∙ rw e at k.invariant.runs, rw e at k.invariant.plain.rate)
