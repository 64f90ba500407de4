-- `wave::values::ut1_used` meets its contract.
use Rattle.std.proofs.Common.{◌≡◌, ◌≤◌, ℤ, ◌+ℤ◌, ◌-ℤ◌, sym, ap, ◌∙◌, le_trans, arith, lit≤}
use Rattle.whole.specs.Whole.{∣◌∣, line}
use Rattle.whole.proofs.Linear.{abs_sub, back}
use Rattle.whole.proofs.Machine.{M, var, ◌⊞◌, ◌⊟◌, val, bounded, ok, is}
use Rattle.fields.specs.Ranges.{Holds, millisecond}
use Rattle.fields.specs.declared.Day.{Day}
use Rattle.wave.specs.Bounds.{InRecord}
use Rattle.wave.specs.DayValues.{leap_of, ut1_line}
use Rattle.wave.proofs.DayLaws.{ms_lo, ms_hi, ut1r_unmarked, leap_size, ut1-line_size}
use Rattle.wave.proofs.values.ut1_used.Goals as goal

-- a record that holds UT1R: its field
held : (r : Day) → InRecord r → ∣ r.ut1_utc ∣ ≤ 902_723_000
held r h = rw (ut1r_unmarked r h.unmarked) at h.ut1_size

-- where the line starts
abbrev v0 : (r : Day) → InRecord r → M
v0 r h = var r.ut1_utc 902723000 (held r h)

-- and where it ends
abbrev v1 : (r0 r1 : Day) (l : ℤ) → InRecord r0 → InRecord r1 → l ≡ leap_of r0 r1 → M
v1 r0 r1 l h k e = var r1.ut1_utc 902723000 (held r1 k) ⊟ var l 99000000000 (rw e (leap_size r0 r1 h k))

line-is : (r0 r1 : Day) (l u v : ℤ) → InRecord r0 → InRecord r1 → l ≡ leap_of r0 r1 → v ≡ line r0.ut1_utc (r1.ut1_utc -ℤ l) u → v ≡ ut1_line r0 r1 u
unfolding ut1_line
line-is r0 r1 l u v h k e f = simp (e, sym (ut1r_unmarked r0 h.unmarked), sym (ut1r_unmarked r1 k.unmarked)) at f

abbrev used : (r0 r1 : Day) (u v t : ℤ) → InRecord r0 → InRecord r1 → Holds millisecond u → ∣ t ∣ ≤ 2723000 → v ≡ ut1_line r0 r1 u → M
used r0 r1 u v t h k m s e = var v 99902723000 (rw e (ut1-line_size r0 r1 u h k m)) ⊞ var t 2723000 s

pub overflow_sub-r1 : goal.overflow_sub-r1
overflow_sub-r1 c = ok (v1 c.args.r0 c.args.r1 c.leap.result c.requires.0 c.requires.1 c.leap.ensures) tt

pub line_at-requires : goal.line_at-requires
line_at-requires c =
    let a = v0 c.args.r0 c.requires.0 in
    let b = v1 c.args.r0 c.args.r1 c.leap.result c.requires.0 c.requires.1 c.leap.ensures in
    let h0 = bounded a in
    let h1 = bounded b in
    simp (is a tt, is b tt, back c.ranges.ms)
    record {
      v0_bound = (le_trans h0 (lit≤ tt), le_trans h1 (lit≤ tt), omega (arith, abs_sub (val b) (val a)));
      pos_bound = (ms_lo c.requires.2, ms_hi c.requires.2);
    }

line-there : (c : goal.After-line_at) → c.line_at.result ≡ ut1_line c.args.r0 c.args.r1 c.args.ms
line-there c =
    let k = c.leap.ensures in
    let e1 = is (v1 c.args.r0 c.args.r1 c.leap.result c.requires.0 c.requires.1 k) tt in
    let e = simp (is (v0 c.args.r0 c.requires.0) tt, e1, back c.ranges.ms) at c.line_at.ensures in
    line-is c.args.r0 c.args.r1 c.leap.result c.args.ms c.line_at.result c.requires.0 c.requires.1 k e

pub overflow_add-result : goal.overflow_add-result
overflow_add-result c = ok (used c.args.r0 c.args.r1 c.args.ms c.line_at.result c.args.tide c.requires.0 c.requires.1 c.requires.2 c.requires.3 (line-there c)) tt

pub returns : goal.returns
returns c =
    is (used c.args.r0 c.args.r1 c.args.ms c.line_at.result c.args.tide c.requires.0 c.requires.1 c.requires.2 c.requires.3 (line-there c)) tt
    ∙ ap (λ (z : ℤ). z +ℤ c.args.tide) (line-there c)
