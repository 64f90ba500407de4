-- How large P, G and a delay can be. Assumes nothing.
use Rattle.std.proofs.Common.{ℕ, ◌^◌, ◌≤◌, ℤ, pos, neg_ℤ, le_trans, arith, lit≤}
use Rattle.whole.specs.Whole.{∣◌∣, R}
use Rattle.whole.proofs.Linear.{pos_part-neg, neg_part-neg}
use Rattle.whole.proofs.Machine.{lit, var, ◌⊞◌, ◌⊟◌, ◌⊠◌, val, bounded}
use Rattle.whole.proofs.Rounding.{R_size}
use Rattle.sine.specs.Sine.{sine_of, cosine_of}
use Rattle.sine.proofs.Laws.{sine_size, cosine_size}
use Rattle.earth.proofs.Floors.{leaf}
use Rattle.fields.specs.Ranges.{Holds, pole}
use Rattle.fields.specs.Records.{InStation}
use Rattle.fields.specs.declared.Station.{Station}
use Rattle.fields.specs.declared.Source.{Source}
use Rattle.wave.specs.declared.plane.Baseline.{Baseline}
use Rattle.wave.specs.declared.plane.Turn.{Turn}
use Rattle.wave.specs.declared.values.Earth.{Earth}
use Rattle.wave.specs.Bounds.{Shifted}
use Rattle.wave.specs.Values.{InEarth, Short, Turned}
use Rattle.wave.specs.PlaneWave.{shift_of, shifted_of, hour_angle, tick_of, turn_of, equatorial, along_source, wave_of}
use Rattle.wave.specs.Delays.{baseline_of, angle_for_rule, delay_between}

pub equatorial_size : (b : Baseline) (h : ℕ) → Shifted b → ∣ equatorial b h ∣ ≤ 25600124114
unfolding equatorial
equatorial_size b h k =
    let m = var b.x 12800062057 k.x_size ⊠ var (cosine_of h) (2 ^ 30) (cosine_size h) ⊟ var b.y 12800062057 k.y_size ⊠ var (sine_of h) (2 ^ 30) (sine_size h) in
    R_size (val m) (2 ^ 30) 25600124114 (omega arith) (bounded m)

pub along_size : (b : Baseline) (h : ℕ) (d : Turn) → Shifted b → Turned d → ∣ along_source b h d ∣ ≤ 38400248228
unfolding along_source
along_size b h d k t =
    let m = var (equatorial b h) 25600124114 (equatorial_size b h k) ⊠ var d.cos (2 ^ 30) t.cos_size ⊞ var b.z 12800124114 k.z_size ⊠ var d.sin (2 ^ 30) t.sin_size in
    R_size (val m) (2 ^ 30) 38400248228 (omega arith) (bounded m)

-- "No delay is beyond 130,000,000,000 ps."
wave_size : (b : Baseline) (h : ℕ) (d : Turn) → Shifted b → Turned d → ∣ wave_of b h d ∣ ≤ 130000000000
unfolding wave_of
wave_size b h d k t =
    let g = along_source b h d in
    let m = var (neg_ℤ g) 38400248228 (omega (arith, along_size b h d k t, pos_part-neg g, neg_part-neg g)) ⊠ lit (pos 1000000000) in
    R_size (val m) 299792458 130000000000 (omega arith) (le_trans (bounded m) (lit≤ tt))

-- the pole shift is small, and so the baseline stays within its bounds
shift_size : (c p : ℤ) → ∣ c ∣ ≤ 12_800_000_000 → Holds pole p → ∣ shift_of c p ∣ ≤ 62057
unfolding shift_of
shift_size c p h k =
    let m = var c 12_800_000_000 h ⊠ leaf p k in
    let n = var (R (val m) 1000000) 12800000000 (R_size (val m) 1000000 12800000000 (omega arith) (bounded m)) ⊠ lit (pos 4848137) in
    R_size (val n) 1000000000000 62057 (omega arith) (le_trans (bounded n) (lit≤ tt))

pub shifted_size : (b : Baseline) (x y : ℤ) → Short b → Holds pole x → Holds pole y → Shifted (shifted_of b x y)
unfolding shifted_of
shifted_size b x y h p q =
    let zx = shift_size b.z x h.z_size p in
    let zy = shift_size b.z y h.z_size q in
    let xx = shift_size b.x x h.x_size p in
    let yy = shift_size b.y y h.y_size q in
    record {
      x_size = bounded (var b.x 12800000000 h.x_size ⊟ var (shift_of b.z x) 62057 zx);
      y_size = bounded (var b.y 12800000000 h.y_size ⊞ var (shift_of b.z y) 62057 zy);
      z_size = bounded (var b.z 12800000000 h.z_size ⊞ var (shift_of b.x x) 62057 xx ⊟ var (shift_of b.y y) 62057 yy);
    }

pub turn_size : (t : ℕ) → Turned (turn_of t)
unfolding turn_of
turn_size t = record { cos_size = cosine_size t; sin_size = sine_size t }

baseline_size : (p q : Station) → InStation p → InStation q → Short (baseline_of p q)
unfolding baseline_of
baseline_size p q h k =
    record {
      x_size = bounded (leaf q.x k.x ⊟ leaf p.x h.x);
      y_size = bounded (leaf q.y k.y ⊟ leaf p.y h.y);
      z_size = bounded (leaf q.z k.z ⊟ leaf p.z h.z);
    }

-- of two station records, any source record, and a pole within its range
pub between_size : (p q : Station) (r : Source) (e : Earth) → InStation p → InStation q → InEarth e → ∣ delay_between p q r e ∣ ≤ 130000000000
unfolding delay_between
between_size p q r e h k l =
    wave_size (shifted_of (baseline_of p q) e.x e.y) (hour_angle (angle_for_rule r e) (tick_of r.right_ascension)) (turn_of (tick_of r.declination))
    (shifted_size (baseline_of p q) e.x e.y (baseline_size p q h k) l.x l.y)
    (turn_size (tick_of r.declination))
