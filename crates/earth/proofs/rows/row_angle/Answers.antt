-- `earth::rows::row_angle` meets its contract: after each column the sum is that of the products so far, wrapped once.
use Rattle.std.proofs.Common.{◌≡◌, ℕ, ◌+◌, ◌%◌, ◌^◌, ◌≤◌, List, ℤ, pos, ◌+ℤ◌, ◌*ℤ◌, sym, refl, ap, ◌∙◌, arith, w64, to_z, of_z}
use lib.IntN.{+ℤ_idl}
use Rattle.whole.specs.Whole.{∣◌∣, mod_z}
use Rattle.whole.proofs.Linear.{back, abs_fits}
use Rattle.whole.proofs.Rounding.{mod_add}
use Rattle.earth.specs.TideInUT1.{entry, row_angle_rule}
use Rattle.earth.proofs.Floors.{mod_sum}
use Rattle.earth.proofs.rows.row_angle.Goals as goal

-- a column more: z is the sum so far with no wrapping, and the column's entry is read back from its bits
column : (r : List ℤ) (k t sum next : ℕ) (z : ℤ) → ∣ entry r k ∣ ≤ 1000 → sum ≡ mod_z z (2 ^ 32) → next ≡ mod_z (pos sum +ℤ to_z w64 (of_z w64 (entry r k)) *ℤ pos t) (2 ^ 32) → next ≡ mod_z (z +ℤ entry r k *ℤ pos t) (2 ^ 32)
column r k t sum next z h s n =
    let more = entry r k *ℤ pos t in
    let read : to_z w64 (of_z w64 (entry r k)) ≡ entry r k = back (abs_fits (omega arith)) in
    n
    ∙ ap (λ (m : ℤ). mod_z (pos sum +ℤ m *ℤ pos t) (2 ^ 32)) read
    ∙ mod_add sum more (2 ^ 32) (omega arith)
    ∙ ap (λ (x : ℕ). (x + mod_z more (2 ^ 32)) % 2 ^ 32) s
    ∙ sym (mod_sum z more (2 ^ 32) (omega arith))

pub returns : goal.returns
unfolding row_angle_rule
returns c =
    let r = c.args.row in
    let a = c.args.a in
    let z1 = entry r 0 *ℤ pos a.l in
    let z2 = z1 +ℤ entry r 1 *ℤ pos a.lp in
    let z3 = z2 +ℤ entry r 2 *ℤ pos a.f in
    let z4 = z3 +ℤ entry r 3 *ℤ pos a.d in
    let l = column r 0 a.l 0 c.with_column-sum.result (pos 0) c.requires.l refl c.with_column-sum.ensures ∙ ap (λ (z : ℤ). mod_z z (2 ^ 32)) (+ℤ_idl z1) in
    let lp = column r 1 a.lp c.with_column-sum.result c.with_column-sum-2.result z1 c.requires.lp l c.with_column-sum-2.ensures in
    let f = column r 2 a.f c.with_column-sum-2.result c.with_column-sum-3.result z2 c.requires.f lp c.with_column-sum-3.ensures in
    let d = column r 3 a.d c.with_column-sum-3.result c.with_column-sum-4.result z3 c.requires.d f c.with_column-sum-4.ensures in
    column r 4 a.om c.with_column-sum-4.result c.with_column.result z4 c.requires.om d c.with_column.ensures
