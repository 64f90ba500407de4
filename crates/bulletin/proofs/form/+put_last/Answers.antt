-- `bulletin::form::put_last` meets its contract: p falls by one with each call, and the last digit stands behind those that the call put. Assumes nothing.
use mathlib.Core.Path.{◌≡◌, sym, subst}
use mathlib.Core.List.{List}
use Rattle.text.specs.Put.{Put}
use Rattle.text.proofs.Puts.{put_none, put_one, put_then}
use Rattle.bulletin.specs.Decimals.{last_digits}
use Rattle.bulletin.proofs.Printing.{last_long, last_less, last_none}
use native.Mathlib.Omega.{arith}
use Prim.Native.Nat.{ℕ, ◌+◌, ◌-◌, ◌/◌, ◌%◌, ◌≤◌, ◌<◌}
use lib.ListN.{length, set}
use Rattle.bulletin.proofs.form.+put_last.Goals as goal

-- the place behind the digits that the call put is in the room
inside : {at end : ℕ} (p n : ℕ) {room new : List ℕ} → Put room at (last_digits (p - 1) (n / 10)) new end → length new ≡ length room → at + p ≤ length room → (p ≡ 0 → ⊥) → end < length new
inside p n put long fit some = omega (arith, put.place, last_long (p - 1) (n / 10), long, fit, some)

pub returns-then-p-eq0 : goal.returns-then-p-eq0
returns-then-p-eq0 t c =
    let room = c.args.room.now in
    let at = c.args.at in
    subst (λ (bs : List ℕ). Put room at bs room at) (sym (last_none c.args.n c.args.p c.if-p-eq0.true)) (put_none room at)

pub bounds-room-end : goal.bounds-room-end
bounds-room-end t c = inside c.args.p c.args.n c.put_last-end.ensures c.put_last-end.auto.room c.requires c.if-p-eq0.false

pub overflow_add-result : goal.overflow_add-result
overflow_add-result t c = let h = inside c.args.p c.args.n c.put_last-end.ensures c.put_last-end.auto.room c.requires c.if-p-eq0.false in omega (arith, h, c.put_last-end.auto.room)

pub returns : goal.returns
returns t c =
    let h = inside c.args.p c.args.n c.put_last-end.ensures c.put_last-end.auto.room c.requires c.if-p-eq0.false in
    let d = 48 + c.args.n % 10 in
    let room = c.put_last-end.new.room in
    let end = c.put_last-end.result in
    subst (λ (bs : List ℕ). Put c.args.room.now c.args.at bs (set room end d) (end + 1)) (sym (last_less c.args.n c.args.p c.if-p-eq0.false))
    (put_then c.put_last-end.ensures (omega (arith, h, c.put_last-end.auto.room)) (put_one room end d h))
