-- `text::decimal::put_number` meets its contract. Assumes nothing.
use Rattle.std.proofs.Common.{◌≡◌, ◌≤◌, length, ℤ, subst, arith}
use Rattle.text.specs.Decimal.{decimal}
use Rattle.text.specs.Put.{Put}
use Rattle.text.proofs.Puts.{put_one, put_then, put_long}
use Rattle.whole.proofs.Linear.{back}
use Rattle.text.proofs.decimal.put_number.Goals as goal

pub returns : goal.returns
returns c =
    let n = c.put_decimal-end in
    let d = c.args.room.now in
    let p = subst (λ (z : ℤ). Put d c.args.at (decimal z) n.new.room n.result) (back c.ranges.z) n.ensures.0 in
    let h : n.result ≤ length d = omega (arith, n.ensures.1, c.requires) in
    let l : length n.new.room ≡ length d = put_long p h in
    (put_then p h (put_one n.new.room n.result c.args.behind (omega (arith, n.ensures.1, c.requires))), omega (arith, n.ensures.1))
