-- `lines::put_pass` meets its contract. Assumes nothing.
use Rattle.std.proofs.Common.{◌≡◌, ◌≤◌, length, [], ◌∷◌, ◌++◌, ℕ, ℤ, subst, arith, Fits}
use Rattle.std.specs.Int.{w64}
use Rattle.whole.proofs.Linear.{back}
use Rattle.text.specs.Decimal.{digits_of, decimal}
use Rattle.text.specs.Put.{Put}
use Rattle.text.specs.Table.{line_of}
use Rattle.lines.specs.Text.{pass_line}
use Rattle.text.proofs.Digits.{at_most}
use Rattle.text.proofs.Puts.{put_then, put_long}
use Rattle.lines.proofs.put_pass.Goals as goal

index-few : (n : ℕ) → Fits w64 n → length (digits_of n) ≤ 20
index-few n f = at_most 19 n (omega (arith, f))

pub put_natural-space-requires : goal.put_natural-space-requires
put_natural-space-requires c = omega (arith, index-few c.args.pass c.ranges.pass, c.put_word-index.ensures.place, c.requires)

pub put_word-count-requires : goal.put_word-count-requires
put_word-count-requires c = omega (arith, index-few c.args.pass c.ranges.pass, c.put_word-index.ensures.place, c.put_natural-space.ensures.place, c.requires)

pub put_number-requires : goal.put_number-requires
put_number-requires c =
    omega (arith, index-few c.args.pass c.ranges.pass, c.put_word-index.ensures.place, c.put_natural-space.ensures.place, c.put_word-count.ensures.place, c.requires)

pub returns : goal.returns
unfolding pass_line line_of decimal
returns c =
    let w = c.put_word-index in
    let i = c.put_natural-space in
    let b = c.put_word-count in
    let n = c.put_number in
    let d = c.args.room.now in
    let k = index-few c.args.pass c.ranges.pass in
    let h1 : w.result ≤ length d = omega (arith, w.ensures.place, c.requires) in
    let l1 : length w.new.room ≡ length d = put_long w.ensures h1 in
    let h2 : i.result ≤ length w.new.room = omega (arith, w.ensures.place, i.ensures.place, k, c.requires) in
    let l2 : length i.new.room ≡ length w.new.room = put_long i.ensures h2 in
    let h3 : b.result ≤ length i.new.room = omega (arith, w.ensures.place, i.ensures.place, b.ensures.place, k, c.requires) in
    let q = subst (λ (z : ℤ). Put b.new.room b.result (decimal z ++ (10 ∷ [])) n.new.room n.result) (back c.ranges.segments) n.ensures.0 in
    let p = put_then w.ensures h1 (put_then (put_then i.ensures h2 b.ensures) (omega (arith, h3, l2)) q) in
    (p, omega (arith, w.ensures.place, i.ensures.place, b.ensures.place, n.ensures.1, k))
