-- `whole::long::within_by` meets its contract.
use Prim.Native.Nat.{◌^◌}
use lib.IntN.{pos}
use Rattle.whole.proofs.Linear.{back}
use Rattle.whole.proofs.Machine.{M, lit, var, ◌⊞◌, ◌⊟◌, ◌⊠◌, is}
use Rattle.whole.proofs.long.within_by.Goals as goal
use Rattle.whole.proofs.long.within_by.Goals.{Start}

module _ (s : Start) where
  abbrev sum : M
  sum = var s.args.a 9000000000000000 s.requires.0 ⊞ var s.args.p (2 ^ 56) s.requires.1

  abbrev scaled : M
  scaled = lit (pos 65536) ⊠ var s.args.s 131000000000 s.requires.2

pub returns : goal.returns
returns c =
    let s = (goal.at.returns c).Start in
    simp (c.size.ensures, c.size-2.ensures, is (sum s ⊟ scaled s) tt, back c.ranges.k)
