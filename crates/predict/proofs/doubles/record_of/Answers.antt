use Rattle.std.proofs.Common.{pos}
use lib.Ieee as Ieee
use lib.Ieee.{binary64, of_bits, of_int}
use Rattle.whole.proofs.Linear.{back}
use Rattle.whole.proofs.Machine.{var, lit, ◌⊠◌, is}
use Rattle.predict.specs.Host.{record_of_rule}
use Rattle.predict.proofs.doubles.record_of.Goals as goal

pub returns : goal.returns
unfolding record_of_rule of_bits of_int
returns c =
    let cycles = is (var c.args.ps 131_000_000_000 c.requires ⊠ lit (pos 32)) tt in
    λ i. record {
      seconds = Ieee.div binary64 (of_int binary64 (back c.ranges.ps i)) (of_int binary64 (pos 1_000_000_000_000));
      cycles = Ieee.div binary64 (of_int binary64 (cycles i)) (of_int binary64 (pos 1_000_000));
    }
