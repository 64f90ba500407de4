use native.Mathlib.Omega.{arith}
use Rattle.sections.proofs.Sound.{table_long, counts-most}
use Rattle.sections.proofs.Shapes.{today}
use Rattle.sections.proofs.contents.Contents.count.Goals as goal

pub word_at-requires : goal.word_at-requires
word_at-requires c = omega (arith, table_long today c.args.self.file.now c.args.self.right c.args.p c.requires)

pub returns : goal.returns
returns c =
    (c.word_at.ensures, omega (arith, c.word_at.ensures, counts-most today c.args.self.file.now c.args.self.right c.args.p c.requires))
