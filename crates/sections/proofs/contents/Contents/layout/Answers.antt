use native.Mathlib.Omega.{arith}
use Rattle.sections.proofs.Sound.{table_long}
use Rattle.sections.proofs.Shapes.{today}
use Rattle.sections.proofs.contents.Contents.layout.Goals as goal

pub layout_of-requires : goal.layout_of-requires
layout_of-requires c = (omega arith, omega (arith, table_long today c.args.self.file.now c.args.self.right c.args.p c.requires))
