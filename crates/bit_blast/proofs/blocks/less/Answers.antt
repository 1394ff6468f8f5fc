use Rattle.std.proofs.Common.{arith}
use Rattle.bit_blast.proofs.BlockLoops.{less-end}
use Rattle.bit_blast.proofs.blocks.less.Goals as goal

pub returns : goal.returns
returns c = grind (arith, less-end)
