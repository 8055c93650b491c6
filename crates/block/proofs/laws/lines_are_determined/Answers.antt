use Rattle.block.proofs.Taking.{line_is, line_only}
use Rattle.block.proofs.Walks.{lines_are, lines_only}
use Rattle.block.proofs.laws.lines_are_determined.Goals as goal

pub returns : goal.returns
returns c = record { is = line_is; only = line_only; front = lines_are; only_front = lines_only }
