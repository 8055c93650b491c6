use Rattle.std.proofs.Common.{◌-◌}
use Rattle.block.proofs.Sweeps.{Swept}
use Rattle.block.proofs.writer.LineBlock.drop_lines.Given as goal

abbrev pub invariant-loop-line : goal.invariant-loop-line
invariant-loop-line l = Swept l.name l.initial.memory l.memory l.end l.at l.kept

abbrev pub decreases-loop-line : goal.decreases-loop-line
decreases-loop-line l = l.end - l.at
