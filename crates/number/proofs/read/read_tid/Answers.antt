use Rattle.std.proofs.Common.{rules}
use Rattle.number.specs.Numbers.{tid}
use Rattle.number.proofs.read.read_tid.Goals as goal

pub returns-then-s-eq16 : goal.returns-then-s-eq16
unfolding tid
returns-then-s-eq16 c = search rules

pub returns-else-s-eq16 : goal.returns-else-s-eq16
unfolding tid
returns-else-s-eq16 c = search rules
