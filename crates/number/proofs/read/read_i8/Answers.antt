use Rattle.std.proofs.Common.{rules}
use Rattle.number.specs.Numbers.{small}
use Rattle.number.proofs.read.read_i8.Goals as goal

pub returns-in_err-n-in-Some : goal.returns-in_err-n-in-Some
unfolding small
returns-in_err-n-in-Some c = search rules

pub returns-in_err-n-in-None : goal.returns-in_err-n-in-None
unfolding small
returns-in_err-n-in-None c = search rules

pub returns-then-n-le128 : goal.returns-then-n-le128
unfolding small
returns-then-n-le128 c = search rules

pub returns-else-n-le128 : goal.returns-else-n-le128
unfolding small
returns-else-n-le128 c = search rules

pub returns-then-n-le127 : goal.returns-then-n-le127
unfolding small
returns-then-n-le127 c = search rules

pub returns-else-n-le127 : goal.returns-else-n-le127
unfolding small
returns-else-n-le127 c = search rules
