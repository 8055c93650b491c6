use Rattle.std.proofs.Common.{rules}
use Rattle.number.specs.Numbers.{mechanism}
use Rattle.number.proofs.read.read_mechanism.Goals as goal

pub returns-in_err-after_minus : goal.returns-in_err-after_minus
unfolding mechanism
returns-in_err-after_minus c = search rules

pub returns-in_err-n : goal.returns-in_err-n
unfolding mechanism
returns-in_err-n c = search rules

pub returns-then-n-le255 : goal.returns-then-n-le255
unfolding mechanism
returns-then-n-le255 c = search rules

pub returns-else-n-le255 : goal.returns-else-n-le255
unfolding mechanism
returns-else-n-le255 c = search rules
