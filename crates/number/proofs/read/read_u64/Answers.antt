use Rattle.std.proofs.Common.{rules}
use Rattle.number.specs.Numbers.{number64}
use Rattle.number.proofs.read.read_u64.Goals as goal

pub returns : goal.returns
unfolding number64
returns c = search rules
