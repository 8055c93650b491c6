use Rattle.std.proofs.Common.{rules}
use Rattle.number.specs.Numbers.{decimal_text}
use Rattle.number.proofs.write.decimals.decimal_u64.Goals as goal

pub returns : goal.returns
unfolding decimal_text
returns c = search rules
