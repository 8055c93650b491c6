use Rattle.std.proofs.Common.{rules}
use Rattle.number.specs.Numbers.{decimal_text, mechanism_text}
use Rattle.number.proofs.write.decimals.mechanism_text.Goals as goal

pub returns : goal.returns
unfolding mechanism_text decimal_text
returns c = search rules
