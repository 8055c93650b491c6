use Rattle.std.proofs.Common.{rules}
use Rattle.number.specs.Numbers.{hex_number}
use Rattle.number.proofs.OnlyText.{hex_number-bound}
use Rattle.number.proofs.read.read_hex.Goals as goal

pub returns-then-s-digits-clause-value : goal.returns-then-s-digits-clause-value
unfolding hex_number
returns-then-s-digits-clause-value c = search rules

pub returns-then-s-digits-clause-below : goal.returns-then-s-digits-clause-below
returns-then-s-digits-clause-below c = hex_number-bound c.args.digits c.args.s.now c.read_digits.result (returns-then-s-digits-clause-value c)

pub returns-else-s-digits-clause-value : goal.returns-else-s-digits-clause-value
unfolding hex_number
returns-else-s-digits-clause-value c = search rules
