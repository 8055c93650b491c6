use Rattle.number.proofs.Printed.{as_printed}
use Rattle.number.proofs.laws.decimals_are_printed.Goals as goal

pub returns : goal.returns
returns c = as_printed
