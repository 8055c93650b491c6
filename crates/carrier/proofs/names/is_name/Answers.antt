use Rattle.std.proofs.Common.{arith}
use Rattle.std.proofs.lemmas.Bool.Decides.{nat_tests}
use Rattle.carrier.specs.Names.{is_name}
use Rattle.carrier.proofs.names.is_name.Goals as goal

pub returns-then-name-le-MAX_NAME : goal.returns-then-name-le-MAX_NAME
unfolding is_name
returns-then-name-le-MAX_NAME c = grind (arith, nat_tests)

pub returns-else-name-le-MAX_NAME : goal.returns-else-name-le-MAX_NAME
unfolding is_name
returns-else-name-le-MAX_NAME c = grind (arith, nat_tests)
