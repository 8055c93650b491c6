use Rattle.std.proofs.Common.{arith}
use Rattle.std.proofs.lemmas.List.{take_rest}
use Rattle.std.proofs.lemmas.Bool.Decides.{nat_tests}
use Rattle.number.proofs.read.after_plus.Goals as goal

pub returns-in-43 : goal.returns-in-43
returns-in-43 c = rw take_rest (grind (arith, nat_tests))
