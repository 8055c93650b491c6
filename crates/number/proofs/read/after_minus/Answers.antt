use Rattle.std.proofs.Common.{arith}
use Rattle.std.proofs.lemmas.List.{take_rest}
use Rattle.std.proofs.lemmas.Bool.Decides.{nat_tests}
use Rattle.number.proofs.read.after_minus.Goals as goal

pub returns-in-45 : goal.returns-in-45
returns-in-45 c = rw take_rest (grind (arith, nat_tests))
