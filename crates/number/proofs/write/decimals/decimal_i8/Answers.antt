use Rattle.std.proofs.Common.{rules}
use Rattle.std.proofs.lemmas.Int.{to_z-of_z}
use Rattle.number.proofs.Printed.{small_printed}
use Rattle.number.proofs.write.decimals.decimal_i8.Goals as goal

pub returns : goal.returns
returns c = search (rules, small_printed c.args.n, to_z-of_z)
