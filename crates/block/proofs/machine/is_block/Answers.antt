use Rattle.std.proofs.Common.{arith}
use Rattle.std.proofs.lemmas.Bool.Decides.{nat_tests}
use Rattle.block.specs.Lines.{well_formed}
use Rattle.block.proofs.Runs.{accepted_is}
use Rattle.block.proofs.machine.is_block.Goals as goal

pub returns-then-text-le-MAX_BLOCK : goal.returns-then-text-le-MAX_BLOCK
unfolding well_formed
returns-then-text-le-MAX_BLOCK c = let e = accepted_is c.args.text.now in grind (arith, nat_tests)

pub returns-else-text-le-MAX_BLOCK : goal.returns-else-text-le-MAX_BLOCK
unfolding well_formed
returns-else-text-le-MAX_BLOCK c = grind (arith, nat_tests)
