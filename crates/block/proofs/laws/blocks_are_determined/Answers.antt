use Rattle.block.proofs.Runs.{machine_accepts}
use Rattle.block.proofs.Walks.{well_formed_is, well_formed_only}
use Rattle.block.proofs.laws.blocks_are_determined.Goals as goal

pub returns : goal.returns
returns c = record { is = well_formed_is; only = well_formed_only; machine = machine_accepts }
