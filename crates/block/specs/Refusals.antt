-- The number of a refusal. Assumes nothing.
use Rattle.std.specs.Prelude.{ℕ}
use Rattle.block.specs.declared.faults.OpenFault.{OpenFault}
use Rattle.block.specs.declared.faults.OpenFault.TheVariants.{Malformed}

abbrev pub number : OpenFault → ℕ
number Malformed = 13
