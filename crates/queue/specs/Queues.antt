-- What a queue pile holds. Assumes nothing.
use Rattle.std.specs.Prelude.{◌≡◌, ℕ, List, codes}
use Rattle.std.specs.Borrow.{MutBor}
use Rattle.block.specs.Kind.{blocks}
use Rattle.block.specs.Openings as block
use Rattle.block.specs.declared.writer.LineBlock.{LineBlock}
use Rattle.carrier.specs.Kinds.{Kind}
use Rattle.carrier.specs.Lents.{lent}
use Rattle.prefix.specs.Layers.{layered}
use Rattle.prefix.specs.Prefixes.{front}
use Rattle.prefix.specs.declared.layer.Prefixed.{Prefixed}

abbrev pub queue : Kind
queue = layered (lent blocks)

-- the layer has the prefix `job-`, and the block below is opened on the memory
pub record Opened (m : MutBor (List ℕ)) (len : ℕ) (side : Prefixed LineBlock) : Type 0 where
  pub prefix : front side.prefix ≡ codes "job-"
  pub below : block.Opened m len side.below
