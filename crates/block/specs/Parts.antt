-- What the types of the code hold. Assumes nothing.
use Rattle.carrier.specs.Lents.{Lent, in_memory}
use Rattle.block.specs.Blocks.{Block, read_block, own_block}
use Rattle.block.specs.declared.reader.LineReader.{LineReader}
use Rattle.block.specs.declared.writer.LineBlock.{LineBlock}

-- what a reading and a writing side hold
abbrev pub read_by : LineReader → Block
read_by r = read_block r.block.now

abbrev pub owned_by : LineBlock → Lent Block
owned_by b = in_memory b.memory.ghost_name (own_block b.memory.now b.len)
