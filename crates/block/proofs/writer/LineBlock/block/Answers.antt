use Rattle.block.proofs.Writes.{left_by}
use Rattle.block.proofs.writer.LineBlock.block.Goals as goal

pub returns : goal.returns
returns c = left_by c.args.self.now.memory.now _ c.args.self.now.len _ c.front.ensures c.whole_lines.ensures
