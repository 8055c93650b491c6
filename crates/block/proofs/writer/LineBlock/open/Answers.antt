use Rattle.std.proofs.Common.{rules, tests}
use Rattle.block.proofs.Writes.{opened_whole}
use Rattle.block.proofs.writer.LineBlock.open.Goals as goal

pub returns-clause-opened : goal.returns-clause-opened
returns-clause-opened c = let whole = opened_whole c.args.memory.now c.args.len in search (rules, tests)
