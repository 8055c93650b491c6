use Rattle.std.proofs.Common.{sym, rules}
use Rattle.block.proofs.Taking.{line-length, line-short}
use Rattle.block.specs.Lines.{line}
use Rattle.block.proofs.line.TakenLine.len.Goals as goal

pub overflow_add-result-2 : goal.overflow_add-result-2
overflow_add-result-2 c = let short = line-short _ _ c.args.self.now.is_lawful in search rules

pub returns : goal.returns
returns c = sym (line-length (line c.args.self.now.name.now c.args.self.now.value.now))
