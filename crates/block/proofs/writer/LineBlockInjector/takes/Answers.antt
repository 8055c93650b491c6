use Rattle.std.proofs.Common.{min, ap, length, rules, length-take}
use Rattle.block.specs.Lines.{lines_of}
use Rattle.block.proofs.Roads.{text-within}
use Rattle.block.proofs.Writes.{without_shorter}
use Rattle.block.proofs.writer.LineBlockInjector.takes.Goals as goal

pub overflow_add-result-then-len-le-MAX_TEXT-2 : goal.overflow_add-result-then-len-le-MAX_TEXT-2
overflow_add-result-then-len-le-MAX_TEXT-2 c =
    let shorter = without_shorter c.args.name.now (lines_of c.front.result.now) in
    let within = text-within c.front.result.now in
    let front = ap length c.front.ensures in
    let most = length-take (min c.args.self.now.len 65536) c.args.self.now.memory.now in search rules
