use Rattle.std.proofs.Common.{arith}
use Rattle.store.proofs.Holding.{bounds}
use Rattle.store.proofs.memory.Store.head.Goals as goal

pub overflow_add-result : goal.overflow_add-result
overflow_add-result c = let s = c.args.self.now in let b = bounds s in omega (arith, s.laid)
