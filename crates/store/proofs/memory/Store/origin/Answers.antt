use Rattle.store.proofs.Reading.{origin_none, origin-some}
use Rattle.store.proofs.memory.Store.origin.Goals as goal

pub returns-in_err-len : goal.returns-in_err-len
returns-in_err-len c = rw c.from_residual.ensures (origin_none c.args.self.now c.in_err-len.was)

pub returns : goal.returns
returns c = origin-some c.args.self.now c.in_ok-len.len _ c.in_ok-len.was c.part.ensures
