use Rattle.store.proofs.Reading.{ot_none, ot-some}
use Rattle.store.proofs.memory.Store.ot.Goals as goal

pub returns-in_err-len : goal.returns-in_err-len
returns-in_err-len c = rw c.from_residual.ensures (ot_none c.args.self.now c.in_err-len.was)

pub returns : goal.returns
returns c = ot-some c.args.self.now c.in_ok-len.len _ _ c.in_ok-len.was c.unwrap_or.ensures c.part.ensures
