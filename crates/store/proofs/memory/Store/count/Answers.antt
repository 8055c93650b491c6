use Rattle.std.proofs.Common.{length, sym, ap, ◌∙◌}
use Rattle.store.proofs.Holding.{held_count}
use Rattle.store.proofs.Rules.{held_orderly}
use Rattle.store.proofs.memory.Store.count.Goals as goal

pub returns-clause-value : goal.returns-clause-value
returns-clause-value c = ap length c.as_slice.ensures ∙ sym (held_count c.args.self.now)

pub returns-clause-orderly : goal.returns-clause-orderly
returns-clause-orderly c = held_orderly c.args.self.now
