use Rattle.store.proofs.Reading.{tags_are}
use Rattle.store.proofs.memory.Store.tags.Goals as goal

pub returns : goal.returns
returns c = tags_are c.args.self.now _ _ _ c.as_slice.ensures c.as_slice-text.ensures c.head-head.ensures
