use Rattle.std.proofs.Common.{length, ap, ◌∙◌, arith}
use Rattle.store.specs.Tags.{ascends, flat}
use Rattle.store.proofs.Holding.{held-sound, held_count, bounds}
use Rattle.store.proofs.Reading.{head_within}
use Rattle.store.proofs.Seeking.{spot_along}
use Rattle.store.proofs.memory.Store.find.Goals as goal

pub seek-requires-clause-few : goal.seek-requires-clause-few
seek-requires-clause-few c = let s = c.args.self.now in let b = bounds s in omega (arith, ap length c.tags.ensures, held_count s)

pub seek-requires-clause-small : goal.seek-requires-clause-small
seek-requires-clause-small c =
    let s = c.args.self.now in
    let b = bounds s in
    omega (arith, ap (λ ts. length (flat ts)) c.tags.ensures, c.head.ensures, head_within s)

pub seek-requires-clause-ascends : goal.seek-requires-clause-ascends
seek-requires-clause-ascends c = ap ascends c.tags.ensures ∙ (held-sound c.args.self.now).order

pub returns : goal.returns
returns c = spot_along c.args.key.now _ _ _ _ c.seek.result c.tags.ensures c.head.ensures c.seek.ensures
