use Rattle.std.proofs.Common.{arith}
use Rattle.store.proofs.Holding.{bounds, empty_lies, kept}
use Rattle.store.proofs.Laying.{lies_back}
use Rattle.store.proofs.Sounds.{sound_empty}
use Rattle.store.specs.Contents.{empty}
use Rattle.store.specs.Stores.{held}
use Rattle.std.proofs.Common.{◌∙◌}
use Rattle.store.proofs.memory.Store.clear.Goals as goal

pub invariant_of-self : goal.invariant_of-self
invariant_of-self c =
    let b = bounds c.args.self.now in
    kept c.clear.new.self c.clear-2.new.self (empty_lies c.clear.new.self c.clear-2.new.self c.clear.ensures.items c.clear-2.ensures.items) (sound_empty _ _)
    (omega (arith, c.clear.ensures.room), omega (arith, c.clear-2.ensures.room))

pub returns : goal.returns
unfolding held
returns c =
    lies_back (empty_lies c.clear.new.self c.clear-2.new.self c.clear.ensures.items c.clear-2.ensures.items) ∙ (λ i. empty (c.clear.ensures.room i) (c.clear-2.ensures.room i))
