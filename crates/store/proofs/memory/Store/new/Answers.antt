use Rattle.std.proofs.Common.{◌∙◌, arith}
use Rattle.store.proofs.Holding.{empty_lies, kept}
use Rattle.store.proofs.Laying.{lies_back}
use Rattle.store.proofs.Sounds.{sound_empty}
use Rattle.store.specs.Contents.{empty}
use Rattle.store.specs.Stores.{held}
use Rattle.store.proofs.memory.Store.new.Goals as goal

pub invariant_of-result : goal.invariant_of-result
invariant_of-result c =
    kept c.new.result c.new-2.result (empty_lies c.new.result c.new-2.result c.new.ensures.items c.new-2.ensures.items) (sound_empty _ _)
    (omega (arith, c.new.ensures.room), omega (arith, c.new-2.ensures.room))

pub returns : goal.returns
unfolding held
returns c =
    lies_back (empty_lies c.new.result c.new-2.result c.new.ensures.items c.new-2.ensures.items) ∙ (λ i. empty (c.new.ensures.room i) (c.new-2.ensures.room i))
