use Rattle.std.proofs.Common.{arith}
use Rattle.std.proofs.lemmas.Bool.{le-leb}
use Rattle.store.specs.Contents.{after_remove}
use Rattle.store.specs.Stores.{held}
use Rattle.store.proofs.Changing.{removed_lies}
use Rattle.store.proofs.Cuts.{within}
use Rattle.store.proofs.Holding.{bounds, held-sound, kept}
use Rattle.store.proofs.Laying.{lies_back}
use Rattle.store.proofs.Sounds.{sound-without}
use Rattle.store.proofs.memory.Store.remove.Goals as goal

pub bytes-requires : goal.bytes-requires
bytes-requires c = let s = c.args.self.now in let b = bounds s in let w = within s c.args.key.now c.find-place.result c.find-place.ensures in omega arith

pub replace-requires-clause-within : goal.replace-requires-clause-within
replace-requires-clause-within c = let s = c.args.self.now in let w = within s c.args.key.now c.find-place.result c.find-place.ensures in omega arith

pub replace-requires-clause-fits : goal.replace-requires-clause-fits
replace-requires-clause-fits c = let b = bounds c.args.self.now in le-leb _ _ (omega arith)

pub replace-requires-2-clause-within : goal.replace-requires-2-clause-within
replace-requires-2-clause-within c = let s = c.args.self.now in let w = within s c.args.key.now c.find-place.result c.find-place.ensures in omega arith

pub replace-requires-2-clause-fits : goal.replace-requires-2-clause-fits
replace-requires-2-clause-fits c = let b = bounds c.args.self.now in le-leb _ _ (omega arith)

pub invariant_of-self : goal.invariant_of-self
unfolding after_remove
invariant_of-self c =
    let s = c.args.self.now in
    let b = bounds s in
    kept c.replace-2.new.self c.replace.new.self
    (removed_lies s c.args.key.now c.find-place.result c.find-place.ensures _ _ (omega arith) (omega arith) _ _ _ _ c.replace-2.ensures.room c.replace.ensures.room c.replace-2.ensures.items c.replace.ensures.items)
    (sound-without (held s) (held-sound s) c.args.key.now)
    (omega (arith, c.replace-2.ensures.room), omega (arith, c.replace.ensures.room))

pub returns : goal.returns
unfolding held
returns c =
    let s = c.args.self.now in
    lies_back (removed_lies s c.args.key.now c.find-place.result c.find-place.ensures _ _ (omega arith) (omega arith) _ _ _ _ c.replace-2.ensures.room c.replace.ensures.room c.replace-2.ensures.items c.replace.ensures.items)
