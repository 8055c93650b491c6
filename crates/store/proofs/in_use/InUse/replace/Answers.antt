use Rattle.std.proofs.Common.{arith}
use Rattle.std.proofs.lemmas.Bool.{leb-true}
use Rattle.store.specs.Uses.{in_use}
use Rattle.store.proofs.InUses.{used-is, replaced_in}
use Rattle.store.proofs.in_use.InUse.replace.Goals as goal

pub overflow_add-at : goal.overflow_add-at
overflow_add-at g c = omega (arith, used-is c.args.self.now, leb-true _ _ c.requires.fits)

pub copy_within-requires-clause-start_le_end : goal.copy_within-requires-clause-start_le_end
copy_within-requires-clause-start_le_end g c = omega (arith, used-is c.args.self.now, leb-true _ _ c.requires.fits)

pub copy_within-requires-clause-dest_in_bounds : goal.copy_within-requires-clause-dest_in_bounds
copy_within-requires-clause-dest_in_bounds g c = omega (arith, used-is c.args.self.now, c.args.self.now.within, leb-true _ _ c.requires.fits)

pub overflow_sub-self : goal.overflow_sub-self
overflow_sub-self g c = omega (arith, used-is c.args.self.now, leb-true _ _ c.requires.fits)

pub returns-clause-items : goal.returns-clause-items
unfolding in_use
returns-clause-items g c =
    let b = c.args.self.now in
    let used = used-is b in
    let within = b.within in
    let ok = b.memory.ok.0 in
    let fits = leb-true _ _ c.requires.fits in
    replaced_in b.memory.items c.args.new.now b.used c.args.at c.args.old _ (omega arith) (omega arith) (omega arith) (omega arith)
    c.copy_within.new.self.items _ _ _ _ (omega (arith, c.copy_within.ensures.len)) c.copy_within.ensures.items c.as_mut_slice-memory.ensures.value c.copy_from_slice.ensures.after
