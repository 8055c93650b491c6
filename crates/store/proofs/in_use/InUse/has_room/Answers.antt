use Rattle.std.proofs.Common.{arith}
use Rattle.store.proofs.InUses.{used-is, bounds-agree}
use Rattle.store.proofs.in_use.InUse.has_room.Goals as goal

pub overflow_sub-result : goal.overflow_sub-result
overflow_sub-result g c = omega (arith, used-is c.args.self.now)

pub returns : goal.returns
returns g c = let used = used-is c.args.self.now in let within = c.args.self.now.within in bounds-agree _ _ _ _ (λ h. omega arith) (λ h. omega arith)
