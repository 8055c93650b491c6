use Rattle.std.proofs.Common.{arith}
use Rattle.store.proofs.Holding.{bounds}
use Rattle.store.proofs.Reading.{value-within, value-some}
use Rattle.store.proofs.memory.Store.get.Goals as goal

pub overflow_add-place : goal.overflow_add-place
overflow_add-place c =
    let s = c.args.self.now in
    let b = bounds s in
    omega (arith, value-within s c.args.key.now c.find-place.result c.find-place.ensures c.in_ok-own.own c.in_ok-own.was)

pub part-requires : goal.part-requires
part-requires c = omega (arith, value-within c.args.self.now c.args.key.now c.find-place.result c.find-place.ensures c.in_ok-own.own c.in_ok-own.was)

pub returns : goal.returns
returns c = value-some c.args.self.now c.args.key.now c.find-place.result c.find-place.ensures c.in_ok-own.own c.in_ok-own.was c.part.result.now c.part.ensures
