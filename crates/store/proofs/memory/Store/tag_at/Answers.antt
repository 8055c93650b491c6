use Rattle.std.proofs.Common.{◌+◌, length, ap, arith}
use Rattle.store.specs.Layout.{total}
use Rattle.store.proofs.Holding.{bounds}
use Rattle.store.proofs.Reading.{tag_none, tag-some, tag-within, total-take}
use Rattle.store.proofs.memory.Store.tag_at.Goals as goal

pub returns-in_err-own : goal.returns-in_err-own
returns-in_err-own c =
    let past = c.in_err-own.ensures.lookup in
    rw c.from_residual.ensures (tag_none c.args.self.now c.args.i (omega (arith, past, ap length c.as_slice-spans.ensures)))

pub total_of-requires : goal.total_of-requires
total_of-requires c = let s = c.args.self.now in let b = bounds s in omega (arith, total-take, ap total c.as_slice-spans.ensures, s.laid)

pub overflow_add-at : goal.overflow_add-at
overflow_add-at c = let s = c.args.self.now in let b = bounds s in omega (arith, total-take, ap total c.as_slice-spans.ensures, s.laid)

pub part-requires : goal.part-requires
part-requires c =
    let found = c.in_ok-own.ensures.lookup in
    omega (arith, tag-within c.args.self.now _ c.as_slice-spans.ensures c.args.i found.3.0 c.in_ok-own.own.now found.1)

pub overflow_add-at-2 : goal.overflow_add-at-2
overflow_add-at-2 c =
    let s = c.args.self.now in
    let b = bounds s in
    let found = c.in_ok-own.ensures.lookup in
    omega (arith, total-take, ap total c.as_slice-spans.ensures, s.laid, tag-within s _ c.as_slice-spans.ensures c.args.i found.3.0 c.in_ok-own.own.now found.1)

pub part-requires-2 : goal.part-requires-2
part-requires-2 c =
    let found = c.in_ok-own.ensures.lookup in
    omega (arith, tag-within c.args.self.now _ c.as_slice-spans.ensures c.args.i found.3.0 c.in_ok-own.own.now found.1)

pub returns : goal.returns
returns c =
    let found = c.in_ok-own.ensures.lookup in
    tag-some c.args.self.now _ c.as_slice-spans.ensures c.args.i found.3.0 c.in_ok-own.own.now found.1 _ _ _ (λ j. c.head.ensures j + c.total_of.ensures j) c.part.ensures c.part-2.ensures
