use Rattle.std.proofs.Common.{ℕ, ◌+◌, List, [], length, Less, Equal, Greater, inl, sym, refl, ap, ◌∙◌, subst, arith}
use Rattle.store.specs.Tags.{Tag, flat}
use Rattle.store.specs.Walks.{left}
use Rattle.store.proofs.Laying.{length-tags_in}
use Rattle.store.proofs.Orders.{compared}
use Rattle.store.proofs.Seeking.{Sought, sought_along, sought_more, sought_found, sought_before, sought_end, flat_first}
use Rattle.store.proofs.memory.seek.seek.Goals as goal

pub loop-index-preserved : goal.loop-index-preserved
loop-index-preserved c =
    let steps = c.in-Some.ensures.steps in
    let t : Tag = (c.in-Some.own.now, c.in-Some.value.now) in
    let rest : List Tag = left c.next.new.self.iter in
    let turn = sought_along c.args.key.now _ _ _ c.args.from _ _ c.loop-index.at steps.0 (sym steps.1) c.loop-index.invariant.2 in
    let more = sought_more c.args.key.now (left c.args.tags) t rest c.args.from c.in-Some.index c.loop-index.at turn (compared c.in-Some.own.now c.args.key.now Less (sym c.in-Less.is ∙ c.cmp.ensures)) in
    let size = flat_first t rest in (
      (tt, tt, inl (omega (arith, steps.2, ap length steps.0, c.loop-index.invariant.3, c.requires.few))),
      tt,
      subst (λ (n : ℕ). Sought c.args.key.now (left c.args.tags) rest c.args.from c.next.new.self.count (c.loop-index.at + n)) (sym c.bytes-at.ensures)
          (sought_along c.args.key.now _ rest rest c.args.from _ _ _ refl (omega (arith, steps.1, steps.2)) more),
      omega (arith, steps.2, ap length steps.0, c.loop-index.invariant.3),
      omega (arith, ap (λ ts. length (flat ts)) steps.0, c.loop-index.invariant.4, size),
    )

pub returns-in-Equal : goal.returns-in-Equal
returns-in-Equal c =
    let steps = c.in-Some.ensures.steps in
    let turn = sought_along c.args.key.now _ _ _ c.args.from _ _ c.loop-index.at steps.0 (sym steps.1) c.loop-index.invariant.2 in
    sought_found c.args.key.now _ _ _ c.args.from _ c.loop-index.at turn (compared c.in-Some.own.now c.args.key.now Equal (sym c.in-Equal.is ∙ c.cmp.ensures))

pub returns-in-Greater : goal.returns-in-Greater
returns-in-Greater c =
    let steps = c.in-Some.ensures.steps in
    let turn = sought_along c.args.key.now _ _ _ c.args.from _ _ c.loop-index.at steps.0 (sym steps.1) c.loop-index.invariant.2 in
    sought_before c.args.key.now _ _ _ c.args.from _ c.loop-index.at turn (compared c.in-Some.own.now c.args.key.now Greater (sym c.in-Greater.is ∙ c.cmp.ensures))

pub returns : goal.returns
returns c =
    let steps = c.in-None.ensures.steps in
    let count = ap length steps.0.0 in
    sought_end c.args.key.now (left c.args.tags) c.args.from _ c.loop-index.at
    (sought_along c.args.key.now _ _ [] c.args.from _ _ c.loop-index.at steps.0.0 (omega (arith, count, c.loop-index.invariant.3, length-tags_in c.args.tags.spans.now c.args.tags.text.now)) c.loop-index.invariant.2)
