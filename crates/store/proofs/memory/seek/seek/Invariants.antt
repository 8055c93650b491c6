use Rattle.std.proofs.Common.{◌≡◌, ◌+◌, length}
use Rattle.store.specs.Tags.{flat}
use Rattle.store.specs.Walks.{left}
use Rattle.store.proofs.Seeking.{Sought}
use Rattle.store.proofs.memory.seek.seek.Given as goal

abbrev pub invariant-loop-index : goal.invariant-loop-index
invariant-loop-index l =
    (goal.iterator-loop-index).can_next l.index-iterator
    × (goal.iterator-loop-index).is_finite l.index-iterator
    × Sought l.key (left l.fn.tags) (left l.index-iterator.iter) l.from l.index-iterator.count l.at
    × (l.index-iterator.count + length (left l.index-iterator.iter) ≡ length (left l.fn.tags))
    × (l.at + length (flat (left l.index-iterator.iter)) ≡ l.from + length (flat (left l.fn.tags)))
