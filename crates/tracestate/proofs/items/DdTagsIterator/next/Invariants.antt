use Rattle.std.proofs.Common.{◌≡◌, length}
use Rattle.text.specs.Cursors.{left}
use Rattle.tracestate.specs.Items.{tags_left}
use Rattle.tracestate.proofs.items.DdTagsIterator.next.Given as goal

abbrev pub invariant-loop-piece : goal.invariant-loop-piece
invariant-loop-piece l = tags_left l.self ≡ tags_left l.initial.self

abbrev pub decreases-loop-piece : goal.decreases-loop-piece
decreases-loop-piece l = length (left l.self.pieces)
