use Rattle.std.proofs.Common.{◌≡◌, ◌++◌, ℕ, List, take}
use Rattle.std.proofs.lemmas.Iterator.{YieldsList}
use Rattle.statelist.specs.Choosing.{given, listed}
use Rattle.statelist.specs.Placing.{followed}
use Rattle.statelist.specs.Writing.{so_far}
use Rattle.statelist.specs.Written.{carried_pieces, passed}
use Rattle.statelist.proofs.writer.ListWriter.put_carried.Given as goal

-- the chain has the members left that the list still lacks
abbrev pub invariant-loop-member : goal.invariant-loop-member
invariant-loop-member l = record {
  same : l.self.work.ghost_name ≡ l.initial.self.work.ghost_name;
  left : List (List ℕ);
  gives : YieldsList (goal.iterator-loop-member).next_gives (λ m. m.now) l.member-iterator left;
  added : so_far l.self ++ followed left ≡ so_far l.initial.self ++ followed (take l.most (passed (given l.fn.passing) (carried_pieces (listed l.fn.passing))));
}
