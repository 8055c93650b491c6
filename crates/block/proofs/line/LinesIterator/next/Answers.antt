use Rattle.std.proofs.Common.{sym, rules}
use Rattle.block.specs.Lines.{line}
use Rattle.block.proofs.Walks.{lines_none, lines_more}
use Rattle.block.proofs.line.LinesIterator.next.Goals as goal

pub returns-in_err-line-clause-steps : goal.returns-in_err-line-clause-steps
returns-in_err-line-clause-steps c = let none = lines_none c.args.self.now.0.now (sym c.in_err-line.ensures) in rw c.from_residual.ensures (none, none)

pub returns-clause-steps : goal.returns-clause-steps
returns-clause-steps c = lines_more _ (line _ _) _ (sym c.in_ok-line.ensures)

pub returns-clause-goes : goal.returns-clause-goes
returns-clause-goes c = let more = lines_more _ (line _ _) _ (sym c.in_ok-line.ensures) in search rules
