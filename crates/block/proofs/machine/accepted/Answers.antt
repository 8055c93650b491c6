use Rattle.std.proofs.Common.{rules, tests, ◌∙◌}
use Rattle.block.specs.Machine.{step, start}
use Rattle.std.proofs.lemmas.Iterator.{YieldsList-from_slice}
use Rattle.block.proofs.Folding.{try_folded}
use Rattle.block.proofs.Runs.{run_is}
use Rattle.block.proofs.machine.accepted.Goals as goal

pub returns : goal.returns
returns c =
    let folded = try_folded _ (λ x. x.now) _ step tt (λ b x o q k. search (rules, tests)) c.iter.result c.try_fold.new.self start c.try_fold.result c.args.text.now c.try_fold.ensures.ran (YieldsList-from_slice c.args.text.now c.iter.ensures.rest) in
    let ran = folded ∙ run_is start c.args.text.now in
    rw (← ran) (search (rules, tests))
