use Rattle.std.proofs.Common.{◌≡◌, ap, ◌∙◌, take, rules, tests}
use Rattle.std.proofs.lemmas.Iterator.{YieldsList-from_take}
use Rattle.std.proofs.lemmas.Iterator.Consumers.{YieldsList-at, YieldsList-from_first}
use Rattle.text.specs.Cursors.{left}
use Rattle.text.specs.Splits.{pieces}
use Rattle.tracestate.specs.Lists.{read_piece, shown}
use Rattle.tracestate.proofs.Folds.{fold_while, try_fold-viewed}
use Rattle.tracestate.proofs.Reading.{nothing, reads_all}
use Rattle.tracestate.proofs.read.read_tracestate.Goals as goal

pub returns : goal.returns
returns c =
    let start : shown c.default.result ≡ nothing = cc in
    let s = c.args.s.now in
    let items = YieldsList-from_take 32 (YieldsList-at c.take.ensures.source (YieldsList-from_first (λ x. x.now) left (pieces 0x2C s) c.new.ensures)) c.take.ensures.count in
    try_fold-viewed _ _ _ shown _ read_piece _ (λ a x b q k. search (rules, tests)) c.try_fold.ensures.ran items
    ∙ ap (λ f. fold_while read_piece f (take 32 (pieces 0x2C s))) start ∙ reads_all s
