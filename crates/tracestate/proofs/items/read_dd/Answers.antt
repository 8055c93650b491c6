use Rattle.std.proofs.Common.{◌≡◌, ap, ◌∙◌, rules, tests}
use Rattle.std.proofs.lemmas.Iterator.Consumers.{YieldsList-at, YieldsList-from_first}
use Rattle.std.specs.List.{filter_map, fold}
use Rattle.text.specs.Cursors.{left}
use Rattle.text.specs.Splits.{pieces}
use Rattle.text.specs.Trims.{trimmed}
use Rattle.tracestate.specs.Items.{hear, says, told}
use Rattle.tracestate.proofs.Folds.{fold-viewed, YieldsList-from_filter_map_by}
use Rattle.tracestate.proofs.Hearing.{silence, kind_in, hears_all}
use Rattle.tracestate.proofs.items.read_dd.Goals as goal

pub returns : goal.returns
returns c =
    let ps = pieces 0x3B (trimmed c.args.value.now) in
    let start : says c.default.result ≡ silence = cc in
    let whole : left c.new.result ≡ ps = c.new.ensures ∙ ap (pieces 0x3B) c.trim.ensures in
    fold-viewed says _ hear c.fold.ensures.ran
    (YieldsList-from_filter_map_by _ _ told _ kind_in _ (λ x r q k. search (rules, tests)) (YieldsList-at c.filter_map.ensures.source (YieldsList-from_first (λ x. x.now) left ps whole)) c.filter_map.ensures.closure)
    (λ a x b q k. search (rules, tests))
    ∙ ap (λ h. fold hear h (filter_map kind_in ps)) start
    ∙ hears_all c.args.value.now
