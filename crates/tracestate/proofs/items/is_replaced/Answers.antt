use Rattle.std.proofs.Common.{refl, ◌∙◌, rules, tests}
use Rattle.std.proofs.lemmas.Iterator.Consumers.{YieldsList-from_first}
use Rattle.std.proofs.lemmas.Iterator.Search.{any_from_yields_List}
use Rattle.text.specs.Cursors.{left}
use Rattle.tracestate.specs.Items.{item_of, key_in}
use Rattle.tracestate.proofs.Tagging.{sought}
use Rattle.tracestate.proofs.items.is_replaced.Goals as goal

pub returns : goal.returns
returns c =
    let key = c.args.key.now in
    let pieces = left c.args.later in
    any_from_yields_List (λ p. key_in key (item_of p)) _ _ _ c.any.ensures.ran (YieldsList-from_first (λ x. x.now) left pieces refl) (λ x b q k. search (rules, tests)) ∙ sought key pieces
