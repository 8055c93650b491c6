use borrow.Author.Tests.{tests}
use Rattle.std.proofs.Common.{◌^◌, ◌∙◌, not, rules}
use Rattle.std.proofs.lemmas.Iterator.{YieldsList-from_map}
use Rattle.std.proofs.lemmas.Iterator.Consumers.{YieldsList-at, YieldsList-from_filter, sum_by_from_yields_List, fits_by_from_yields_list}
use Rattle.std.specs.Str.{bytes_eq}
use Rattle.block.specs.Blocks.{without}
use Rattle.block.specs.Lines.{lines_of}
use Rattle.block.proofs.Roads.{lines_road, text_len, text-sum, text-within}
use Rattle.block.proofs.Writes.{without_shorter}
use Rattle.block.proofs.look.others_len.Goals as goal

pub sum-requires-clause-fits : goal.sum-requires-clause-fits
sum-requires-clause-fits c =
    fits_by_from_yields_list text_len (without c.args.name.now (lines_of c.args.text.now)) c.map.result (2 ^ 64)
    (YieldsList-from_map _ text_len
    (YieldsList-at c.map.ensures.source
    (YieldsList-from_filter _ (λ l. not (bytes_eq l.name c.args.name.now)) (YieldsList-at c.filter.ensures.source (lines_road c.args.text)) c.filter.ensures.closure (λ x b q k. search (rules, tests))))
    c.map.ensures.closure (λ x r q k. search (rules, tests)))
    (let sum = text-sum (without c.args.name.now (lines_of c.args.text.now)) in
    let shorter = without_shorter c.args.name.now (lines_of c.args.text.now) in
    let within = text-within c.args.text.now in search rules)

pub returns : goal.returns
returns c =
    sum_by_from_yields_List text_len (without c.args.name.now (lines_of c.args.text.now)) c.map.result c.sum.result c.sum.ensures.ran
    (YieldsList-from_map _ text_len
    (YieldsList-at c.map.ensures.source
    (YieldsList-from_filter _ (λ l. not (bytes_eq l.name c.args.name.now)) (YieldsList-at c.filter.ensures.source (lines_road c.args.text)) c.filter.ensures.closure (λ x b q k. search (rules, tests))))
    c.map.ensures.closure (λ x r q k. search (rules, tests)))
    ∙ text-sum (without c.args.name.now (lines_of c.args.text.now))
