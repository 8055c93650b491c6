use borrow.Author.Tests.{tests}
use Rattle.std.proofs.Common.{◌^◌, ◌∙◌, rules}
use Rattle.std.proofs.lemmas.Iterator.{YieldsList-from_map}
use Rattle.std.proofs.lemmas.Iterator.Consumers.{YieldsList-at, sum_by_from_yields_List, fits_by_from_yields_list}
use Rattle.block.specs.Lines.{lines_of}
use Rattle.block.proofs.Roads.{lines_road, text_len, text-sum, text-within}
use Rattle.block.proofs.look.lines_len.Goals as goal

pub sum-requires-clause-fits : goal.sum-requires-clause-fits
sum-requires-clause-fits c =
    fits_by_from_yields_list text_len (lines_of c.args.text.now) c.map.result (2 ^ 64)
    (YieldsList-from_map _ text_len (YieldsList-at c.map.ensures.source (lines_road c.args.text)) c.map.ensures.closure (λ x r q k. search (rules, tests)))
    (let sum = text-sum (lines_of c.args.text.now) in let within = text-within c.args.text.now in search rules)

pub returns : goal.returns
returns c =
    sum_by_from_yields_List text_len (lines_of c.args.text.now) c.map.result c.sum.result c.sum.ensures.ran
    (YieldsList-from_map _ text_len (YieldsList-at c.map.ensures.source (lines_road c.args.text)) c.map.ensures.closure (λ x r q k. search (rules, tests)))
    ∙ text-sum (lines_of c.args.text.now)
