use borrow.Author.Tests.{tests}
use Rattle.std.proofs.Common.{length, filter, sym, ap, ◌∙◌, rules}
use Rattle.std.proofs.lemmas.Iterator.Consumers.{YieldsList-at, YieldsList-from_enumerate, YieldsList-from_filter, count_from_yields_List}
use Rattle.std.proofs.lemmas.List.{length-map}
use Rattle.std.specs.List.{enumerate_from}
use Rattle.block.specs.Lines.{lines_of}
use Rattle.block.proofs.Listing.{is_first, name_of, names_by_place, names-list}
use Rattle.block.proofs.Roads.{lines_road, lines-few}
use Rattle.block.proofs.Walks.{lines-lawful}
use Rattle.block.proofs.look.name_count.Goals as goal

pub count-requires-clause-can : goal.count-requires-clause-can
count-requires-clause-can c = let few = lines-few c.args.block.now in search rules

pub count-requires-clause-fits : goal.count-requires-clause-fits
count-requires-clause-fits c = let few = lines-few c.args.block.now in search rules

pub returns-clause-count : goal.returns-clause-count
returns-clause-count c =
    let ls = lines_of c.args.block.now in
    count_from_yields_List c.filter.result c.count.result c.count.ensures.ran
    (YieldsList-from_filter _ (is_first ls) (YieldsList-at c.filter.ensures.source (YieldsList-from_enumerate (YieldsList-at c.enumerate.ensures.source (lines_road c.args.block)) c.enumerate.ensures.count))
    c.filter.ensures.closure (λ x b q k. search (rules, tests)))
    ∙ sym (length-map (filter (is_first ls) (enumerate_from 0 ls)) name_of) ∙ ap length (names_by_place ls)

pub returns-clause-lists : goal.returns-clause-lists
returns-clause-lists c = names-list (lines_of c.args.block.now) (lines-lawful c.args.block.now)
