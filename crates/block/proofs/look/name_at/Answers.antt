use borrow.Author.Tests.{tests}
use Rattle.std.proofs.Common.{filter, sym, ap, ◌∙◌, rules}
use Rattle.std.proofs.lemmas.Iterator.Consumers.{YieldsList-at, YieldsList-from_enumerate, YieldsList-from_filter, nth_from_yields_List}
use Rattle.std.proofs.lemmas.Option.{slice_get-map}
use Rattle.std.specs.List.{enumerate_from, slice_get}
use Rattle.std.specs.Option.{option_map}
use Rattle.block.specs.Lines.{lines_of}
use Rattle.block.proofs.Listing.{is_first, name_of, names_by_place}
use Rattle.block.proofs.Roads.{lines_road, lines-few}
use Rattle.block.proofs.look.name_at.Goals as goal

pub nth-requires : goal.nth-requires
nth-requires c = let few = lines-few c.args.block.now in search rules

pub returns : goal.returns
returns c =
    let ls = lines_of c.args.block.now in
    let found = nth_from_yields_List c.nth.result c.nth.new.self c.args.at c.nth.ensures.ran
    (YieldsList-from_filter _ (is_first ls) (YieldsList-at c.filter.ensures.source (YieldsList-from_enumerate (YieldsList-at c.enumerate.ensures.source (lines_road c.args.block)) c.enumerate.ensures.count))
    c.filter.ensures.closure (λ x b q k. search (rules, tests))) in
    let name = ap (option_map name_of) found ∙ sym (slice_get-map name_of (filter (is_first ls) (enumerate_from 0 ls)) c.args.at) ∙ ap (λ ns. slice_get ns c.args.at) (names_by_place ls) in
    search rules
