use borrow.Author.Tests.{tests}
use Rattle.std.proofs.Common.{rules}
use Rattle.std.proofs.lemmas.Iterator.Search.{find_from_yields_List}
use Rattle.std.specs.Str.{bytes_eq}
use Rattle.block.proofs.Looks.{found_is}
use Rattle.block.proofs.Roads.{lines_road}
use Rattle.block.proofs.look.find.Goals as goal

pub returns : goal.returns
returns c =
    let found = find_from_yields_List (λ l. bytes_eq l.name c.args.name.now) c.find.new.self _ c.find.result c.find.ensures.ran (lines_road c.args.block) (λ x b q k. search (rules, tests)) in
    let shown = found_is c.args.block.now c.args.name.now _ found in search rules
