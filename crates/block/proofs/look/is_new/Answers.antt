use borrow.Author.Tests.{tests}
use Rattle.std.proofs.Common.{not, ap, rules}
use Rattle.std.proofs.lemmas.Iterator.{YieldsList-from_take}
use Rattle.std.proofs.lemmas.Iterator.Consumers.{YieldsList-at}
use Rattle.std.proofs.lemmas.Iterator.Search.{any_from_yields_List}
use Rattle.std.specs.Str.{bytes_eq}
use Rattle.block.proofs.Roads.{lines_road}
use Rattle.block.proofs.look.is_new.Goals as goal

pub returns : goal.returns
returns c =
    ap not (any_from_yields_List (λ l. bytes_eq l.name c.args.name.now) c.any.new.self _ c.any.result c.any.ensures.ran
    (YieldsList-from_take c.args.at (YieldsList-at c.take.ensures.source (lines_road c.args.block)) c.take.ensures.count) (λ x b q k. search (rules, tests)))
