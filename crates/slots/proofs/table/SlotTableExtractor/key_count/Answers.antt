use Rattle.std.proofs.Common.{◌≡◌, ◌∙◌, length, rules, tests}
use Rattle.std.proofs.lemmas.Iterator.{YieldsList-from_slice}
use Rattle.std.proofs.lemmas.Iterator.Consumers.{count_from_yields_List, YieldsList-from_filter}
use Rattle.slots.specs.Places.{names}
use Rattle.slots.specs.Slots.{places_of}
use Rattle.slots.proofs.Listing.{lists, used, name_count}
use Rattle.slots.proofs.table.SlotTableExtractor.key_count.Goals as goal

pub returns : goal.returns
returns c =
    let ss = c.args.self.now.slots in
    let counted : c.count.result ≡ length (names (places_of ss)) = count_from_yields_List c.filter.result _ c.count.ensures.ran (YieldsList-from_filter _ used (YieldsList-from_slice ss cc) c.filter.ensures.closure (λ x r q k. search (rules, tests))) ∙ name_count ss in
    record { count = search (rules, tests); lists = lists (places_of ss) c.args.self.now.lawful c.args.self.now.once }
