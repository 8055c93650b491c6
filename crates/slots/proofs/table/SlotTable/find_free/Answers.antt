use Rattle.std.proofs.Common.{◌∙◌, rules, tests}
use Rattle.std.proofs.lemmas.Iterator.{YieldsList-from_slice}
use Rattle.std.proofs.lemmas.Iterator.Search.{position_from_yields_List}
use Rattle.slots.specs.Places.{free}
use Rattle.slots.specs.Slots.{place_of}
use Rattle.slots.proofs.Searching.{searched}
use Rattle.slots.proofs.table.SlotTable.find_free.Goals as goal

pub returns : goal.returns
returns c =
    position_from_yields_List (λ s. free (place_of s)) _ _ _ c.position.ensures.ran (YieldsList-from_slice c.args.self.now.slots cc) (λ x b q k. search (rules, tests))
    ∙ searched free c.args.self.now.slots
