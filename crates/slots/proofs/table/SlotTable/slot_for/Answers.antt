use Rattle.std.proofs.Common.{◌≡◌, ◌∙◌, sym, position, rules, tests, arith}
use Rattle.std.specs.Option.{option_or}
use Rattle.slots.specs.Places.{named, free}
use Rattle.slots.specs.Slots.{places_of}
use Rattle.slots.proofs.Searching.{placed}
use Rattle.slots.proofs.table.SlotTable.slot_for.Goals as goal

pub returns : goal.returns
returns c =
    let ps = places_of c.args.self.now.slots in
    let either : c.or_else.result ≡ option_or (position (named c.args.name.now) ps) (position free ps) = search (rules, tests) in
    let found = either ∙ placed ps c.args.name.now c.args.len (sym c.if-not-is_name.ensures) (omega arith) in
    search (rules, tests)
