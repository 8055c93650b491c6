use Rattle.std.proofs.Common.{sym, ◌∙◌, ap, None}
use Rattle.std.proofs.lemmas.List.{get_or-map}
use Rattle.std.specs.Option.{option_map}
use Rattle.slots.specs.Places.{Entry, Place, named}
use Rattle.slots.specs.Slots.{place_of, places_of}
use Rattle.slots.proofs.Looking.{found-shown, none-shown}
use Rattle.slots.proofs.Searching.{found_none, found_at, slot_within}
use Rattle.slots.proofs.table.SlotTableExtractor.get.Goals as goal

pub returns-in_err-at : goal.returns-in_err-at
returns-in_err-at c =
    let ps = places_of c.args.self.now.slots in
    rw c.from_residual.ensures (none-shown ps c.args.name.now (found_none (named c.args.name.now) ps (sym c.find.ensures ∙ c.in_err-at.was)))

pub returns : goal.returns
returns c =
    let ps = places_of c.args.self.now.slots in
    let found = found_at (named c.args.name.now) ps c.in_ok-at.at (sym c.find.ensures ∙ c.in_ok-at.was) in
    let here = slot_within (named c.args.name.now) c.args.self.now.slots c.in_ok-at.at found.1 found.0 in
    c.value.ensures
    ∙ ap (λ (p : Place). option_map (λ (e : Entry). e.value) p) (sym (get_or-map place_of c.args.self.now.slots c.in_ok-at.at _ None here))
    ∙ found-shown ps c.args.name.now c.in_ok-at.at c.args.self.now.lawful found.0 found.1
