use Rattle.std.proofs.Common.{sym, ap, ◌∙◌, None, refl, length-set}
use Rattle.std.specs.List.{list_all}
use Rattle.carrier.specs.Names.{distinct}
use Rattle.slots.specs.Places.{lawful_place, Places, named, names}
use Rattle.slots.specs.Slots.{places_of}
use Rattle.slots.proofs.Keeping.{lawful-set, once_freed, cut_none, cut_one}
use Rattle.slots.proofs.Searching.{found_none, found_at}
use Rattle.slots.proofs.Setting.{freed}
use Rattle.slots.proofs.table.SlotTableInjector.unset.Goals as goal

pub invariant_of-self : goal.invariant_of-self
invariant_of-self c =
    let ss = c.args.self.now.slots in
    let after = freed ss c.in-Some.at _ c.clear.ensures in
    record {
      sixteen = length-set ss _ _ ∙ c.args.self.now.sixteen;
      lawful = ap (list_all lawful_place) after ∙ lawful-set (places_of ss) c.in-Some.at None c.args.self.now.lawful refl;
      once = ap (λ (ps : Places). distinct (names ps)) after ∙ once_freed (places_of ss) c.in-Some.at c.args.self.now.once;
    }

pub returns-in-Some : goal.returns-in-Some
returns-in-Some c =
    let ps = places_of c.args.self.now.slots in
    let n = c.args.name.now in
    let found = found_at (named n) ps c.in-Some.at (sym c.in-Some.ensures) in
    freed c.args.self.now.slots c.in-Some.at _ c.clear.ensures ∙ rw found.1 (cut_one ps n c.args.self.now.once found.0)

pub returns-in_default : goal.returns-in_default
returns-in_default c =
    let ps = places_of c.args.self.now.slots in
    sym (cut_none ps c.args.name.now (found_none (named c.args.name.now) ps (sym c.in_default.ensures)))
