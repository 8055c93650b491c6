use Rattle.std.proofs.Common.{length, sym, ap, ◌∙◌, arith, length-set, rules}
use Rattle.std.proofs.lemmas.Bool.{and_from}
use Rattle.std.specs.List.{list_all}
use Rattle.carrier.specs.Names.{distinct}
use Rattle.slots.specs.Places.{lawful_place, Places, names}
use Rattle.slots.specs.Slots.{places_of}
use Rattle.slots.proofs.Keeping.{lawful-put, once-put}
use Rattle.slots.proofs.Setting.{name-fits, slot_room, slot_within, stored, taken}
use Rattle.slots.proofs.table.SlotTableInjector.set.Goals as goal

pub bounds-self-at : goal.bounds-self-at
bounds-self-at c = let h = slot_within c.args.self.now.slots c.args.name.now (length c.args.value.now) c.in_ok-at.at (sym c.in_ok-at.ensures.ok_part ∙ c.slot_for.ensures) in omega arith

pub offset_bounds-self-at : goal.offset_bounds-self-at
offset_bounds-self-at c = let h = slot_within c.args.self.now.slots c.args.name.now (length c.args.value.now) c.in_ok-at.at (sym c.in_ok-at.ensures.ok_part ∙ c.slot_for.ensures) in search rules

pub fill-requires-clause-name : goal.fill-requires-clause-name
fill-requires-clause-name c = name-fits c.args.name.now (sym c.if-not-is_name.ensures)

pub invariant_of-self : goal.invariant_of-self
invariant_of-self c =
    let ss = c.args.self.now.slots in
    let n = c.args.name.now in
    let v = c.args.value.now in
    let after = stored ss n (length v) c.in_ok-at.at (sym c.in_ok-at.ensures.ok_part ∙ c.slot_for.ensures) v _ c.fill.ensures in
    record {
      sixteen = length-set ss _ _ ∙ c.args.self.now.sixteen;
      lawful = ap (list_all lawful_place) after ∙ lawful-put (places_of ss) n v c.args.self.now.lawful (and_from _ _ (sym c.if-not-is_name.ensures) (sym c.if-not-is_lawful.ensures));
      once = ap (λ (ps : Places). distinct (names ps)) after ∙ once-put (places_of ss) n v c.args.self.now.once;
    }

pub returns-clause-after : goal.returns-clause-after
returns-clause-after c =
    let ss = c.args.self.now.slots in
    let n = c.args.name.now in
    let v = c.args.value.now in
    let known = sym c.in_ok-at.ensures.ok_part ∙ c.slot_for.ensures in
    taken _ _ _ _ c.if-not-is_name.ensures c.if-not-is_lawful.ensures (slot_room ss n (length v) c.in_ok-at.at known) (stored ss n (length v) c.in_ok-at.at known v _ c.fill.ensures)
