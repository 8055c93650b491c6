use Rattle.std.proofs.Common.{◌≡◌, false, ◌&&◌, length, sym, ap, ◌∙◌, arith}
use Rattle.std.proofs.lemmas.Bool.{and_left, and_right, and_from, le-leb, leb-true}
use Rattle.text.specs.Texts.{lawful}
use Rattle.store.specs.Contents.{fits, put_answer, after_put}
use Rattle.store.specs.Stores.{held}
use Rattle.store.specs.Uses.{in_use, has_room}
use Rattle.store.proofs.Answering.{accepted, refused_full}
use Rattle.store.proofs.Changing.{next, set-fits, set_lies}
use Rattle.store.proofs.Cuts.{within}
use Rattle.store.proofs.Holding.{bounds, held-sound, kept}
use Rattle.store.proofs.Laying.{lies_back}
use Rattle.store.proofs.Sounds.{sound-placed}
use Rattle.store.proofs.Splices.{length-replaced}
use Rattle.store.proofs.memory.Store.insert.Goals as goal
use Rattle.store.proofs.memory.Store.insert.Goals.{then-not-has_room-via-then-not-has_room, then-not-has_room-via-else-not-has_room+then-not-has_room-2}

pub bytes-bytes-requires : goal.bytes-bytes-requires
bytes-bytes-requires c = let s = c.args.self.now in let b = bounds s in let w = within s c.args.key.now c.find-place.result c.find-place.ensures in omega arith

pub has_room-requires : goal.has_room-requires
has_room-requires c = let s = c.args.self.now in let w = within s c.args.key.now c.find-place.result c.find-place.ensures in omega arith

pub has_room-requires-else-not-has_room : goal.has_room-requires-else-not-has_room
has_room-requires-else-not-has_room c = let s = c.args.self.now in let w = within s c.args.key.now c.find-place.result c.find-place.ensures in omega arith

pub replace-requires-clause-within : goal.replace-requires-clause-within
replace-requires-clause-within c = let s = c.args.self.now in let w = within s c.args.key.now c.find-place.result c.find-place.ensures in omega arith

pub overflow_add-place : goal.overflow_add-place
overflow_add-place c =
    let s = c.args.self.now in
    let b = bounds s in
    let w = within s c.args.key.now c.find-place.result c.find-place.ensures in
    let fit = leb-true _ _ (sym c.has_room-else-not-has_room.ensures ∙ c.if-not-has_room-2.false) in
    omega arith

pub replace-requires-2-clause-within : goal.replace-requires-2-clause-within
replace-requires-2-clause-within c =
    let s = c.args.self.now in
    let w = within s c.args.key.now c.find-place.result c.find-place.ensures in
    omega (arith, ap length c.replace.ensures.items, length-replaced (in_use s.text) c.args.key.now c.find-place.result.at c.bytes-bytes.result (omega arith))

pub replace-requires-2-clause-fits : goal.replace-requires-2-clause-fits
replace-requires-2-clause-fits c =
    let s = c.args.self.now in
    let w = within s c.args.key.now c.find-place.result c.find-place.ensures in
    let fit = leb-true _ _ (sym c.has_room-else-not-has_room.ensures ∙ c.if-not-has_room-2.false) in
    le-leb _ _ (omega (arith, c.replace.ensures.room, ap length c.replace.ensures.items, length-replaced (in_use s.text) c.args.key.now c.find-place.result.at c.bytes-bytes.result (omega arith)))

pub replace-requires-3-clause-within : goal.replace-requires-3-clause-within
replace-requires-3-clause-within c = let s = c.args.self.now in let w = within s c.args.key.now c.find-place.result c.find-place.ensures in omega arith

pub returns-then-not-has_room-clause-answer : goal.returns-then-not-has_room-clause-answer
unfolding put_answer
returns-then-not-has_room-clause-answer c =
    let s = c.args.self.now in
    let k = c.args.key.now in
    let v = c.args.value.now in
    let none : fits (next s c.args.key.now c.find-place.result c.find-place.ensures c.tags-tags.result c.bytes-bytes.result c.tags-tags.ensures c.bytes-bytes.ensures v) ≡ false =
    set-fits s c.args.key.now c.find-place.result c.find-place.ensures c.tags-tags.result c.bytes-bytes.result c.tags-tags.ensures c.bytes-bytes.ensures v
    ∙ (elim c.then-not-has_room.branch [
      | then-not-has_room-via-then-not-has_room w ↦ and_left (has_room s.spans c.tags-tags.result 1) _ (sym c.has_room.ensures ∙ w.if-not-has_room.true)
      | then-not-has_room-via-else-not-has_room+then-not-has_room-2 w ↦ and_right (has_room s.spans c.tags-tags.result 1) _ (sym w.has_room-else-not-has_room.ensures ∙ w.if-not-has_room-2.true)
    ]) in
    (refused_full (lawful k && lawful v) _ (held s) (and_from (lawful k) (lawful v) c.requires.key c.requires.value) none).answers

pub returns-then-not-has_room-clause-after : goal.returns-then-not-has_room-clause-after
unfolding after_put
returns-then-not-has_room-clause-after c =
    let s = c.args.self.now in
    let k = c.args.key.now in
    let v = c.args.value.now in
    let none : fits (next s c.args.key.now c.find-place.result c.find-place.ensures c.tags-tags.result c.bytes-bytes.result c.tags-tags.ensures c.bytes-bytes.ensures v) ≡ false =
    set-fits s c.args.key.now c.find-place.result c.find-place.ensures c.tags-tags.result c.bytes-bytes.result c.tags-tags.ensures c.bytes-bytes.ensures v
    ∙ (elim c.then-not-has_room.branch [
      | then-not-has_room-via-then-not-has_room w ↦ and_left (has_room s.spans c.tags-tags.result 1) _ (sym c.has_room.ensures ∙ w.if-not-has_room.true)
      | then-not-has_room-via-else-not-has_room+then-not-has_room-2 w ↦ and_right (has_room s.spans c.tags-tags.result 1) _ (sym w.has_room-else-not-has_room.ensures ∙ w.if-not-has_room-2.true)
    ]) in
    (refused_full (lawful k && lawful v) _ (held s) (and_from (lawful k) (lawful v) c.requires.key c.requires.value) none).leaves

pub invariant_of-self : goal.invariant_of-self
invariant_of-self c =
    let s = c.args.self.now in
    let b = bounds s in
    kept c.replace-3.new.self c.replace-2.new.self
    (set_lies s c.args.key.now c.find-place.result c.find-place.ensures c.tags-tags.result c.bytes-bytes.result c.tags-tags.ensures c.bytes-bytes.ensures c.args.value.now _ _ _ _ _ c.replace-3.ensures.room (c.replace-2.ensures.room ∙ c.replace.ensures.room)
    c.replace-3.ensures.items c.replace.ensures.items c.replace-2.ensures.items)
    (sound-placed (held s) (held-sound s) c.args.key.now c.args.value.now c.requires.key c.requires.value)
    (omega (arith, c.replace-3.ensures.room), omega (arith, c.replace-2.ensures.room, c.replace.ensures.room))

pub returns-clause-answer : goal.returns-clause-answer
unfolding put_answer
returns-clause-answer c =
    let s = c.args.self.now in
    let k = c.args.key.now in
    let v = c.args.value.now in
    let room = set-fits s c.args.key.now c.find-place.result c.find-place.ensures c.tags-tags.result c.bytes-bytes.result c.tags-tags.ensures c.bytes-bytes.ensures v
    ∙ and_from (has_room s.spans c.tags-tags.result 1) _ (sym c.has_room.ensures ∙ c.if-not-has_room.false) (sym c.has_room-else-not-has_room.ensures ∙ c.if-not-has_room-2.false) in
    (accepted (lawful k && lawful v) _ (held s) (and_from (lawful k) (lawful v) c.requires.key c.requires.value) room).answers

pub returns-clause-after : goal.returns-clause-after
unfolding held after_put
returns-clause-after c =
    let s = c.args.self.now in
    let k = c.args.key.now in
    let v = c.args.value.now in
    let room = set-fits s c.args.key.now c.find-place.result c.find-place.ensures c.tags-tags.result c.bytes-bytes.result c.tags-tags.ensures c.bytes-bytes.ensures v
    ∙ and_from (has_room s.spans c.tags-tags.result 1) _ (sym c.has_room.ensures ∙ c.if-not-has_room.false) (sym c.has_room-else-not-has_room.ensures ∙ c.if-not-has_room-2.false) in
    lies_back
    (set_lies s c.args.key.now c.find-place.result c.find-place.ensures c.tags-tags.result c.bytes-bytes.result c.tags-tags.ensures c.bytes-bytes.ensures v _ _ _ _ _ c.replace-3.ensures.room (c.replace-2.ensures.room ∙ c.replace.ensures.room)
    c.replace-3.ensures.items c.replace.ensures.items c.replace-2.ensures.items)
    ∙ (accepted (lawful k && lawful v) _ (held s) (and_from (lawful k) (lawful v) c.requires.key c.requires.value) room).leaves
