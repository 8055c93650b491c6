-- The slots after a set and an unset. Assumes nothing.
use Rattle.std.proofs.Common.{◌≡◌, ℕ, ◌<◌, ◌≤◌, Bool, true, false, cond, ◌&&◌, leb, List, length, set, Some, None, sym, refl, ap, ◌∙◌, arith}
use Rattle.std.proofs.lemmas.List.{length-map, map-set}
use Rattle.std.proofs.lemmas.Bool.{and_parts, leb-true}
use Rattle.byte_classes.specs.Sets.{name}
use Rattle.std.specs.List.{list_all}
use Rattle.carrier.specs.Names.{is_name}
use Rattle.slots.specs.Places.{entry, Place, room, place_for, put}
use Rattle.slots.specs.Rules.{place_within, roomy}
use Rattle.slots.specs.Slots.{place_of, places_of}
use Rattle.slots.specs.declared.slot.Slot.{Slot}

answered : {X : Type 0} (t : Bool) (x y : X) → Some x ≡ cond t (Some y) None → (t ≡ true) × (x ≡ y)
answered true x y e = (refl, cc)
answered false x y e = (cc, cc)

-- the slot to fill, as `slot_for` answers it
module _ (ss : List Slot) (n : List ℕ) (len i : ℕ) (e : Some i ≡ cond (room (places_of ss) n len) (Some (place_for (places_of ss) n)) None) where
  pub slot_room : room (places_of ss) n len ≡ true
  slot_room = (answered (room (places_of ss) n len) i (place_for (places_of ss) n) e).0

  pub slot_within : i < length ss
  slot_within =
      let place = answered (room (places_of ss) n len) i (place_for (places_of ss) n) e in
      let l = place_within (places_of ss) n (roomy (places_of ss) n len slot_room).place in
      let m = length-map ss place_of in
      let at = place.1 in
      omega arith

  pub stored : (v : List ℕ) (x : Slot) → place_of x ≡ Some (entry n v) → places_of (set ss i x) ≡ put (places_of ss) n v
  stored v x is = map-set place_of ss i x ∙ rw ((answered (room (places_of ss) n len) i (place_for (places_of ss) n) e).1, is) refl

pub taken : {X : Type 0} {new put : X} (old : X) (a b r : Bool) → true ≡ a → true ≡ b → r ≡ true → new ≡ put → new ≡ cond ((a && b) && r) put old
taken old a b r e f g is = rw (sym e, sym f, g) is

pub freed : (ss : List Slot) (i : ℕ) (x : Slot) → place_of x ≡ None → places_of (set ss i x) ≡ set (places_of ss) i None
freed ss i x e = map-set place_of ss i x ∙ ap (λ (p : Place). set (places_of ss) i p) e

pub name-fits : (n : List ℕ) → is_name n ≡ true → length n ≤ 64
unfolding is_name
name-fits n e = leb-true (length n) 64 (and_parts (leb (length n) 64) (list_all name n) (and_parts _ _ e).1).0
