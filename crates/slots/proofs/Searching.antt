-- A search among the slots, and what it finds. Assumes nothing.
use Rattle.std.proofs.Common.{◌≡◌, ℕ, ◌+◌, ◌<◌, ◌≤◌, Bool, true, false, cond, not, ◌||◌, List, [], ◌∷◌, length, Some, None, Option, sym, refl, ap, ◌∙◌, position, arith}
use Rattle.std.proofs.lemmas.List.{length-map}
use Rattle.std.proofs.lemmas.Bool.{lt-ltb, le-ltb, cond-true, le-leb}
use Rattle.std.specs.List.{list_any, position_or_len}
use Rattle.std.specs.Option.{option_or}
use Rattle.carrier.specs.Names.{is_name}
use Rattle.slots.specs.Places.{Place, Places, named, free, room, place_for}
use Rattle.slots.specs.Rules.{within, past}
use Rattle.slots.specs.Slots.{place_of, places_of}
use Rattle.slots.specs.declared.slot.Slot.{Slot}

module _ (P : Place → Bool) where
  first_place : (ss : List Slot) → position_or_len (λ s. P (place_of s)) ss ≡ position_or_len P (places_of ss)
  first_place [] = refl
  first_place (s ∷ ss) = ap (λ (n : ℕ). cond (not (P (place_of s))) (1 + n) 0) (first_place ss)

  -- a search among the slots is one among their places
  pub searched : (ss : List Slot) → position (λ s. P (place_of s)) ss ≡ position P (places_of ss)
  searched ss = rw (first_place ss, length-map ss place_of) refl

  -- it finds the first place that passes, if there is one
  pub position_is : (ps : Places) → position P ps ≡ cond (list_any P ps) (Some (position_or_len P ps)) None
  position_is ps = by (list_any P ps) refl where
    by : (t : Bool) → list_any P ps ≡ t → position P ps ≡ cond t (Some (position_or_len P ps)) None
    by true e = cond-true _ _ _ (lt-ltb (position_or_len P ps) (length ps) (within P ps e))
    by false e = rw (le-ltb (position_or_len P ps) (length ps) (let all = past P ps e in omega arith)) refl

  -- the answer tells whether one passes, and where the first does
  pub found_none : (ps : Places) → position P ps ≡ None → list_any P ps ≡ false
  found_none ps e = by (list_any P ps) (sym (position_is ps) ∙ e) where
    by : (t : Bool) → cond t (Some (position_or_len P ps)) None ≡ None → t ≡ false
    by true f = cc
    by false f = refl

  pub found_at : (ps : Places) (i : ℕ) → position P ps ≡ Some i → (list_any P ps ≡ true) × (i ≡ position_or_len P ps)
  found_at ps i e = by (list_any P ps) (sym (position_is ps) ∙ e) where
    by : (t : Bool) → cond t (Some (position_or_len P ps)) None ≡ Some i → (t ≡ true) × (i ≡ position_or_len P ps)
    by true f = (refl, cc)
    by false f = (cc, cc)

  pub slot_within : (ss : List Slot) (i : ℕ) → i ≡ position_or_len P (places_of ss) → list_any P (places_of ss) ≡ true → i < length ss
  slot_within ss i at any = let l = within P (places_of ss) any in let m = length-map ss place_of in omega arith

-- what `slot_for` answers
module _ (ps : Places) (n : List ℕ) (len : ℕ) where
  abbrev Answer : Option ℕ
  Answer = cond (room ps n len) (Some (place_for ps n)) None

  either : (a b : Bool) (i j : ℕ) → option_or (cond a (Some i) None) (cond b (Some j) None) ≡ cond (a || b) (Some (cond a i j)) None
  either true b i j = refl
  either false b i j = refl

  -- the place that has the name, or else the first free one
  pub placed : is_name n ≡ true → len ≤ 1024 → option_or (position (named n) ps) (position free ps) ≡ Answer
  placed good le = rw (position_is (named n) ps, position_is free ps, good, le-leb len 1024 le) (either (list_any (named n) ps) (list_any free ps) _ _)
