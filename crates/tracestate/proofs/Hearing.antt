-- Items heard one after the other, and what they say together. Assumes nothing.
use Rattle.std.proofs.Common.{◌≡◌, ℕ, List, [], ◌∷◌, Some, None, Option, refl, ◌∙◌}
use Rattle.std.specs.List.{cons_option, filter_map, fold}
use Rattle.std.specs.Option.{option_map}
use Rattle.text.specs.Splits.{pieces}
use Rattle.text.specs.Trims.{trimmed}
use Rattle.tracestate.specs.Items.{item_of, kinded, also, items_of, items, of_kind, last_of, Heard, heard, hear}
use Rattle.tracestate.specs.Members.{Pair, newer}
use Rattle.tracestate.proofs.Reading.{newer_assoc, newer_none}

-- the kind of the item that a piece writes
abbrev pub kind_in : List ℕ → Option (ℕ × Pair)
kind_in p = option_map kinded (item_of p)

abbrev pub silence : Heard
silence = record { priority = None; origin = None; parent = None }

abbrev three : Option (List ℕ) → Option (List ℕ) → Option (List ℕ) → Heard
three a b c = record { priority = a; origin = b; parent = c }

-- what items say, after what was heard before them
abbrev after : Heard → List Pair → Heard
after h ps = three (newer (last_of 0 ps) h.priority) (newer (last_of 1 ps) h.origin) (newer (last_of 2 ps) h.parent)

after-hear : (h : Heard) (p : Pair) (ps : List Pair) → after (hear h (kinded p)) ps ≡ after h (p ∷ ps)
after-hear h p ps =
    λ i. three (newer_assoc (last_of 0 ps) (of_kind 0 (kinded p)) h.priority i) (newer_assoc (last_of 1 ps) (of_kind 1 (kinded p)) h.origin i) (newer_assoc (last_of 2 ps) (of_kind 2 (kinded p)) h.parent i)

more : (h : Heard) (o : Option Pair) (ps : List (List ℕ)) → ((g : Heard) → fold hear g (filter_map kind_in ps) ≡ after g (items_of ps)) → fold hear h (cons_option (option_map kinded o) (filter_map kind_in ps)) ≡ after h (also o (items_of ps))
more h None ps e = e h
more h (Some p) ps e = e (hear h (kinded p)) ∙ after-hear h p (items_of ps)

hears : (ps : List (List ℕ)) (h : Heard) → fold hear h (filter_map kind_in ps) ≡ after h (items_of ps)
hears [] h = refl
hears (p ∷ ps) h = more h (item_of p) ps (hears ps)

pub hears_all : (value : List ℕ) → fold hear silence (filter_map kind_in (pieces 0x3B (trimmed value))) ≡ heard (items value)
unfolding items heard
hears_all value =
    let ps = items_of (pieces 0x3B (trimmed value)) in
    hears (pieces 0x3B (trimmed value)) silence ∙ (λ i. three (newer_none (last_of 0 ps) i) (newer_none (last_of 1 ps) i) (newer_none (last_of 2 ps) i))
