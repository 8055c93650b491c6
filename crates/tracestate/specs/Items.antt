-- The items of a dd value. Assumes nothing.
use Rattle.std.specs.Prelude.{ℕ, Bool, false, cond, ◌||◌, List, [], ◌∷◌, is_some, Some, None, codes, Option, ◌==◌}
use Rattle.std.specs.Option.{option_map}
use Rattle.std.specs.Str.{bytes_eq}
use Rattle.text.specs.Cursors.{left}
use Rattle.text.specs.Splits.{split_once, pieces}
use Rattle.text.specs.Takes.{stripped}
use Rattle.text.specs.Trims.{trimmed}
use Rattle.tracestate.specs.Members.{Pair, pair, newer}
use Rattle.tracestate.specs.declared.items.Dd.{Dd}
use Rattle.tracestate.specs.declared.items.DdItem.{DdItem}
use Rattle.tracestate.specs.declared.items.DdItem.TheVariants as item
use Rattle.tracestate.specs.declared.items.DdTags.{DdTags}

-- a piece splits at its first colon; one without is no item
abbrev pub item_of : List ℕ → Option Pair
item_of piece = option_map pair (split_once 0x3A piece)

-- the kinds of items, by number
abbrev pub kind_of : List ℕ → ℕ
kind_of key =
    cond (bytes_eq key (codes "s")) 0
    (cond (bytes_eq key (codes "o")) 1
    (cond (bytes_eq key (codes "p")) 2
    (cond (is_some (stripped (codes "t.") key)) 3 4)))

-- the number of each case, its key and its value
abbrev pub told : DdItem → ℕ × Pair
told (item.Priority k v) = (0, record { key = k.now; value = v.now })
told (item.Origin k v) = (1, record { key = k.now; value = v.now })
told (item.LastParent k v) = (2, record { key = k.now; value = v.now })
told (item.Tag k v) = (3, record { key = k.now; value = v.now })
told (item.Other k v) = (4, record { key = k.now; value = v.now })

abbrev pub kinded : Pair → ℕ × Pair
kinded p = (kind_of p.key, p)

abbrev pub also : Option Pair → List Pair → List Pair
also None ps = ps
also (Some p) ps = p ∷ ps

abbrev pub items_of : List (List ℕ) → List Pair
items_of [] = []
items_of (p ∷ ps) = also (item_of p) (items_of ps)

-- the items of a dd value, blanks off, between semicolons
unfoldable pub items : List ℕ → List Pair
items value = items_of (pieces 0x3B (trimmed value))

-- whether one of them has the key
abbrev pub has_key : List ℕ → List Pair → Bool
has_key key [] = false
has_key key (p ∷ ps) = bytes_eq p.key key || has_key key ps

-- those that no later one of the same key replaces
abbrev pub standing : List Pair → List Pair
standing [] = []
standing (p ∷ ps) = cond (has_key p.key ps) (standing ps) (p ∷ standing ps)

-- the tag that an item is: what follows `t.`, and its value
abbrev pub tag_of : Pair → Option Pair
tag_of p = option_map (λ rest. record { key = rest; value = p.value }) (stripped (codes "t.") p.key)

abbrev pub tags_of : List Pair → List Pair
tags_of [] = []
tags_of (p ∷ ps) = also (tag_of p) (tags_of ps)

-- the tags of a dd value, in the order of the items that stand
unfoldable pub tags : List Pair → List Pair
tags ps = tags_of (standing ps)

-- the value of an item, if it is of that kind
abbrev pub of_kind : ℕ → ℕ × Pair → Option (List ℕ)
of_kind n x = cond (x.0 == n) (Some x.1.value) None

-- the value of the last item of a kind
abbrev pub last_of : ℕ → List Pair → Option (List ℕ)
last_of n [] = None
last_of n (p ∷ ps) = newer (last_of n ps) (of_kind n (kinded p))

-- what a dd value says besides its tags: the last priority, origin and last parent
pub record Heard : Type 0 where
  pub priority : Option (List ℕ)
  pub origin : Option (List ℕ)
  pub parent : Option (List ℕ)

unfoldable pub heard : List Pair → Heard
heard ps = record { priority = last_of 0 ps; origin = last_of 1 ps; parent = last_of 2 ps }

abbrev pub says : Dd → Heard
says d = record { priority = option_map (λ x. x.now) d.priority; origin = option_map (λ x. x.now) d.origin; parent = option_map (λ x. x.now) d.last_parent }

-- what is heard once an item more is read
abbrev pub hear : Heard → ℕ × Pair → Heard
hear h x = record { priority = newer (of_kind 0 x) h.priority; origin = newer (of_kind 1 x) h.origin; parent = newer (of_kind 2 x) h.parent }

-- whether an item has the key
abbrev pub key_in : List ℕ → Option Pair → Bool
key_in key None = false
key_in key (Some p) = bytes_eq p.key key

-- the tag that an item is, unless a later item replaces it
abbrev pub standing_tag : Option Pair → List Pair → Option Pair
standing_tag None later = None
standing_tag (Some p) later = cond (has_key p.key later) None (tag_of p)

-- the tags that are still to come
abbrev pub tags_left : DdTags → List Pair
tags_left t = tags (items_of (left t.pieces))
